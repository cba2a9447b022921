-- The output of the bend route (this project's own): each pair of a part and a bend has a channel of its own on its port, from its first
-- note to the end of its last rest.
--
-- `there` are the pairs at the position before an event, and `held` those whose runs hold their channels at it. `was` and `is` give each
-- pair its channel at the position before and after it.
use Rattle.std.specs.Prelude.{ℕ, zero, suc, List, [], ◌∷◌, ◌++◌, ◌&&◌, nat_eq, nat_lt, if◌then◌else◌, Option, Some, None, map}
use Rattle.std.specs.Set.{is_member}
use Rattle.mt_base.specs.declared.event.Msg.{Msg}
use Rattle.mt_base.specs.declared.event.Msg.TheVariants.{NoteOn, NoteOff, Control}
use Rattle.mt_base.specs.Midi.{MidiWhat, Says, SysexOf, MetaOf, MidiEvent, channel_of}
use Rattle.midi_model.specs.Channel.{Role, AllSoundOff, AllNotesOff, Ignored, role}
use Rattle.midi_model.specs.Notes.{Note, is_down, is_at}
use Rattle.midi_model.specs.Music.{Music, quiet, play, step, state_at}
use Rattle.midi_model.specs.Bring.{bring}
use Rattle.retune_model.specs.Table.{BendTarget}
use Rattle.retune_model.specs.Options.{Options}
use Rattle.retune_model.specs.Ports.{Numbered}
use Rattle.retune_model.specs.PlaysTheSame.{bend_target_if}
use Rattle.retune_model.specs.Faults.{Targets, is_part, target_of}
use Rattle.retune_model.specs.Pairs.{Pair, is_same_pair}
use Rattle.retune_model.specs.PortNeed.{pairs_on, held_on}
use Rattle.retune_model.specs.PortOutput.{through_ports}
use Rattle.channel_model.specs.Choice.{wanted}

-- ---- what a message of a part causes

abbrev pub pair_with : ℕ → ℕ → BendTarget → Pair
pair_with z c t = record { part = record { port = z; channel = c }; steps = t.steps }

-- a new note of a channel of port z, on its pair's channel; where its run begins here, that is first brought to what the pair needs
abbrev pub note_begins : ℕ → Options → Targets → List Pair → (after out : Music) → (Pair → ℕ) → (c velocity : ℕ) → Option BendTarget → List Msg
note_begins z o table there after out place c velocity (Some t) =
    let p = pair_with z c t in
    (if is_member is_same_pair there p then [] else bring (place p) (state_at out (place p)) (wanted o table after p))
    ++ NoteOn (place p) t.key velocity ∷ []
note_begins z o table there after out place c velocity None = []

-- the note of a key that is down
abbrev pub pressed_note : ℕ → ℕ → List Note → Option Note
pressed_note c k [] = None
pressed_note c k (n ∷ ns) = if is_at c k n && is_down n then Some n else pressed_note c k ns

-- a note off goes to the note's channel and target key; `off` says of which kind it is
abbrev pub off_at : ℕ → (Pair → ℕ) → (ℕ → ℕ → Msg) → ℕ → Option BendTarget → List Msg
off_at z place off c (Some t) = off (place (pair_with z c t)) t.key ∷ []
off_at z place off c None = []

abbrev pub note_released : ℕ → Options → Targets → (Pair → ℕ) → (ℕ → ℕ → Msg) → ℕ → Option Note → List Msg
note_released z o table place off c (Some n) = off_at z place off c (target_of o table n)
note_released z o table place off c None = []

-- a pair that holds a channel
pub record Held : Type 0 where
  pub channel : ℕ
  pub pair : Pair

abbrev pub put_held : Held → List Held → List Held
put_held h [] = h ∷ []
put_held h (g ∷ gs) = if nat_lt h.channel g.channel then h ∷ g ∷ gs else g ∷ put_held h gs

-- the pairs of a channel of the port with the channels that their runs hold, by channel
abbrev pub held_by : (Pair → ℕ) → ℕ → List Pair → List Held
held_by place c [] = []
held_by place c (p ∷ ps) = if nat_eq p.part.channel c then put_held (record { channel = place p; pair = p }) (held_by place c ps) else held_by place c ps

-- each channel that the part holds is brought to what its pair needs now
abbrev pub bring_all : Options → Targets → (after out : Music) → List Held → List Msg
bring_all o table after out [] = []
bring_all o table after out (h ∷ hs) = bring h.channel (state_at out h.channel) (wanted o table after h.pair) ++ bring_all o table after out hs

-- a controller that acts on notes is sent on each channel that the part holds
abbrev pub send_all : ℕ → ℕ → List Held → List Msg
send_all n v [] = []
send_all n v (h ∷ hs) = Control h.channel n v ∷ send_all n v hs

abbrev pub controller_causes : Options → Targets → (after out : Music) → List Held → ℕ → ℕ → Role → List Msg
controller_causes o table after out held n v AllSoundOff = send_all n v held
controller_causes o table after out held n v AllNotesOff = send_all n v held
controller_causes o table after out held n v Ignored = []
controller_causes o table after out held n v _ = bring_all o table after out held

-- What a message of a retuned part of port z causes: before and after are the music of the port in the source before and after it,
-- out is that of the port in the output before it.
abbrev pub part_causes : ℕ → Options → Targets → (there held : List Pair) → (before after out : Music) → (was is : Pair → ℕ) → ℕ → Msg → List Msg
part_causes z o table there held before after out was is t (NoteOn c k (suc v)) = note_begins z o table there after out is c (suc v) (bend_target_if o.range (table k t))
part_causes z o table there held before after out was is t (NoteOn c k zero) = note_released z o table was (λ d j. NoteOn d j 0) c (pressed_note c k before.notes)
part_causes z o table there held before after out was is t (NoteOff c k v) = note_released z o table was (λ d j. NoteOff d j v) c (pressed_note c k before.notes)
part_causes z o table there held before after out was is t (Control c n v) = controller_causes o table after out (held_by was c held) n v (role n)
part_causes z o table there held before after out was is t m = bring_all o table after out (held_by was (channel_of m) held)

-- ---- the output

-- what an event causes: kept drums, system exclusive and meta events are passed on
abbrev pub bend_causes : ℕ → Options → Targets → (there held : List Pair) → (before after out : Music) → (was is : Pair → ℕ) → ℕ → MidiWhat → List MidiWhat
bend_causes z o table there held before after out was is t (Says m) =
    if is_part o (channel_of m) then map Says (part_causes z o table there held before after out was is t m) else Says m ∷ []
bend_causes z o table there held before after out was is t (SysexOf lead bytes) = SysexOf lead bytes ∷ []
bend_causes z o table there held before after out was is t (MetaOf kind bytes) = MetaOf kind bytes ∷ []

abbrev pub placed_at : MidiEvent → List MidiWhat → List MidiEvent
placed_at e ws = map (λ (w : MidiWhat). record e { what = w }) ws

-- at the tick and in the track of the event
abbrev pub bend_block : ℕ → Options → Targets → (there held : List Pair) → (before out : Music) → (was is : Pair → ℕ) → MidiEvent → List MidiEvent
bend_block z o table there held before out was is e = placed_at e (bend_causes z o table there held before (step before e) out was is e.tick e.what)

-- the position before
abbrev pub before_it : ℕ → ℕ
before_it zero = zero
before_it (suc k) = k

-- What a port's runs are: the pairs at each position, those whose runs hold their channels at each event, and the channel that the run
-- of a pair has at a position.
pub record PortRuns : Type 0 where
  pub number : ℕ
  pub pairs : ℕ → List Pair
  pub held : ℕ → List Pair
  pub channel : ℕ → Pair → ℕ

-- of a file; `channel z k p` is the channel that the run of p has on port z at position k
abbrev pub runs_on : Options → Targets → List MidiEvent → (ℕ → ℕ → Pair → ℕ) → ℕ → PortRuns
runs_on o table es channel z =
    record { number = z; pairs = pairs_on o (is_part o) table es z; held = held_on o (is_part o) table es z; channel = channel z }

-- what is kept in mind for a port: the music of the source and of the output
pub record Played : Type 0 where
  pub source : Music
  pub out : Music

abbrev pub unplayed : Played
unplayed = record { source = quiet; out = quiet }

abbrev pub next_block : Options → Targets → PortRuns → Played → Numbered → List MidiEvent
next_block o table runs s n =
    bend_block runs.number o table (runs.pairs (before_it n.position)) (runs.held n.position) s.source s.out (runs.channel (before_it n.position)) (runs.channel n.position) n.event

abbrev pub next_played : Options → Targets → PortRuns → Played → Numbered → Played
next_played o table runs s n = record { source = step s.source n.event; out = play s.out (next_block o table runs s n) }

-- The output of the bend route.
abbrev pub bend_output : Options → Targets → (ℕ → ℕ → Pair → ℕ) → List MidiEvent → List MidiEvent
bend_output o table channel es =
    through_ports (λ z s n. next_block o table (runs_on o table es channel z) s n) (λ z s n. next_played o table (runs_on o table es channel z) s n) unplayed es
