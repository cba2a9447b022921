-- The dump and live routes: all source events are passed on, and the tuning of a device is set around them (this project's
-- own; the messages are those of the MIDI Tuning Standard).
use Rattle.std.specs.Prelude.{ℕ, suc, ◌≡◌, ◌<◌, List, [], ◌∷◌, ◌++◌, Bool, true, false, ◌&&◌, ◌||◌, not, nat_eq, if◌then◌else◌, Option, Some, None, set}
use Rattle.std.specs.List.{AllByRecursion}
use Rattle.mt_base.specs.declared.event.Msg.{Msg}
use Rattle.mt_base.specs.declared.event.Msg.TheVariants.{NoteOn}
use Rattle.mt_base.specs.Midi.{MidiEvent}
use Rattle.midi_model.specs.Sysex.{Doing, Plays, Resets, doing, is_reset, Retune, tuning_of}
use Rattle.midi_model.specs.Music.{Music, step}
use Rattle.midi_model.specs.Tuning.{Tuning, retuned, tuning_after}
use Rattle.retune_model.specs.Blocks.{Group, Selects, Sends, Block, written}

-- a translation of a list of events, block by block, from a state; `next` says what is kept in mind
abbrev pub translated : {S : Type 0} → (S → MidiEvent → Block) → (S → MidiEvent → S) → S → List MidiEvent → List MidiEvent
translated block next s [] = []
translated block next s (e ∷ es) = written (block s e) ++ translated block next (next s e) es

-- what is sent to set a device's tuning: system exclusive messages, then the selection of one tuning program on channels
pub record Setup : Type 0 where
  pub dumps : List (List ℕ)
  pub channels : List ℕ
  pub program : ℕ

abbrev pub sends : ℕ → ℕ → List (List ℕ) → List Group
sends t track [] = []
sends t track (b ∷ bs) = Sends t track b ∷ sends t track bs

abbrev pub selects : ℕ → ℕ → ℕ → List ℕ → List Group
selects t track p [] = []
selects t track p (c ∷ cs) = Selects t track c p ∷ selects t track p cs

abbrev pub setup_at : Setup → MidiEvent → List Group
setup_at s e = sends e.tick e.track s.dumps ++ selects e.tick e.track s.program s.channels

-- Dump: the setup stands right before the first channel message, and from then on right behind each reset, at the tick and in
-- the track of what it stands beside. What is kept in mind is whether a channel message came.
abbrev pub dump_before : Setup → Bool → MidiEvent → Doing → List Group
dump_before s false e (Plays msg) = setup_at s e
dump_before s _ e _ = []

abbrev pub dump_behind : Setup → Bool → MidiEvent → Doing → List Group
dump_behind s true e Resets = setup_at s e
dump_behind s _ e _ = []

abbrev pub dump_next : Bool → Doing → Bool
dump_next b (Plays msg) = true
dump_next b _ = b

abbrev pub dump_block : Setup → Bool → MidiEvent → Block
dump_block s b e = record { before = dump_before s b e (doing e.what); event = e; behind = dump_behind s b e (doing e.what) }

abbrev pub dump_output : Setup → List MidiEvent → List MidiEvent
dump_output s es = translated (dump_block s) (λ b e. dump_next b (doing e.what)) false es

-- Live: besides, the change of a key stands right before the first note on of that key by a retuned part since the start or
-- the last reset.
pub record Live : Type 0 where
  pub setup : Setup
  pub is_retuned : ℕ → Bool
  pub change : ℕ → List ℕ

-- what is kept in mind: whether a channel message came, and of which keys a change was sent
pub record Told : Type 0 where
  pub begun : Bool
  pub keys : ℕ → Bool

abbrev pub nothing_told : Told
nothing_told = record { begun = false; keys = λ k. false }

abbrev pub change_due : Live → Told → MidiEvent → Msg → List Group
change_due l s e (NoteOn c k (suc v)) = if l.is_retuned c && not (s.keys k) then Sends e.tick e.track (l.change k) ∷ [] else []
change_due l s e _ = []

abbrev pub live_before : Live → Told → MidiEvent → Doing → List Group
live_before l s e (Plays msg) = dump_before l.setup s.begun e (Plays msg) ++ change_due l s e msg
live_before l s e _ = []

abbrev pub keys_told : Live → (ℕ → Bool) → Msg → ℕ → Bool
keys_told l told (NoteOn c j (suc v)) k = (l.is_retuned c && nat_eq j k) || told k
keys_told l told _ k = told k

abbrev pub live_next : Live → Told → Doing → Told
live_next l s (Plays msg) = record { begun = true; keys = keys_told l s.keys msg }
live_next l s Resets = record { begun = s.begun; keys = λ k. false }
live_next l s _ = s

abbrev pub live_block : Live → Told → MidiEvent → Block
live_block l s e = record { before = live_before l s e (doing e.what); event = e; behind = dump_behind l.setup s.begun e (doing e.what) }

abbrev pub live_output : Live → List MidiEvent → List MidiEvent
live_output l es = translated (live_block l) (λ s e. live_next l s (doing e.what)) nothing_told es

-- a setup without a reset, and with channels 0 to 15
pub record IsHarmless (s : Setup) : Type 0 where
  pub dumps : AllByRecursion (λ b. is_reset b ≡ false) s.dumps
  pub channels : AllByRecursion (λ c. c < 16) s.channels

pub record IsHarmlessLive (l : Live) : Type 0 where
  pub setup : IsHarmless l.setup
  pub change : (k : ℕ) → is_reset (l.change k) ≡ false

-- what groups do to the tuning
abbrev pub renewed : Option Retune → Tuning → Tuning
renewed (Some r) u = record u { values = retuned r.program r.keys u.values }
renewed None u = u

abbrev pub tuned_by : List Group → Tuning → Tuning
tuned_by [] u = u
tuned_by (Selects t track c p ∷ gs) u = tuned_by gs (record u { selected = set u.selected c (Some p) })
tuned_by (Sends t track bytes ∷ gs) u = tuned_by gs (renewed (tuning_of bytes) u)

-- the tuning that a translation leaves, where its groups are silent
abbrev pub tuning_run : {S : Type 0} → (S → MidiEvent → Block) → (S → MidiEvent → S) → S → Music → Tuning → List MidiEvent → Tuning
tuning_run block next s m u [] = u
tuning_run block next s m u (e ∷ es) = tuning_run block next (next s e) (step m e) (tuned_by (block s e).behind (tuning_after m (doing e.what) (tuned_by (block s e).before u))) es
