-- The output of the MPE route (MPE 1.0, in this project's profile): each of at most two parts of a port has a zone. The part's messages go
-- to the master, each note to the member of its pair, which has the pair's bend. Each port has zones of its own, whose setup stands right
-- before the port's first channel message and right behind each of its later resets.
use Rattle.std.specs.Prelude.{ℕ, zero, suc, ◌+◌, ◌-◌, pos, ◌+ℤ◌, List, [], ◌∷◌, ◌++◌, Bool, true, false, nat_eq, nat_lt, if◌then◌else◌, Option, Some, None, map}
use Rattle.std.specs.Set.{is_member}
use Rattle.mt_base.specs.declared.event.Msg.{Msg}
use Rattle.mt_base.specs.declared.event.Msg.TheVariants.{NoteOn, NoteOff, KeyPressure, Control, Program, Pressure, Bend}
use Rattle.mt_base.specs.Midi.{MidiWhat, Says, SysexOf, MetaOf, MidiEvent, channel_of}
use Rattle.midi_model.specs.Sysex.{Doing, Plays, Resets, doing}
use Rattle.midi_model.specs.Music.{Music, quiet, play, step, channel_at}
use Rattle.midi_model.specs.Bring.{where_differs, registered}
use Rattle.retune_model.specs.Table.{BendTarget}
use Rattle.retune_model.specs.Options.{Options}
use Rattle.retune_model.specs.Ports.{Numbered}
use Rattle.retune_model.specs.PlaysTheSame.{bend_target_if}
use Rattle.retune_model.specs.Faults.{Targets, is_part}
use Rattle.retune_model.specs.Pairs.{Pair, is_same_pair}
use Rattle.retune_model.specs.Routes.{dump_next}
use Rattle.retune_model.specs.PortOutput.{through_ports}
use Rattle.channel_model.specs.Choice.{bend_value}
use Rattle.channel_model.specs.BendOutput.{pair_with, pressed_note, note_released, placed_at, before_it, PortRuns, runs_on}

-- a zone: its part, a channel of the port, whether it is the upper one, and how many members it has
pub record Zone : Type 0 where
  pub part : ℕ
  pub upper : Bool
  pub members : ℕ

abbrev pub master_of : Zone → ℕ
master_of z = if z.upper then 15 else 0

-- the members from the master outward, counted from 0
abbrev pub member_at : Zone → ℕ → ℕ
member_at z i = if z.upper then 14 - i else 1 + i

abbrev pub members_from : Zone → ℕ → ℕ → List ℕ
members_from z i zero = []
members_from z i (suc n) = member_at z i ∷ members_from z (i + 1) n

-- ---- which zones there are

-- A part with its need. One part has the lower zone. Of two, given by channel, the one with the greater need has the lower zone,
-- at equal needs the first; the other has the upper zone. A zone has as many members as its part needs.
abbrev pub zone_with : Bool → ℕ × ℕ → Zone
zone_with upper p = record { part = p.0; upper = upper; members = p.1 }

abbrev pub zones_for : List (ℕ × ℕ) → List Zone
zones_for [] = []
zones_for (p ∷ []) = zone_with false p ∷ []
zones_for (p ∷ q ∷ _) = if nat_lt p.1 q.1 then zone_with false q ∷ zone_with true p ∷ [] else zone_with false p ∷ zone_with true q ∷ []

-- How many members the lower zone may have: 15 where it is alone, and with another zone 14 less what that one needs; 8 where drums
-- keep channel 10. The upper zone may have 14, or 5.
abbrev pub lower_allowed : Bool → List Zone → ℕ
lower_allowed true zones = 8
lower_allowed false (l ∷ u ∷ zones) = 14 - u.members
lower_allowed false zones = 15

abbrev pub upper_allowed : Bool → ℕ
upper_allowed drums = if drums then 5 else 14

-- ---- what sets them

abbrev pub range_each : ℕ → List ℕ → List Msg
range_each range [] = []
range_each range (c ∷ cs) = registered c 0 range ++ range_each range cs

-- what sets a zone: its size on the master, then each member's bend sensitivity, where it isn't the 48 that the zone gives
abbrev pub zone_setup : ℕ → Zone → List Msg
zone_setup range z = registered (master_of z) 6 z.members ++ (if nat_eq range 48 then [] else range_each range (members_from z 0 z.members))

abbrev pub zones_setup : ℕ → List Zone → List Msg
zones_setup range [] = []
zones_setup range (z ∷ zs) = zone_setup range z ++ zones_setup range zs

abbrev pub zone_of : ℕ → List Zone → Option Zone
zone_of part [] = None
zone_of part (z ∷ zs) = if nat_eq z.part part then Some z else zone_of part zs

-- ---- what a message of a part causes

-- a new note on its pair's member; where its run begins here, the member's bend comes first where it differs
abbrev pub member_begins : ℕ → Options → List Pair → (out : Music) → (Pair → ℕ) → (c velocity : ℕ) → Option BendTarget → List Msg
member_begins z o there out place c velocity (Some t) =
    let p = pair_with z c t in
    let bend = bend_value (pos 8192 +ℤ t.steps) in
    (if is_member is_same_pair there p then [] else where_differs (channel_at out (place p)).bend bend (Bend (place p) bend))
    ++ NoteOn (place p) t.key velocity ∷ []
member_begins z o there out place c velocity None = []

-- the same message on another channel
abbrev pub on_channel : ℕ → Msg → Msg
on_channel d (NoteOn c k v) = NoteOn d k v
on_channel d (NoteOff c k v) = NoteOff d k v
on_channel d (KeyPressure c k v) = KeyPressure d k v
on_channel d (Control c n v) = Control d n v
on_channel d (Program c p) = Program d p
on_channel d (Pressure c v) = Pressure d v
on_channel d (Bend c v) = Bend d v

abbrev pub zone_causes : ℕ → Options → Targets → List Pair → (before out : Music) → (was is : Pair → ℕ) → ℕ → ℕ → Msg → List Msg
zone_causes z o table there before out was is master t (NoteOn c k (suc v)) = member_begins z o there out is c (suc v) (bend_target_if o.range (table k t))
zone_causes z o table there before out was is master t (NoteOn c k zero) = note_released z o table was (λ d j. NoteOn d j 0) c (pressed_note c k before.notes)
zone_causes z o table there before out was is master t (NoteOff c k v) = note_released z o table was (λ d j. NoteOff d j v) c (pressed_note c k before.notes)
zone_causes z o table there before out was is master t m = on_channel master m ∷ []

-- a part without a note on has no zone, and causes nothing
abbrev pub in_zone : ℕ → Options → Targets → List Pair → (before out : Music) → (was is : Pair → ℕ) → ℕ → Msg → Option Zone → List Msg
in_zone z o table there before out was is t m (Some zone) = zone_causes z o table there before out was is (master_of zone) t m
in_zone z o table there before out was is t m None = []

-- ---- the output

abbrev pub mpe_causes : ℕ → Options → Targets → List Zone → List Pair → (before out : Music) → (was is : Pair → ℕ) → ℕ → MidiWhat → List MidiWhat
mpe_causes z o table zones there before out was is t (Says m) =
    if is_part o (channel_of m) then map Says (in_zone z o table there before out was is t m (zone_of (channel_of m) zones)) else Says m ∷ []
mpe_causes z o table zones there before out was is t (SysexOf lead bytes) = SysexOf lead bytes ∷ []
mpe_causes z o table zones there before out was is t (MetaOf kind bytes) = MetaOf kind bytes ∷ []

-- the setup stands right before the first channel message, and from then on right behind each reset
abbrev pub setup_before : List MidiWhat → Bool → Doing → List MidiWhat
setup_before setup false (Plays msg) = setup
setup_before setup _ _ = []

abbrev pub setup_behind : List MidiWhat → Bool → Doing → List MidiWhat
setup_behind setup true Resets = setup
setup_behind setup _ _ = []

-- with the output's music after the setup, where it stands here
abbrev pub mpe_block : ℕ → Options → Targets → List Zone → List Pair → Bool → (before out : Music) → (was is : Pair → ℕ) → MidiEvent → List MidiEvent
mpe_block z o table zones there begun before out was is e =
    let setup = map Says (zones_setup o.range zones) in
    let first = placed_at e (setup_before setup begun (doing e.what)) in
    first ++ placed_at e (mpe_causes z o table zones there before (play out first) was is e.tick e.what ++ setup_behind setup begun (doing e.what))

-- what is kept in mind for a port: whether a channel message came, and the music of the source and of the output
pub record Zoned : Type 0 where
  pub begun : Bool
  pub source : Music
  pub out : Music

abbrev pub unzoned : Zoned
unzoned = record { begun = false; source = quiet; out = quiet }

abbrev pub zoned_block : Options → Targets → List Zone → PortRuns → Zoned → Numbered → List MidiEvent
zoned_block o table zones runs s n =
    mpe_block runs.number o table zones (runs.pairs (before_it n.position)) s.begun s.source s.out (runs.channel (before_it n.position)) (runs.channel n.position) n.event

abbrev pub next_zoned : Options → Targets → List Zone → PortRuns → Zoned → Numbered → Zoned
next_zoned o table zones runs s n =
    record { begun = dump_next s.begun (doing n.event.what); source = step s.source n.event; out = play s.out (zoned_block o table zones runs s n) }

-- The output of the MPE route: zones z are the zones of port z, channel z k p is the member that the run of p has there at position k.
abbrev pub mpe_output : Options → Targets → (ℕ → List Zone) → (ℕ → ℕ → Pair → ℕ) → List MidiEvent → List MidiEvent
mpe_output o table zones channel es = through_ports
    (λ z s n. zoned_block o table (zones z) (runs_on o table es channel z) s n)
    (λ z s n. next_zoned o table (zones z) (runs_on o table es channel z) s n) unzoned es
