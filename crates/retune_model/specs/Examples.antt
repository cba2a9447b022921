-- Worked examples: scales, mappings, tables of bounds, sources and what they cause. Channels are counted from 0.
use Rattle.std.specs.Prelude.{ℕ, zero, suc, ◌+◌, ◌*◌, ℤ, pos, List, [], ◌∷◌, ◌++◌, true, false, Bool, nat_eq, nat_lt, if◌then◌else◌, Option, Some, None, length, map}
use Rattle.mt_base.specs.declared.event.Msg.TheVariants.{NoteOn, NoteOff, Control, Program, Bend}
use Rattle.mt_base.specs.Midi.{MidiEvent, MetaOf}
use Rattle.midi_model.specs.TuningBytes.{select_of}
use Rattle.midi_model.specs.Examples.{at, all_at, sysex, general_midi_on}
use Rattle.scl_text.specs.declared.entry.Entry.{Entry}
use Rattle.scl_text.specs.declared.entry.Entry.TheVariants.{Ratio, Cents}
use Rattle.kbm_text.specs.Map.{KeyMap}
use Rattle.retune_model.specs.Table.{Bounds, Scaling, one_scale}
use Rattle.retune_model.specs.Options.{Options, Route, ByBend, ByMpe}
use Rattle.retune_model.specs.Faults.{Targets, Kind, is_part}
use Rattle.retune_model.specs.Pairs.{Pair}
use Rattle.midi_model.specs.Notes.{Note}
use Rattle.midi_model.specs.Receiver.{after}
use Rattle.retune_model.specs.Octave.{OctaveTuning, octave_played}
use Rattle.retune_model.specs.PortNeed.{pairs_on, held_on, need_of}
use Rattle.retune_model.specs.SourceFaults.{Fault, first_fault}

-- ---- scales and mappings

abbrev pub two_steps : List Entry
two_steps = Cents (pos 50000000000) ∷ Cents (pos 1200000000000) ∷ []

abbrev pub comma : List Entry
comma = Ratio 81 80 ∷ []

-- a hundred commas each key up, from key 60
abbrev pub comma_mapping : KeyMap
comma_mapping = record { first = 0; last = 127; middle = 60; reference = 60; nanohertz = 261625565300; octave = 100; entries = Some 0 ∷ [] }

-- twelve keys of which the second is left out
abbrev pub gapped_mapping : ℕ → KeyMap
gapped_mapping reference = record {
  first = 0;
  last = 127;
  middle = 60;
  reference = reference;
  nanohertz = 440000000000;
  octave = 12;
  entries = Some 0 ∷ None ∷ Some 2 ∷ Some 3 ∷ Some 4 ∷ Some 5 ∷ Some 6 ∷ Some 7 ∷ Some 8 ∷ Some 9 ∷ Some 10 ∷ Some 11 ∷ [];
}

-- no key is in the mapped range, so that every key is in equal temperament
abbrev pub no_keys : KeyMap
no_keys = record { first = 200; last = 200; middle = 60; reference = 60; nanohertz = 440000000000; octave = 0; entries = [] }

abbrev pub even : Scaling
even = one_scale [] no_keys

-- ---- tables

abbrev pub exact_bounds : ℕ → Bounds
exact_bounds n = record { lo = pos n; hi = pos n }

-- equal temperament
abbrev pub equal_table : Targets
equal_table key onset = Some (exact_bounds (3200000000000 * key))

-- with an octave of just intonation from key 60: a third of 386.313714 cents, a fifth of 701.955001
abbrev pub just_table : Targets
just_table key onset =
    if nat_eq key 64 then Some (exact_bounds (32 * 6386313714000))
    else if nat_eq key 67 then Some (exact_bounds (32 * 6701955001000))
    else Some (exact_bounds (3200000000000 * key))

-- equal temperament without key 61
abbrev pub gapped_table : Targets
gapped_table key onset = if nat_eq key 61 then None else Some (exact_bounds (3200000000000 * key))

-- keys 69 and 70 at one pitch
abbrev pub joined_table : Targets
joined_table key onset = if nat_eq key 70 then Some (exact_bounds (3200000000000 * 69)) else Some (exact_bounds (3200000000000 * key))

-- equal temperament a semitone higher
abbrev pub raised_table : Targets
raised_table key onset = Some (exact_bounds (3200000000000 * (key + 1)))

-- equal temperament, and the just octave from tick 480 on
abbrev pub changing_table : Targets
changing_table key onset = if nat_lt onset 480 then equal_table key onset else just_table key onset

-- ---- options

abbrev pub with_route : Route → ℕ → Options
with_route route range = record { route = route; range = range; keep_drums = true; program = 0; tail = 0 }

abbrev pub bend_options : Options
bend_options = with_route ByBend 12

-- with a bend sensitivity and a tail
abbrev pub at_range : ℕ → ℕ → Options
at_range range tail = record (with_route ByBend range) { tail = tail }

-- notes rest for so many ticks
abbrev pub resting : ℕ → Options
resting tail = record bend_options { tail = tail }

abbrev pub mpe_options : Options
mpe_options = with_route ByMpe 48

-- ---- sources

abbrev pub end_at : ℕ → MidiEvent
end_at t = record { tick = t; track = 0; what = MetaOf 0x2f [] }

-- one note
abbrev pub one_note : List MidiEvent
one_note = at 0 (NoteOn 0 69 64) ∷ at 480 (NoteOff 0 69 64) ∷ end_at 480 ∷ []

-- a chord of one part
abbrev pub chord : List MidiEvent
chord = all_at 0 (NoteOn 0 60 64 ∷ NoteOn 0 64 64 ∷ NoteOn 0 67 64 ∷ []) ++ all_at 480 (NoteOff 0 60 64 ∷ NoteOff 0 64 64 ∷ NoteOff 0 67 64 ∷ [])

-- an octave of one part, and one key of two parts
abbrev pub octave_apart : List MidiEvent
octave_apart = all_at 0 (NoteOn 0 60 64 ∷ NoteOn 0 72 64 ∷ [])

abbrev pub two_parts : List MidiEvent
two_parts = all_at 0 (NoteOn 0 69 64 ∷ NoteOn 1 69 64 ∷ [])

-- one part after another, on one channel
abbrev pub taken_over : List MidiEvent
taken_over = all_at 0 (Program 0 5 ∷ Control 0 7 80 ∷ NoteOn 0 69 64 ∷ []) ++ (all_at 480 (NoteOff 0 69 64 ∷ NoteOn 1 69 64 ∷ []) ++ at 960 (NoteOff 1 69 64) ∷ [])

-- a reset between two notes
abbrev pub reset_between : List MidiEvent
reset_between = at 0 (NoteOn 0 69 64) ∷ sysex 480 general_midi_on ∷ at 960 (NoteOn 0 69 64) ∷ at 1440 (NoteOff 0 69 64) ∷ []

-- the wheel of a part, turned and reset under a note
abbrev pub wheel : List MidiEvent
wheel = at 0 (NoteOn 0 69 64) ∷ at 240 (Control 0 1 100) ∷ at 480 (Control 0 121 0) ∷ at 960 (NoteOff 0 69 64) ∷ []

-- one part after another at the same key; the second begins at a tick
abbrev pub one_after_other : ℕ → List MidiEvent
one_after_other t = at 0 (NoteOn 0 69 64) ∷ at 480 (NoteOff 0 69 64) ∷ at t (NoteOn 1 69 64) ∷ at 960 (NoteOff 1 69 64) ∷ []

-- a bend while a note rests
abbrev pub bent_at_rest : List MidiEvent
bent_at_rest = at 0 (NoteOn 0 69 64) ∷ at 480 (NoteOff 0 69 64) ∷ at 490 (Bend 0 12288) ∷ []

-- one note after another of one part at the same key, with a program between them; the second begins at a tick
abbrev pub struck_again_at : ℕ → List MidiEvent
struck_again_at t = at 0 (NoteOn 0 69 64) ∷ at 480 (NoteOff 0 69 64) ∷ at 490 (Program 0 5) ∷ at t (NoteOn 0 69 64) ∷ []

-- a key of which the just third is struck while it sounds in equal temperament, with a bend between them
abbrev pub struck_bent : ℕ → List MidiEvent
struck_bent bend = at 0 (NoteOn 0 64 64) ∷ at 240 (Bend 0 bend) ∷ at 480 (NoteOn 0 64 64) ∷ []

-- so many parameters of the first channel, set to other values than their defaults
abbrev pub set_parameters : ℕ → List MidiEvent
set_parameters zero = at 0 (Control 0 99 0) ∷ []
set_parameters (suc n) = set_parameters n ++ all_at 0 (Control 0 98 n ∷ Control 0 6 1 ∷ [])

-- ---- sources with ports: a track with a port and one note

abbrev pub port_event : ℕ → ℕ → MidiEvent
port_event track port = record { tick = 0; track = track; what = MetaOf 0x21 (port ∷ []) }

abbrev pub in_track : ℕ → MidiEvent → MidiEvent
in_track track e = record e { track = track }

abbrev pub begins_in : ℕ → List MidiEvent
begins_in z = port_event z z ∷ in_track z (at 0 (NoteOn 0 69 64)) ∷ []

abbrev pub ends_in : ℕ → List MidiEvent
ends_in z = in_track z (at 480 (NoteOff 0 69 64)) ∷ []

abbrev pub two_ports : List MidiEvent
two_ports = begins_in 0 ++ (begins_in 1 ++ (ends_in 0 ++ ends_in 1))

abbrev pub five_ports : List MidiEvent
five_ports = begins_in 0 ++ (begins_in 1 ++ (begins_in 2 ++ (begins_in 3 ++ begins_in 4)))

-- with a dump of one byte, and the selection on the first channel
abbrev pub setup_in : ℕ → List MidiEvent
setup_in z = map (in_track z) (sysex 0 (1 ∷ []) ∷ all_at 0 (select_of 0 0))

abbrev pub dumped_begins_in : ℕ → List MidiEvent
dumped_begins_in z = port_event z z ∷ (setup_in z ++ in_track z (at 0 (NoteOn 0 69 64)) ∷ [])

-- ---- what is asked

-- how many pairs of a port there are at each position from k on
abbrev pub counts_from : Options → Targets → List MidiEvent → ℕ → ℕ → ℕ → List ℕ
counts_from o table es z k zero = []
counts_from o table es z k (suc n) = length (pairs_on o (is_part o) table es z k) ∷ counts_from o table es z (k + 1) n

abbrev pub counts : Options → Targets → List MidiEvent → ℕ → List ℕ
counts o table es z = counts_from o table es z 0 (suc (length es))

abbrev pub pairs : Options → Targets → List MidiEvent → ℕ → ℕ → List Pair
pairs o table es z k = pairs_on o (is_part o) table es z k

abbrev pub held : Options → Targets → List MidiEvent → ℕ → ℕ → List Pair
held o table es z k = held_on o (is_part o) table es z k

abbrev pub needed : Options → List MidiEvent → ℕ → ℕ × ℕ
needed o es z = need_of o (is_part o) equal_table es z

-- a part of a port with so many steps
abbrev pub pair : ℕ → ℕ → ℤ → Pair
pair z c q = record { part = record { port = z; channel = c }; steps = q }

-- the position and the kind of the first fault
abbrev pub fault_if : Option Fault → Option (ℕ × Kind)
fault_if (Some f) = Some (f.position, f.kind)
fault_if None = None

abbrev pub fault_of : Options → Targets → List MidiEvent → Option (ℕ × Kind)
fault_of o table es = fault_if (first_fault o table es)

-- the change of key 69 to 69 semitones
abbrev pub change : ℕ → List ℕ
change k = 0x7f ∷ 0x7f ∷ 0x08 ∷ 0x02 ∷ 0x00 ∷ 0x01 ∷ k ∷ k ∷ 0x00 ∷ 0x00 ∷ 0xf7 ∷ []

-- ---- octave tuning

-- twelve values as they are written: all level; and A raised by one step
abbrev pub level_bytes : List ℕ
level_bytes = 64 ∷ 0 ∷ 64 ∷ 0 ∷ 64 ∷ 0 ∷ 64 ∷ 0 ∷ 64 ∷ 0 ∷ 64 ∷ 0 ∷ 64 ∷ 0 ∷ 64 ∷ 0 ∷ 64 ∷ 0 ∷ 64 ∷ 0 ∷ 64 ∷ 0 ∷ 64 ∷ 0 ∷ []

abbrev pub raised_bytes : List ℕ
raised_bytes = 64 ∷ 0 ∷ 64 ∷ 0 ∷ 64 ∷ 0 ∷ 64 ∷ 0 ∷ 64 ∷ 0 ∷ 64 ∷ 0 ∷ 64 ∷ 0 ∷ 64 ∷ 0 ∷ 64 ∷ 0 ∷ 64 ∷ 1 ∷ 64 ∷ 0 ∷ 64 ∷ 0 ∷ []

-- for channels of the last of the three bytes
abbrev pub octave_message : ℕ → List ℕ → List ℕ
octave_message channels values = 0x7e ∷ 0x7f ∷ 8 ∷ 9 ∷ 0 ∷ 0 ∷ channels ∷ (values ++ 0xf7 ∷ [])

abbrev pub read_values : Option OctaveTuning → List ℕ
read_values (Some m) = m.values
read_values None = []

abbrev pub read_for : Option OctaveTuning → ℕ → Bool
read_for (Some m) c = m.channels c
read_for None c = false

-- the pitch of the first note that has begun on the first channel
abbrev pub pitch_of_first : List MidiEvent → List Note → ℤ
pitch_of_first es [] = pos 0
pitch_of_first es (n ∷ ns) = octave_played es n

abbrev pub octave_pitch : List MidiEvent → ℤ
octave_pitch es = pitch_of_first es (after es).music.notes
