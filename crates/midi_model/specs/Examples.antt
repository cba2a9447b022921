-- Worked examples: lists of events in one track, and what is asked of a receiver after them. Channels are counted from 0.
use Rattle.std.specs.Prelude.{◌≡◌, ℕ, zero, suc, ◌+◌, List, [], ◌∷◌, ◌++◌, Option, map, ℤ}
use Rattle.mt_base.specs.declared.event.Msg.{Msg}
use Rattle.mt_base.specs.declared.event.Msg.TheVariants.{NoteOn, NoteOff, KeyPressure, Control, Program, Pressure, Bend}
use Rattle.mt_base.specs.Midi.{MidiEvent, Says, SysexOf}
use Rattle.midi_model.specs.Params.{value_of, rpn}
use Rattle.midi_model.specs.Channel.{State, control_of}
use Rattle.midi_model.specs.Zones.{Zones}
use Rattle.midi_model.specs.Notes.{ending}
use Rattle.midi_model.specs.Music.{Music, quiet, play, channel_at, state_at}
use Rattle.midi_model.specs.Receiver.{after}
use Rattle.midi_model.specs.Played.{played}
use Rattle.midi_model.specs.Bring.{registered}
use Rattle.midi_model.specs.TuningBytes.{select_of}

abbrev pub at : ℕ → Msg → MidiEvent
at t m = record { tick = t; track = 0; what = Says m }

abbrev pub all_at : ℕ → List Msg → List MidiEvent
all_at t [] = []
all_at t (m ∷ ms) = at t m ∷ all_at t ms

-- a system exclusive event with its lead and what follows it
abbrev pub sysex_with : ℕ → ℕ → List ℕ → MidiEvent
sysex_with lead t bytes = record { tick = t; track = 0; what = SysexOf lead bytes }

abbrev pub sysex : ℕ → List ℕ → MidiEvent
sysex t bytes = sysex_with 0xf0 t bytes

-- of each note, in the order of note ons: when it ended; how its key went up; its voice's program; its key's pressure
abbrev pub ends : List MidiEvent → List (Option ℕ)
ends es = map (λ n. n.ended) (play quiet es).notes

abbrev pub releases : List MidiEvent → List (Option (ℕ × ℕ))
releases es = map (λ n. n.release) (play quiet es).notes

abbrev pub programs : List MidiEvent → List ℕ
programs es = map (λ n. n.voice.program) (play quiet es).notes

abbrev pub pressures : List MidiEvent → List ℕ
pressures es = map (λ n. n.pressure) (play quiet es).notes

-- what each note would play now, in grains
abbrev pub pitches : List MidiEvent → List ℤ
pitches es = let r = after es in map (played r) r.music.notes

-- a controller of channel 0
abbrev pub controller_at : ℕ → List MidiEvent → ℕ
controller_at n es = control_of (channel_at (play quiet es) 0) n

abbrev pub state_of : ℕ → List MidiEvent → State
state_of c es = state_at (play quiet es) c

-- the bend sensitivity of each channel in semitones
abbrev pub bend_ranges_of : List MidiEvent → List ℕ
bend_ranges_of es = map (λ c. (value_of c.params (rpn 0)).0) (play quiet es).channels

abbrev pub zones_of : List MidiEvent → Zones
zones_of es = (play quiet es).zones

abbrev pub zones : ℕ → ℕ → Zones
zones lower upper = record { lower = lower; upper = upper }

-- Two channels: the pedal of one holds its note over its release, until it goes up, and holds nothing on the other.
abbrev pub two_channels : List MidiEvent
two_channels = at 0 (Control 0 64 127) ∷ at 0 (NoteOn 0 69 64) ∷ at 480 (NoteOff 0 69 64)
    ∷ at 480 (NoteOn 1 69 64) ∷ at 720 (NoteOff 1 69 64)
    ∷ at 960 (Control 0 64 0) ∷ at 960 (NoteOn 1 71 64) ∷ at 1440 (NoteOff 1 71 64) ∷ []

-- A key struck again under the pedal ends the note that the pedal held ..
abbrev pub struck_again : List MidiEvent
struck_again = at 0 (Control 0 64 127) ∷ at 0 (NoteOn 0 69 64) ∷ at 480 (NoteOff 0 69 64)
    ∷ at 600 (NoteOn 0 69 64) ∷ at 960 (NoteOff 0 69 64) ∷ at 1200 (Control 0 64 0) ∷ []

-- .. and also one whose key never went up.
abbrev pub struck_while_down : List MidiEvent
struck_while_down = at 0 (Control 0 64 127) ∷ at 0 (NoteOn 0 69 64) ∷ at 600 (NoteOn 0 69 64)
    ∷ at 960 (NoteOff 0 69 64) ∷ at 1200 (Control 0 64 0) ∷ []

-- The sostenuto pedal holds what was down when it went down, and not what was struck later: up to the fifth event, and all.
abbrev pub sostenuto_down : List MidiEvent
sostenuto_down = at 0 (NoteOn 0 69 64) ∷ at 240 (Control 0 66 127) ∷ at 480 (NoteOff 0 69 64)
    ∷ at 480 (NoteOn 0 71 64) ∷ at 960 (NoteOff 0 71 64) ∷ []

abbrev pub sostenuto_up : List MidiEvent
sostenuto_up = sostenuto_down ++ at 1440 (Control 0 66 0) ∷ []

-- A note on with velocity 0 releases with velocity 64.
abbrev pub released_by_zero : List MidiEvent
released_by_zero = at 0 (NoteOn 0 69 64) ∷ at 480 (NoteOn 0 69 0) ∷ []

abbrev pub general_midi_on : List ℕ
general_midi_on = 0x7e ∷ 0x7f ∷ 0x09 ∷ 0x01 ∷ 0xf7 ∷ []

-- A reset ends a note whose key is still down.
abbrev pub reset_between : List MidiEvent
reset_between = at 0 (NoteOn 0 69 64) ∷ sysex 480 general_midi_on
    ∷ at 960 (NoteOn 0 69 64) ∷ at 1440 (NoteOff 0 69 64) ∷ []

-- Reset all controllers: the modulation wheel, set and reset, under a note.
abbrev pub wheel_set : List MidiEvent
wheel_set = at 0 (NoteOn 0 69 64) ∷ at 240 (Control 0 1 100) ∷ []

abbrev pub wheel_reset : List MidiEvent
wheel_reset = wheel_set ++ at 480 (Control 0 121 0) ∷ []

-- all that reset all controllers clears is set, and volume, a program, a bank and a parameter besides
abbrev pub all_set : List MidiEvent
all_set = all_at 0 (Control 0 1 9 ∷ Control 0 7 80 ∷ Control 0 11 9 ∷ Control 0 0 3 ∷ Program 0 5
    ∷ Control 0 64 127 ∷ Control 0 65 127 ∷ Control 0 66 127 ∷ Control 0 67 127 ∷ Bend 0 0 ∷ Pressure 0 9
    ∷ NoteOn 0 60 64 ∷ KeyPressure 0 60 9 ∷ Control 0 101 0 ∷ Control 0 100 0 ∷ Control 0 6 12 ∷ [])

-- what is then left of it
abbrev pub all_left : List MidiEvent
all_left = all_at 0 (Control 0 7 80 ∷ Control 0 0 3 ∷ Program 0 5 ∷ NoteOn 0 60 64 ∷ registered 0 0 12)

-- a zone of so many members is set by its master
abbrev pub zone : ℕ → ℕ → List MidiEvent
zone master size = all_at 0 (registered master 6 size)

-- A note on a member of the lower zone, with a program, a pedal and a bend of the master's, and a bend, a program and a fine
-- tuning of its own.
abbrev pub on_member : List MidiEvent
on_member = zone 0 3 ++ all_at 0 (Program 0 9 ∷ Control 0 64 127 ∷ Bend 0 9192 ∷ Program 1 5
    ∷ Control 1 101 0 ∷ Control 1 100 1 ∷ Control 1 6 65 ∷ Bend 1 8193 ∷ NoteOn 1 60 64 ∷ [])

-- Zones, programs, pedals, bends, pressures and parameters away from their defaults, with a note that the pedal holds.
abbrev pub stirred : List MidiEvent
stirred = zone 15 4 ++ all_at 0 (Program 3 9 ∷ Control 2 64 127 ∷ Bend 5 0 ∷ Pressure 1 4
    ∷ Control 1 101 0 ∷ Control 1 100 0 ∷ Control 1 6 12 ∷ NoteOn 2 60 64 ∷ [])
    ++ (at 1 (NoteOff 2 60 64) ∷ at 1 (KeyPressure 2 60 5) ∷ [])

-- that, and then a system exclusive message at tick 9
abbrev pub then_sent : List ℕ → Music
then_sent bytes = play quiet (stirred ++ sysex 9 bytes ∷ [])

-- what a reset leaves of it: the note, ended
abbrev pub was_reset : Music
was_reset = record quiet { notes = map (ending 9) (play quiet stirred).notes }

-- the message is a reset, and one that does nothing
abbrev pub ResetsAll : List ℕ → Type 0
ResetsAll bytes = then_sent bytes ≡ was_reset

abbrev pub ChangesNothing : List ℕ → Type 0
ChangesNothing bytes = then_sent bytes ≡ play quiet stirred

-- a byte for each key from k on, with two zeros
abbrev pub semitones : ℕ → ℕ → List ℕ
semitones k zero = []
semitones k (suc n) = k ∷ 0 ∷ 0 ∷ semitones (k + 1) n

-- A dump of equal temperament to program 0, named mtune and eleven spaces.
abbrev pub dump : List ℕ
dump = (0x7e ∷ 0x7f ∷ 0x08 ∷ 0x01 ∷ 0x00 ∷ 0x6d ∷ 0x74 ∷ 0x75 ∷ 0x6e ∷ 0x65
    ∷ 0x20 ∷ 0x20 ∷ 0x20 ∷ 0x20 ∷ 0x20 ∷ 0x20 ∷ 0x20 ∷ 0x20 ∷ 0x20 ∷ 0x20 ∷ 0x20 ∷ [])
    ++ semitones 0 128 ++ (0x4f ∷ 0xf7 ∷ [])

-- A change of key 69 of program 0 to three bytes.
abbrev pub change : ℕ → ℕ → ℕ → List ℕ
change a b c = 0x7f ∷ 0x7f ∷ 0x08 ∷ 0x02 ∷ 0x00 ∷ 0x01 ∷ 0x45 ∷ a ∷ b ∷ c ∷ 0xf7 ∷ []

abbrev pub tuned : List MidiEvent
tuned = sysex 0 dump ∷ all_at 0 (select_of 0 0 ++ NoteOn 0 69 64 ∷ [])

-- and then such a change
abbrev pub tuned_with : ℕ → ℕ → ℕ → List MidiEvent
tuned_with a b c = tuned ++ sysex 0 (change a b c) ∷ []

-- a note after a registered parameter's high byte was set to 65
abbrev pub parameter_at_65 : ℕ → List MidiEvent
parameter_at_65 low = all_at 0 (registered 0 low 65 ++ NoteOn 0 69 64 ∷ [])

-- a channel's state after messages
abbrev pub state_after : ℕ → List Msg → State
state_after c ms = state_of c (all_at 0 ms)

-- A channel's state with a program, a volume and a bend range, and one with the bend range alone.
abbrev pub voiced : State
voiced = state_after 0 (Program 0 5 ∷ Control 0 7 80 ∷ registered 0 0 12)

abbrev pub ranged_only : State
ranged_only = state_after 0 (registered 0 0 12)

-- A channel's state with the high byte of fine tuning at 65 and a bend range.
abbrev pub fine_tuned : State
fine_tuned = state_after 0 (Control 0 101 0 ∷ Control 0 100 1 ∷ Control 0 6 65 ∷ registered 0 0 12)
