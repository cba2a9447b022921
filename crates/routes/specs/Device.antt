-- What a device is told of its tuning, as the program has it.
use Rattle.std.specs.Prelude.{ℕ, List, [], ◌∷◌, ◌++◌, Bool, true, false, ◌&&◌, not, nat_eq, filter, Option, Some, None}
use Rattle.std.specs.List.{flat_map}
use Rattle.mt_base.specs.declared.event.Msg.{Msg}
use Rattle.mt_base.specs.Midi.{MidiWhat, SysexOf, MidiEvent}
use Rattle.midi_model.specs.Sysex.{is_reset}
use Rattle.midi_model.specs.TuningBytes.{select_of, change_bytes}
use Rattle.retune_model.specs.SourceFaults.{is_message}
use Rattle.retune_model.specs.Dump.{dump_if, from_up}
use Rattle.receiver.specs.Notes.{has}
use Rattle.routes.specs.declared.device.Device.{Device}
use Rattle.routes.specs.Putting.{said_at, sent_at}

-- the channels of a mask, and the selections of a program on some channels
abbrev pub channels_in : ℕ → List ℕ
channels_in mask = filter (has mask) (from_up 0 16)

abbrev pub selection_if : Bool → ℕ → ℕ → List Msg
selection_if true channel program = select_of channel program
selection_if false channel program = []

abbrev pub selections : ℕ → List ℕ → List Msg
selections program channels = flat_map (λ c. select_of c program) channels

-- the setup at an event, if it is wanted: on dump the dump, where there is a channel; then the selections
abbrev pub dumps_of : Device → ℕ → List (List ℕ)
dumps_of d mask = dump_if (not d.live && not (nat_eq mask 0)) d.dump.items

abbrev pub setup_events : Device → ℕ → MidiEvent → List MidiEvent
setup_events d mask e = sent_at e (dumps_of d mask) ++ said_at e (selections d.program (channels_in mask))

abbrev pub setup_if : Bool → Device → ℕ → MidiEvent → List MidiEvent
setup_if true d mask e = setup_events d mask e
setup_if false d mask e = []

-- the changes that are due: of one key to its value, or none
abbrev pub changes_in : ℕ → Option (ℕ × ℕ) → List (List ℕ)
changes_in program None = []
changes_in program (Some x) = change_bytes program x.0 x.1 ∷ []

-- the first channel message, where one came before or not
abbrev pub is_first : Bool → MidiWhat → Bool
is_first begun what = not begun && is_message what

-- a reset
abbrev pub resets_all : MidiWhat → Bool
resets_all (SysexOf lead bytes) = nat_eq lead 240 && is_reset bytes
resets_all _ = false

-- an event with what stands around it: the setup before the first channel message and behind each later reset, and a change
abbrev pub block_events : Device → ℕ → Bool → Option (ℕ × ℕ) → MidiEvent → List MidiEvent
block_events d mask begun due e =
    setup_if (is_first begun e.what) d mask e
    ++ (sent_at e (changes_in d.program due) ++ e ∷ setup_if (begun && resets_all e.what) d mask e)
