-- What the program puts around an event on the octave route, and what it keeps in mind of each port.
use Rattle.std.specs.Prelude.{ℕ, List, ◌∷◌, ◌++◌, Bool, false, ◌&&◌, not, nat_eq, get_or}
use Rattle.mt_base.specs.Midi.{MidiEvent}
use Rattle.retune_model.specs.Dump.{dump_if}
use Rattle.routes.specs.Putting.{sent_at}
use Rattle.routes.specs.Device.{is_first, resets_all}
use Rattle.octave_route.specs.Messages.{octave_bytes}

-- the message for the channels of a mask, if it is wanted and there is a channel
abbrev pub setup_if : Bool → ℕ → List ℕ → MidiEvent → List MidiEvent
setup_if wanted mask values e = sent_at e (dump_if (wanted && not (nat_eq mask 0)) (octave_bytes mask values))

-- an event, with the message before the first channel message and behind each later reset
abbrev pub block_events : ℕ → List ℕ → Bool → MidiEvent → List MidiEvent
block_events mask values begun e = setup_if (is_first begun e.what) mask values e ++ e ∷ setup_if (begun && resets_all e.what) mask values e

-- whether a channel message of a port came
abbrev pub begun_in : List Bool → ℕ → Bool
begun_in begun z = get_or begun z false
