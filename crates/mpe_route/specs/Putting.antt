-- What the program puts for an event on the MPE route.
use Rattle.std.specs.Prelude.{List, [], ◌∷◌, ◌++◌, Bool, true, false, ◌&&◌, Option, Some, None}
use Rattle.mt_base.specs.declared.event.Msg.{Msg}
use Rattle.mt_base.specs.Midi.{MidiEvent}
use Rattle.routes.specs.Putting.{said_at}
use Rattle.routes.specs.Device.{is_first, resets_all}

-- messages at an event, if they are wanted
abbrev pub said_if : Bool → List Msg → MidiEvent → List MidiEvent
said_if true ms e = said_at e ms
said_if false ms e = []

-- messages in the place of an event, or the event itself
abbrev pub passed : Option (List Msg) → MidiEvent → List MidiEvent
passed (Some ms) e = said_at e ms
passed None e = e ∷ []

-- the setup before the first channel message; what the event causes; and the setup behind each later reset
abbrev pub block_events : List Msg → Bool → Option (List Msg) → MidiEvent → List MidiEvent
block_events setup begun caused e =
    said_if (is_first begun e.what) setup e ++ (passed caused e ++ said_if (begun && resets_all e.what) setup e)
