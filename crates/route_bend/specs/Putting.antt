-- What is put for one event.
use Rattle.std.specs.Prelude.{List, [], ◌∷◌, Bool, false, if◌then◌else◌}
use Rattle.mt_base.specs.declared.event.Msg.{Msg}
use Rattle.mt_base.specs.Midi.{MidiWhat, Says, MidiEvent, channel_of}
use Rattle.retune_model.specs.Options.{Options}
use Rattle.retune_model.specs.Faults.{is_part}
use Rattle.routes.specs.Putting.{said_at}

-- whether an event is a message of a retuned part
abbrev pub is_of_part : Options → MidiWhat → Bool
is_of_part o (Says m) = is_part o (channel_of m)
is_of_part o _ = false

-- these messages, where it is; else the event itself
abbrev pub block_events : Options → MidiEvent → List Msg → List MidiEvent
block_events o e ms = if is_of_part o e.what then said_at e ms else e ∷ []
