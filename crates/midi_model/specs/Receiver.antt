-- The receiver that plays a list of events (this project's profile): its music, which never looks at its tuning, and its tuning.
use Rattle.std.specs.Prelude.{List, [], ◌∷◌}
use Rattle.mt_base.specs.Midi.{MidiEvent}
use Rattle.midi_model.specs.Sysex.{doing}
use Rattle.midi_model.specs.Music.{Music, quiet, step}
use Rattle.midi_model.specs.Tuning.{Tuning, untuned, tuning_after}

pub record Receiver : Type 0 where
  pub music : Music
  pub tuning : Tuning

-- before any event
abbrev pub start : Receiver
start = record { music = quiet; tuning = untuned }

-- one event
abbrev pub receive : Receiver → MidiEvent → Receiver
receive r e = record { music = step r.music e; tuning = tuning_after r.music (doing e.what) r.tuning }

abbrev pub receive_all : Receiver → List MidiEvent → Receiver
receive_all r [] = r
receive_all r (e ∷ es) = receive_all (receive r e) es

-- the receiver after a list of events
abbrev pub after : List MidiEvent → Receiver
after es = receive_all start es
