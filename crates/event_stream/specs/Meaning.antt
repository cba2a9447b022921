-- What a stream means.
use Rattle.std.specs.Prelude.{List}
use Rattle.mt_base.specs.Midi.{MidiEvent}

-- all its events, and those that are still to come
pub record Stream : Type 0 where
  pub all : List MidiEvent
  pub rest : List MidiEvent
