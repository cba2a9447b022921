-- Channels that agree, and musics that are led to.
use Rattle.std.specs.Prelude.{◌≡◌, List}
use Rattle.std.specs.List.{AllByRecursion}
use Rattle.mt_base.specs.Midi.{MidiEvent}
use Rattle.mt_base.specs.Valid.{IsValidEvent}
use Rattle.midi_model.specs.Channel.{Channel}
use Rattle.midi_model.specs.Music.{Music, quiet, play}

-- two channels agree in all but what is selected for data entry
pub record IsSameAside (a b : Channel) : Type 0 where
  pub controls : a.controls ≡ b.controls
  pub params : a.params ≡ b.params
  pub voice : a.voice ≡ b.voice
  pub bend : a.bend ≡ b.bend
  pub pressure : a.pressure ≡ b.pressure

-- a music that some valid events lead to
pub record IsReached (m : Music) : Type 0 where
  pub events : List MidiEvent
  pub valid : AllByRecursion IsValidEvent events
  pub is : m ≡ play quiet events
