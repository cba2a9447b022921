-- The laws of music and of rests that what follows of one event more rests on, as one premise.
use Rattle.midi_model.specs.MusicLaws.{NotesAge, NotesFade}
use Rattle.midi_model.specs.ReceiverLaws.{OneNoteSoundsOnAKey}
use Rattle.retune_model.specs.Drums.{DrumsStandApart}
use Rattle.retune_model.specs.PortLaws.{MusicAtAPosition, PortsAreTimed}
use Rattle.retune_model.specs.RestLaws.{NotesHoldAsWritten, EndsAreKept, ResetsForgetEnds}

pub record Laws : Type 0 where
  pub age : NotesAge
  pub fade : NotesFade
  pub one : OneNoteSoundsOnAKey
  pub apart : DrumsStandApart
  pub music : MusicAtAPosition
  pub timed : PortsAreTimed
  pub written : NotesHoldAsWritten
  pub kept : EndsAreKept
  pub forgotten : ResetsForgetEnds
