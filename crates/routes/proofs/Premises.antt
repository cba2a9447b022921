-- Laws of the crates below on which those of this crate rest, each as the contract states it in which it stands.
use Rattle.std.specs.Prelude.{◌≡◌, ◌<◌, ◌^◌, ℕ, List, [], length, map, get_or}
use Rattle.mt_base.specs.Midi.{placed}
use Rattle.midi_model.specs.FileText.{MidiFile}
use Rattle.midi_model.specs.Merged.{merged, InOrder, of_track, AreTracksOf}
use Rattle.midi_model.specs.Spelling.{Spells}
use Rattle.midi_model.specs.SizeLaws.{WrittenIsWithinMost, TrackIsWithinFile, EventsAreFew}
use Rattle.event_stream.specs.PutLaws.{PlayableIsPut, EventIsDealt}

pub record PutLaws : Type 0 where
  pub may : PlayableIsPut
  pub dealt : EventIsDealt

abbrev pub TrackIsKept : Type 0
TrackIsKept = (t : ℕ) (file : MidiFile) → InOrder (map (placed t) (get_or file.tracks t [])) → of_track t (merged file)
    ≡ map (placed t) (get_or file.tracks t [])

abbrev pub SpelledAreTracks : Type 0
SpelledAreTracks = (bytes : List ℕ) (file : MidiFile) → length bytes < 2 ^ 28 → Spells bytes file → AreTracksOf 0 file.tracks

pub record ShortLaws : Type 0 where
  pub kept : TrackIsKept
  pub tracks : SpelledAreTracks
  pub within_most : WrittenIsWithinMost
  pub within_file : TrackIsWithinFile
  pub few_events : EventsAreFew
