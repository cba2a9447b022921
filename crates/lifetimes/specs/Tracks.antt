-- The ports of the tracks, as the program keeps them.
use Rattle.std.specs.Prelude.{◌≡◌, ◌<◌, ℕ, List, false, get_or, slice_index}
use Rattle.mt_base.specs.Midi.{MidiEvent}
use Rattle.retune_model.specs.Ports.{ports_from, all_zero}
use Rattle.retune_model.specs.SourceFaults.{has_started}
use Rattle.lifetimes.specs.declared.tracks.Tracks.{Tracks}

-- They stand for a list of events where they are the ports after the list, and tell which tracks have started in it.
pub record TracksStand (t : Tracks) (es : List MidiEvent) : Type 0 where
  pub ports : (track : ℕ) → track < 1024 → slice_index t.ports track ≡ ports_from all_zero es track
  pub started : (track : ℕ) → track < 1024 → get_or t.started track false ≡ has_started track es
