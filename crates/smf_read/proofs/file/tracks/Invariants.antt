use Rattle.std.proofs.Common.{◌≡◌, ◌-◌, length, map}
use Rattle.midi_model.specs.FileText.{tracks_at}
use Rattle.smf_read.specs.Views.{content_of}
use Rattle.smf_read.proofs.Tracks.{with_front}
use Rattle.smf_read.proofs.file.tracks.Given as goal

abbrev pub invariant-loop : goal.invariant-loop
invariant-loop l = record {
  told : with_front (map content_of l.contents.items) (tracks_at (l.count - l.counter) l.rest) ≡ tracks_at l.count l.bytes;
  count : length l.contents.items ≡ l.counter;
}
