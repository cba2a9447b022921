use Rattle.std.proofs.Common.{◌≡◌, length, map, take}
use Rattle.smf_read.specs.Remaining.{remaining, all_of}
use Rattle.event_stream.proofs.Parts.{placed_from}
use Rattle.event_stream.proofs.merge.Merge.new.Given as goal

abbrev pub invariant-loop-track : goal.invariant-loop-track
invariant-loop-track l = record {
  size : length l.cursors ≡ 1024;
  left : take l.track (map remaining l.cursors) ≡ take l.track (placed_from 0 l.smf.tracks);
  whole : take l.track (map all_of l.cursors) ≡ take l.track (placed_from 0 l.smf.tracks);
}
