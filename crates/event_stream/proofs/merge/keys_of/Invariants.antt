use Rattle.std.proofs.Common.{◌≡◌, length, take}
use Rattle.event_stream.specs.Keys.{keys_of}
use Rattle.event_stream.specs.Merges.{untracked, parts_left}
use Rattle.event_stream.proofs.merge.keys_of.Given as goal

abbrev pub invariant-loop-track : goal.invariant-loop-track
invariant-loop-track l = record {
  count : length l.keys ≡ l.tracks;
  keys : take l.track l.keys ≡ take l.track (keys_of 0 (untracked (parts_left l.tracks l.cursors)));
}
