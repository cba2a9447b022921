use Rattle.std.proofs.Common.{◌≡◌, length, map, take}
use Rattle.smf_read.specs.Remaining.{remaining, all_of}
use Rattle.event_stream.proofs.merge.restart_all.Given as goal

abbrev pub invariant-loop-place : goal.invariant-loop-place
invariant-loop-place l = record {
  size : length l.cursors ≡ length l.fn.cursors;
  rest : take l.place (map remaining l.cursors) ≡ take l.place (map all_of l.fn.cursors);
  all : map all_of l.cursors ≡ map all_of l.fn.cursors;
}
