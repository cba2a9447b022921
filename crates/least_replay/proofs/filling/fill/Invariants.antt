use Rattle.std.proofs.Common.{◌≡◌, map, take}
use Rattle.std.specs.List.{AllByRecursion, flat_map}
use Rattle.least_replay.specs.Filled.{start_by, row_by, IsLowRun}
use Rattle.least_replay.specs.FoundView.{all_seen}
use Rattle.least_replay.proofs.filling.fill.Given as goal

abbrev pub invariant-loop-run : goal.invariant-loop-run
invariant-loop-run l = record {
  start : l.start.items ≡ map start_by (take l.run-index (all_seen l.runs));
  after : l.after.items ≡ flat_map (row_by (all_seen l.runs)) (take l.run-index (all_seen l.runs));
  low : AllByRecursion (IsLowRun (all_seen l.runs)) (take l.run-index (all_seen l.runs));
}
