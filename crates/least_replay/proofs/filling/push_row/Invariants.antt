use Rattle.std.proofs.Common.{◌≡◌, ◌++◌, map, take}
use Rattle.std.specs.List.{AllByRecursion}
use Rattle.least_replay.specs.Filled.{behind_by, IsLowBehind}
use Rattle.least_replay.specs.FoundView.{seen, all_seen}
use Rattle.least_replay.proofs.filling.push_row.Given as goal

abbrev pub invariant-loop-before : goal.invariant-loop-before
invariant-loop-before l = record {
  row : l.after.items ≡ l.fn.after.items ++ map (λ q. behind_by q (seen l.run)) (take l.before-index (all_seen l.runs));
  low : AllByRecursion (IsLowBehind (seen l.run)) (take l.before-index (all_seen l.runs));
}
