use Rattle.std.proofs.Common.{◌≡◌, ◌≤◌, ◌-◌}
use Rattle.tab.specs.Entries.{differing}
use Rattle.tab.proofs.Tab.count_differences.Given as goal

abbrev pub invariant-loop-place : goal.invariant-loop-place
invariant-loop-place g l = record {
  within : l.from ≤ g.row.N;
  counted : l.count ≡ differing l.self.items l.other.items l.from;
  few : l.count ≤ l.from;
}

abbrev pub decreases-loop-place : goal.decreases-loop-place
decreases-loop-place g l = g.row.N - l.from
