use Rattle.std.proofs.Common.{◌≡◌, ◌≤◌, ◌<◌, ◌-◌, ◌+◌, ℕ, slice_index}
use Rattle.tab.specs.Entries.{away}
use Rattle.tab.proofs.Tab.find_difference.Given as goal

abbrev pub invariant-loop-i : goal.invariant-loop-i
invariant-loop-i g l = record {
  up : l.from ≤ l.i;
  within : l.i ≤ g.row.N;
  same : (k : ℕ) → l.from ≤ k → k < l.i → slice_index l.self-inside.items k ≡ slice_index l.other-inside.items k;
  looked : away l.self-inside.items (record { defaults = l.other-inside.base; items = l.other-inside.items }) l.from + l.looked ≡ away l.self-inside.items (record { defaults = l.other-inside.base; items = l.other-inside.items }) l.i;
  few : l.looked ≤ l.i;
}

abbrev pub decreases-loop-i : goal.decreases-loop-i
decreases-loop-i g l = g.row.N - l.i
