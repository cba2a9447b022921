use Rattle.std.proofs.Common.{◌≡◌, ℕ, ◌<◌, ◌≤◌, ◌+◌}
use Rattle.least_replay.specs.Tree.{at}
use Rattle.least_replay.proofs.tree.raise_rows.Given as goal

abbrev pub invariant-loop-r : goal.invariant-loop-r
invariant-loop-r l = record {
  up : (r : ℕ) → r < l.r → 0 < at l.place (at l.col_of r) → at l.u r ≡ at l.fn.u r + l.by;
  still : (r : ℕ) → r < l.r → at l.place (at l.col_of r) ≡ 0 → at l.u r ≡ at l.fn.u r;
  rest : (r : ℕ) → l.r ≤ r → at l.u r ≡ at l.fn.u r;
}
