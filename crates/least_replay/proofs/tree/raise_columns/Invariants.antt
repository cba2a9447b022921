use Rattle.std.proofs.Common.{◌≡◌, ℕ, ◌<◌, ◌≤◌, ◌+◌}
use Rattle.least_replay.specs.Tree.{at}
use Rattle.least_replay.proofs.tree.raise_columns.Given as goal

abbrev pub invariant-loop-j : goal.invariant-loop-j
invariant-loop-j l = record {
  up : (j : ℕ) → j < l.j → 0 < at l.place j → at l.v j ≡ at l.fn.v j + l.by;
  still : (j : ℕ) → at l.place j ≡ 0 → at l.v j ≡ at l.fn.v j;
  slack_still : (j : ℕ) → 0 < at l.place j → at l.slack j ≡ at l.fn.slack j;
  nearer : (j : ℕ) → j < l.j → at l.place j ≡ 0 → at l.slack j + l.by ≡ at l.fn.slack j;
  v_rest : (j : ℕ) → l.j ≤ j → at l.v j ≡ at l.fn.v j;
  slack_rest : (j : ℕ) → l.j ≤ j → at l.slack j ≡ at l.fn.slack j;
}
