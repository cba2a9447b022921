use Rattle.std.proofs.Common.{◌≡◌, ℕ, ◌<◌, ◌≤◌, ◌+◌}
use Rattle.least_replay.specs.Columns.{weight}
use Rattle.least_replay.specs.CostView.{table_of}
use Rattle.least_replay.specs.Tree.{at}
use Rattle.least_replay.proofs.solver.lower_columns.Given as goal

abbrev pub invariant-loop-j : goal.invariant-loop-j
invariant-loop-j l = record {
  lowered : (j : ℕ) → j < l.j → at l.v j + l.least ≡ weight (table_of l.costs) (table_of l.costs).runs j + at l.fn.v j;
  rest : (j : ℕ) → l.j ≤ j → at l.v j ≡ at l.fn.v j;
}
