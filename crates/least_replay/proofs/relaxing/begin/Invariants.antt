use Rattle.std.proofs.Common.{◌≡◌, ℕ, ◌<◌, ◌+◌}
use Rattle.least_replay.specs.Tree.{at}
use Rattle.least_replay.specs.Columns.{weight}
use Rattle.least_replay.specs.CostView.{table_of}
use Rattle.least_replay.proofs.relaxing.begin.Given as goal

abbrev pub invariant-loop-j : goal.invariant-loop-j
invariant-loop-j l = (j : ℕ) → j < l.j → at l.slack j ≡ weight (table_of l.costs) l.b j + at l.v j
