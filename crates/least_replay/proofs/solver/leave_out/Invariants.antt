use Rattle.std.proofs.Common.{◌≡◌, ℕ, ◌<◌, ◌≤◌, get_or}
use Rattle.std.specs.Prelude.{Some, None}
use Rattle.least_replay.specs.Tree.{at}
use Rattle.least_replay.proofs.solver.leave_out.Given as goal

abbrev pub invariant-loop-b : goal.invariant-loop-b
invariant-loop-b l = record {
  row : (j : ℕ) → j < l.b → get_or l.row_of j None ≡ Some j;
  row_still : (j : ℕ) → l.b ≤ j → get_or l.row_of j None ≡ get_or l.fn.row_of j None;
  column : (b : ℕ) → b < l.b → at l.col_of b ≡ b;
}
