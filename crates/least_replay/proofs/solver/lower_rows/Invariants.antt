use Rattle.std.proofs.Common.{◌≡◌, ℕ, ◌<◌, ◌≤◌, ◌+◌, ◌-◌}
use Rattle.least_replay.specs.Columns.{over}
use Rattle.least_replay.specs.Tree.{at}
use Rattle.least_replay.proofs.solver.lower_rows.Given as goal

abbrev pub invariant-loop-b : goal.invariant-loop-b
invariant-loop-b l = record {
  lowered : (b : ℕ) → b < l.b → at l.u b + l.least ≡ at l.fn.u b + over (l.runs - b);
  rest : (b : ℕ) → l.b ≤ b → at l.u b ≡ at l.fn.u b;
}
