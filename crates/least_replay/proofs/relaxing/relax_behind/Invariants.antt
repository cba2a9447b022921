use Rattle.least_replay.specs.Columns.{IsNearer}
use Rattle.least_replay.specs.CostView.{table_of}
use Rattle.least_replay.proofs.relaxing.relax_behind.Given as goal

abbrev pub invariant-loop-a : goal.invariant-loop-a
invariant-loop-a l = IsNearer (table_of l.costs) l.r 0 l.a l.size l.u l.v l.fn.slack l.slack l.fn.from l.from
