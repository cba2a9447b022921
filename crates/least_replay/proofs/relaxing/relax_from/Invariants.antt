use Rattle.std.proofs.Common.{◌≡◌, length}
use Rattle.least_replay.specs.Columns.{IsNearer}
use Rattle.least_replay.specs.CostView.{table_of}
use Rattle.least_replay.proofs.relaxing.relax_from.Given as goal

abbrev pub invariant-loop-j : goal.invariant-loop-j
invariant-loop-j l = record {
  slack_whole : length l.slack ≡ length l.fn.slack;
  from_whole : length l.from ≡ length l.fn.from;
  nearer : IsNearer (table_of l.costs) l.r l.first l.j l.size l.u l.v l.fn.slack l.slack l.fn.from l.from;
}
