use Rattle.std.proofs.Common.{◌≤◌, ◌-◌}
use Rattle.replay.specs.Sinks.{Puts}
use Rattle.replay.proofs.Walks.{upto}
use Rattle.replay.proofs.tables.put_differences.Given as goal

abbrev pub invariant-loop-place : goal.invariant-loop-place
invariant-loop-place g l = record {
  within : l.from ≤ g.row.N;
  held : Puts g.S.Sink.holds l.fn.out l.out (upto l.kind l.channel l.now.items l.wanted.items l.from);
}

abbrev pub decreases-loop-place : goal.decreases-loop-place
decreases-loop-place g l = g.row.N - l.from
