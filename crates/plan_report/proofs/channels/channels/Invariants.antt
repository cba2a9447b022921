use Rattle.std.proofs.Common.{◌≡◌, ◌≤◌, ◌*◌}
use Rattle.plan_report.specs.Told.{channels_below}
use Rattle.plan_report.proofs.channels.channels.Given as goal

abbrev pub invariant-loop-port : goal.invariant-loop-port
invariant-loop-port l = record {
  counted : l.count ≡ channels_below l.plan l.port;
  few : l.count ≤ 12884901888 * l.port;
}
