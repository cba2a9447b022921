use Rattle.std.proofs.Common.{◌≡◌, ◌≤◌, ◌-◌, ◌++◌, length, map, take, drop}
use Rattle.channel_plan.specs.Giving.{with_run}
use Rattle.channel_plan.proofs.giving.count_run.Given as goal

abbrev pub invariant-loop-place : goal.invariant-loop-place
invariant-loop-place l = record {
  within : l.place ≤ length l.ports;
  same : length l.ports ≡ length l.fn.ports;
  behind : drop l.place l.ports ≡ drop l.place l.fn.ports;
  done : l.ports ≡ map (with_run l.port) (take l.place l.fn.ports) ++ drop l.place l.fn.ports;
}

abbrev pub decreases-loop-place : goal.decreases-loop-place
decreases-loop-place l = length l.ports - l.place
