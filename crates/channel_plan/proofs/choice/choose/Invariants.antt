use Rattle.std.proofs.Common.{◌≤◌, ◌-◌, length}
use Rattle.receiver.specs.State.{state_of}
use Rattle.channel_plan.specs.Choosing.{BestTo}
use Rattle.channel_plan.proofs.choice.choose.Given as goal

abbrev pub invariant-loop-number : goal.invariant-loop-number
invariant-loop-number l = record {
  within : l.number ≤ length l.places;
  best : BestTo l.places (state_of l.wanted) l.number l.best;
}

abbrev pub decreases-loop-number : goal.decreases-loop-number
decreases-loop-number l = length l.places - l.number
