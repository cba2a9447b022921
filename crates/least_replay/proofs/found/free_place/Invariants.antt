use Rattle.std.proofs.Common.{◌≤◌, ◌-◌, length}
use Rattle.least_replay.proofs.found.free_place.Given as goal

abbrev pub invariant-loop-place : goal.invariant-loop-place
invariant-loop-place l = l.place ≤ length l.going

abbrev pub decreases-loop-place : goal.decreases-loop-place
decreases-loop-place l = length l.going - l.place
