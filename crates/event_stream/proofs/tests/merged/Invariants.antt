use Rattle.std.proofs.Common.{◌≡◌, length}
use Rattle.event_stream.proofs.tests.merged.Given as goal

abbrev pub invariant-loop-event : goal.invariant-loop-event
invariant-loop-event l = length l.places ≡ 1024

abbrev pub decreases-loop-event : goal.decreases-loop-event
decreases-loop-event l = length l.merge.rest
