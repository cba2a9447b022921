use Rattle.std.proofs.Common.{length}
use Rattle.route_tests.proofs.tests.playing.events_of.Given as goal

abbrev pub decreases-events : goal.decreases-events
decreases-events l = length l.merge.rest
