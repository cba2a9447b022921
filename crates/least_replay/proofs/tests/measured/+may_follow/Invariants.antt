use Rattle.std.proofs.Common.{length}
use Rattle.least_replay.proofs.tests.measured.+may_follow.Given as goal

abbrev pub decreases-may_follow : goal.decreases-may_follow
decreases-may_follow l = length l.events.now
