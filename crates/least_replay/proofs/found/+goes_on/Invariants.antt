use Rattle.std.proofs.Common.{length}
use Rattle.least_replay.proofs.found.+goes_on.Given as goal

abbrev pub decreases-goes_on : goal.decreases-goes_on
decreases-goes_on l = length l.going.now
