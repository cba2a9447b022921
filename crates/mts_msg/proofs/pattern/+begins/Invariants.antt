use Rattle.std.proofs.Common.{length}
use Rattle.mts_msg.proofs.pattern.+begins.Given as goal

abbrev pub decreases-begins : goal.decreases-begins
decreases-begins l = length l.pattern.now
