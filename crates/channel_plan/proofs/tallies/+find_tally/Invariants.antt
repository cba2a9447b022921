use Rattle.std.proofs.Common.{length}
use Rattle.channel_plan.proofs.tallies.+find_tally.Given as goal

abbrev pub decreases-find_tally : goal.decreases-find_tally
decreases-find_tally l = length l.tallies.now
