use Rattle.std.proofs.Common.{length}
use Rattle.channel_plan.proofs.rowed.+add_zones.Given as goal

abbrev pub decreases-add_zones : goal.decreases-add_zones
decreases-add_zones l = length l.zones.now
