use Rattle.std.proofs.Common.{length}
use Rattle.channel_plan.proofs.plan.+find_port.Given as goal

abbrev pub decreases-find_port : goal.decreases-find_port
decreases-find_port l = length l.ports.now
