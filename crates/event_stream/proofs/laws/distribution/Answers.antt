use Rattle.event_stream.proofs.Dealing.{merged_again, dealt_again}
use Rattle.event_stream.proofs.laws.distribution.Goals as goal

pub returns-clause-merged_again : goal.returns-clause-merged_again
returns-clause-merged_again c tracks es h k = merged_again c.merged_order.ensures.first tracks es h k

pub returns-clause-dealt_again : goal.returns-clause-dealt_again
returns-clause-dealt_again c ts h = dealt_again c.merged_order.ensures.each_track ts h
