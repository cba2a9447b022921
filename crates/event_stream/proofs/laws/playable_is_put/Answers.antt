use Rattle.event_stream.proofs.Putting.{may_put}
use Rattle.event_stream.proofs.laws.playable_is_put.Goals as goal

pub returns : goal.returns
returns c tracks es e more h = may_put tracks es e more h
