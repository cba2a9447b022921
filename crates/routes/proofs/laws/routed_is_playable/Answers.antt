use Rattle.routes.proofs.Same.{is_playable}
use Rattle.routes.proofs.laws.routed_is_playable.Goals as goal

pub returns : goal.returns
returns c = is_playable c.dump_is_playable.ensures.playable c.live_is_playable.ensures.playable
