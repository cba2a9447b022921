use Rattle.retune_model.proofs.LivePlayable.{told_playable}
use Rattle.retune_model.proofs.dump.live_is_playable.Goals as goal

pub returns : goal.returns
returns c = record { playable = told_playable }
