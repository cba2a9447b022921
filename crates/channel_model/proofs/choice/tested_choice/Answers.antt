use Rattle.channel_model.proofs.Tested.{tested_is_best}
use Rattle.channel_model.proofs.choice.tested_choice.Goals as goal

pub returns : goal.returns
returns c = record { best = tested_is_best c.pair_laws.ensures.told }
