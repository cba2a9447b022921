use Rattle.retune_model.proofs.Faultless.{message_asks_none}
use Rattle.retune_model.proofs.faults.zone_entries_set_zones.Goals as goal

pub returns : goal.returns
returns c = message_asks_none
