use Rattle.retune_model.specs.Pairs.{is_same_pair}
use Rattle.retune_model.proofs.Fewest.{fewest}
use Rattle.retune_model.proofs.Placed.{one_need, refused_count, refused_none}
use Rattle.retune_model.proofs.SamePairs.{same_pairs}
use Rattle.retune_model.proofs.channels.need_laws.Goals as goal

pub returns-clause-determined : goal.returns-clause-determined
returns-clause-determined c = one_need

pub returns-clause-fewest : goal.returns-clause-fewest
returns-clause-fewest c = fewest is_same_pair same_pairs

pub returns-clause-refused : goal.returns-clause-refused
returns-clause-refused c = refused_none is_same_pair same_pairs

pub returns-clause-witness : goal.returns-clause-witness
returns-clause-witness c = refused_count
