use Rattle.retune_model.specs.Rests.{holding}
use Rattle.retune_model.proofs.Ordered.{pairs_ordered, held_ordered}
use Rattle.retune_model.proofs.order.pairs_in_order.Goals as goal

pub returns-clause-pairs : goal.returns-clause-pairs
returns-clause-pairs c o part table port k = pairs_ordered port.number o table (holding part o.tail port k)

pub returns-clause-held : goal.returns-clause-held
returns-clause-held c = held_ordered
