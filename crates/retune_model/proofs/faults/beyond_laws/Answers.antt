use Rattle.retune_model.specs.Rests.{holding, pairs_at}
use Rattle.retune_model.proofs.Ordered.{pairs_ordered}
use Rattle.retune_model.proofs.Faulty.{least_beyond, none_beyond}
use Rattle.retune_model.proofs.faults.beyond_laws.Goals as goal

pub returns-clause-some : goal.returns-clause-some
returns-clause-some c o part table port k d r q s h = least_beyond d r (pairs_at o part table port k) (pairs_ordered port.number o table (holding part o.tail port k)) q s h

pub returns-clause-none : goal.returns-clause-none
returns-clause-none c o part table port k d r h = none_beyond d r (pairs_at o part table port k) h
