use Rattle.retune_model.proofs.DumpFile.{ticks_in_order}
use Rattle.retune_model.proofs.routes.playable_in_order.Goals as goal

pub returns-clause-ticks : goal.returns-clause-ticks
returns-clause-ticks c = λ tracks es p. ticks_in_order es p.in_order
