use Rattle.channel_model.proofs.Free.{free_then, taken_before}
use Rattle.channel_model.proofs.choice.free_laws.Goals as goal

pub returns-clause-then_on : goal.returns-clause-then_on
returns-clause-then_on c = free_then

pub returns-clause-before : goal.returns-clause-before
returns-clause-before c = taken_before
