use Rattle.state_laws.proofs.Counting.{few, most, as_many}
use Rattle.state_laws.proofs.Differing.{changes_those}
use Rattle.state_laws.proofs.count.messages_are_few.Goals as goal

pub returns-clause-few : goal.returns-clause-few
returns-clause-few c = few

pub returns-clause-most : goal.returns-clause-most
returns-clause-most c = most

pub returns-clause-those : goal.returns-clause-those
returns-clause-those c = changes_those

pub returns-clause-as_many : goal.returns-clause-as_many
returns-clause-as_many c = as_many
