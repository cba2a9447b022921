use Rattle.std.proofs.Common.{refl}
use Rattle.std.specs.Fmt.{digits}
use Rattle.plan_report.proofs.laws.fault_examples.Goals as goal

pub returns-clause-channels : goal.returns-clause-channels
unfolding digits
returns-clause-channels c = λ t. refl

pub returns-clause-none : goal.returns-clause-none
unfolding digits
returns-clause-none c = λ t. refl

pub returns-clause-other_port : goal.returns-clause-other_port
unfolding digits
returns-clause-other_port c = λ t. refl

pub returns-clause-parts : goal.returns-clause-parts
unfolding digits
returns-clause-parts c = refl

pub returns-clause-other_parts : goal.returns-clause-other_parts
unfolding digits
returns-clause-other_parts c = refl
