use Rattle.std.proofs.Common.{refl}
use Rattle.std.specs.Fmt.{digits}
use Rattle.plan_report.proofs.laws.report_examples.Goals as goal

pub returns-clause-channels : goal.returns-clause-channels
unfolding digits
returns-clause-channels c = refl

pub returns-clause-chord : goal.returns-clause-chord
unfolding digits
returns-clause-chord c = refl

pub returns-clause-in_turn : goal.returns-clause-in_turn
unfolding digits
returns-clause-in_turn c = refl

pub returns-clause-silent : goal.returns-clause-silent
unfolding digits
returns-clause-silent c = refl

pub returns-clause-ports : goal.returns-clause-ports
unfolding digits
returns-clause-ports c = refl

pub returns-clause-one_port : goal.returns-clause-one_port
unfolding digits
returns-clause-one_port c = refl

pub returns-clause-other_port : goal.returns-clause-other_port
unfolding digits
returns-clause-other_port c = refl

pub returns-clause-zones : goal.returns-clause-zones
unfolding digits
returns-clause-zones c = refl
