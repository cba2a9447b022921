use Rattle.std.proofs.Common.{refl}
use Rattle.std.specs.Fmt.{digits}
use Rattle.audit_report.proofs.laws.audit_examples.Goals as goal

pub returns-clause-ended : goal.returns-clause-ended
unfolding digits
returns-clause-ended c = refl

pub returns-clause-endless : goal.returns-clause-endless
unfolding digits
returns-clause-endless c = refl

pub returns-clause-port : goal.returns-clause-port
unfolding digits
returns-clause-port c = refl
