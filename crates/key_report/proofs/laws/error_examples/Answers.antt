use Rattle.std.proofs.Common.{refl}
use Rattle.std.specs.Fmt.{digits}
use Rattle.key_report.proofs.laws.error_examples.Goals as goal

pub returns-clause-none : goal.returns-clause-none
unfolding digits
returns-clause-none c = refl

pub returns-clause-small : goal.returns-clause-small
unfolding digits
returns-clause-small c = refl

pub returns-clause-large : goal.returns-clause-large
unfolding digits
returns-clause-large c = refl

pub returns-clause-both : goal.returns-clause-both
unfolding digits
returns-clause-both c = refl
