use Rattle.scl_text.proofs.NoForms.{bad_is, is_bad}
use Rattle.scl_text.proofs.laws.bad_pitch.Goals as goal

pub returns-clause-only : goal.returns-clause-only
returns-clause-only c = bad_is c.prefixes.ensures

pub returns-clause-every : goal.returns-clause-every
returns-clause-every c = is_bad c.prefixes.ensures
