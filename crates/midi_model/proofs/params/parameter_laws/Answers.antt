use Rattle.midi_model.proofs.Parameters.{value_of-put_same, value_of-put_other, canonical_put}
use Rattle.midi_model.proofs.Equal.{canonical_equal}
use Rattle.midi_model.proofs.params.parameter_laws.Goals as goal

pub returns-clause-given : goal.returns-clause-given
returns-clause-given c = value_of-put_same

pub returns-clause-others : goal.returns-clause-others
returns-clause-others c = value_of-put_other

pub returns-clause-form : goal.returns-clause-form
returns-clause-form c = canonical_put

pub returns-clause-equal : goal.returns-clause-equal
returns-clause-equal c = canonical_equal
