use Rattle.std.proofs.Common.{refl}
use Rattle.retune_model.specs.Scale.{scale_pitch, term_count}
use Rattle.retune_model.proofs.examples.scale_examples.Goals as goal

pub returns-clause-half_a_semitone : goal.returns-clause-half_a_semitone
unfolding scale_pitch
returns-clause-half_a_semitone c = refl

pub returns-clause-left_out : goal.returns-clause-left_out
unfolding scale_pitch
returns-clause-left_out c = refl

pub returns-clause-reference_left_out : goal.returns-clause-reference_left_out
unfolding scale_pitch
returns-clause-reference_left_out c = refl

pub returns-clause-terms : goal.returns-clause-terms
unfolding term_count
returns-clause-terms c = refl

pub returns-clause-terms_near : goal.returns-clause-terms_near
unfolding term_count
returns-clause-terms_near c = refl

pub returns-clause-no_terms : goal.returns-clause-no_terms
unfolding term_count
returns-clause-no_terms c = refl
