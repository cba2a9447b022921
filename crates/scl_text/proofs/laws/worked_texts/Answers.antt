use Rattle.std.proofs.Common.{refl}
use Rattle.scl_text.specs.Pitch.{form_of, entry_of}
use Rattle.scl_text.specs.Reading.{scale_at, entries_at, count_of}
use Rattle.scl_text.proofs.laws.worked_texts.Goals as goal

pub returns-clause-four : goal.returns-clause-four
unfolding scale_at entries_at count_of form_of entry_of
returns-clause-four c = refl

pub returns-clause-four_with_cr : goal.returns-clause-four_with_cr
unfolding scale_at entries_at count_of form_of entry_of
returns-clause-four_with_cr c = refl

pub returns-clause-negative_number : goal.returns-clause-negative_number
unfolding scale_at entries_at count_of form_of entry_of
returns-clause-negative_number c = refl

pub returns-clause-pitch_missing : goal.returns-clause-pitch_missing
unfolding scale_at entries_at count_of form_of entry_of
returns-clause-pitch_missing c = refl

pub returns-clause-empty : goal.returns-clause-empty
unfolding scale_at entries_at count_of form_of entry_of
returns-clause-empty c = refl
