use Rattle.std.proofs.Common.{refl}
use Rattle.kbm_text.specs.Field.{number_in, frequency_of, entry_of}
use Rattle.kbm_text.specs.Reading.{field_at, keys_at, entries_at, map_at}
use Rattle.kbm_text.proofs.laws.worked_texts.Goals as goal

pub returns-clause-twelve : goal.returns-clause-twelve
unfolding map_at keys_at field_at entries_at number_in frequency_of entry_of
returns-clause-twelve c = refl

pub returns-clause-one : goal.returns-clause-one
unfolding map_at keys_at field_at entries_at number_in frequency_of entry_of
returns-clause-one c = refl

pub returns-clause-field_missing : goal.returns-clause-field_missing
unfolding map_at keys_at field_at entries_at number_in frequency_of entry_of
returns-clause-field_missing c = refl

pub returns-clause-empty : goal.returns-clause-empty
unfolding map_at keys_at field_at entries_at number_in frequency_of entry_of
returns-clause-empty c = refl
