use Rattle.key_report.proofs.Told.{errors_of_keys, error_of_note, used_are_told, none_is_left_out, same_keys}
use Rattle.key_report.proofs.Whole.{least_to_greatest}
use Rattle.key_report.proofs.laws.key_laws.Goals as goal

pub returns-clause-hold : goal.returns-clause-hold
returns-clause-hold c = errors_of_keys c.error_laws.ensures.hold c.error_laws.ensures.near

pub returns-clause-note : goal.returns-clause-note
returns-clause-note c = error_of_note c.error_laws.ensures.hold c.error_laws.ensures.near

pub returns-clause-told : goal.returns-clause-told
returns-clause-told c = used_are_told

pub returns-clause-all : goal.returns-clause-all
returns-clause-all c = none_is_left_out

pub returns-clause-same : goal.returns-clause-same
returns-clause-same c = same_keys

pub returns-clause-whole : goal.returns-clause-whole
returns-clause-whole c = least_to_greatest
