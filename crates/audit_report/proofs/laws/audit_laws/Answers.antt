use Rattle.audit_report.proofs.Said.{note_errors_hold, notes_are_told}
use Rattle.audit_report.proofs.laws.audit_laws.Goals as goal

pub returns-clause-hold : goal.returns-clause-hold
returns-clause-hold c = note_errors_hold c.key_laws.ensures.note

pub returns-clause-told : goal.returns-clause-told
returns-clause-told c = notes_are_told
