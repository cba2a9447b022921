use Rattle.audit_report.proofs.Said.{notes_are_told}
use Rattle.audit_report.proofs.Told.{all_told}
use Rattle.audit_report.proofs.laws.each_note_is_told.Goals as goal

pub returns : goal.returns
returns c = all_told c.music_laws.ensures.fade notes_are_told
