use Rattle.std.proofs.Common.{sym, ◌∙◌}
use Rattle.retune_model.specs.Ports.{all_zero}
use Rattle.audit_report.specs.Played.{notes_on}
use Rattle.audit_report.proofs.Dealing.{dealt_are}
use Rattle.audit_report.proofs.audit.Audit.notes.Goals as goal

pub returns : goal.returns
returns c = λ o es heard. c.as_slice.ensures.value ∙ sym (dealt_are o es all_zero c.args.self.now.notes.items
    (notes_on o es) heard.of_port heard.order)
