use Rattle.std.proofs.Common.{◌≡◌, List, [], length, sym, ◌∙◌, subst, rules}
use Rattle.std.specs.Prelude.{vec_len}
use Rattle.audit_report.specs.declared.played.Played.{Played}
use Rattle.audit_report.specs.Audit.{AreHeard}
use Rattle.audit_report.proofs.Next.{heard_at_first}
use Rattle.audit_report.proofs.audit.Audit.new.Goals as goal

pub returns : goal.returns
returns c = λ o.
    let items : vec_len c.in_ok-vec.field-0 ≡ length c.in_ok-vec.field-0.items = search rules in
    subst (λ (ps : List Played). AreHeard o [] c.in_ok-vec.field-0.items ps) (sym c.new.ensures.items)
    (heard_at_first o c.in_ok-vec.field-0.items (sym items ∙ c.in_ok-vec.ensures.len))
