use Rattle.std.proofs.Common.{◌≡◌, true, rules, ap, sym, subst, ◌∙◌}
use Rattle.std.specs.Prelude.{OnErr}
use Rattle.plan_report.specs.Texts.{port_lines, are_named}
use Rattle.plan_report.specs.Told.{need_told, IsFront}
use Rattle.plan_report.proofs.Fronts.{on_error}
use Rattle.plan_report.proofs.Pieces.{named_front}
use Rattle.plan_report.proofs.needs.push_need.Goals as goal

pub returns-in_err-push_named-clause-front : goal.returns-in_err-push_named-clause-front
returns-in_err-push_named-clause-front c =
    let old = c.args.out.now.items in
    let new = c.push_named.new.out.items in
    let lines = need_told c.args.plan.now in
    let ports = c.ports-port-items.result.now in
    let is_true : c.are_named.result ≡ true = first_of (cc, search rules) in
    let named : are_named ports ≡ true = ap are_named (c.ports-port-items.ensures ∙ sym c.ports.ensures) ∙ sym c.are_named.ensures ∙ is_true in
    subst (λ ps. OnErr c.from_residual.result (IsFront old (port_lines lines ps) new)) c.ports-port-items.ensures
    (on_error _ _ (named_front lines ports c.loop-port.port-index old c.loop-port.out.items new named c.loop-port-test.true c.loop-port.invariant
    c.in_err-push_named.ensures.front))
