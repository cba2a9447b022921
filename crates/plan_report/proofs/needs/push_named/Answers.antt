use Rattle.std.proofs.Common.{◌++◌, ap, ◌∙◌}
use Rattle.plan_report.specs.Texts.{port_line}
use Rattle.plan_report.specs.Told.{need_told}
use Rattle.plan_report.proofs.Fronts.{nothing, on_error, behind}
use Rattle.plan_report.proofs.needs.push_named.Goals as goal

pub returns-in_err-push_line-clause-front : goal.returns-in_err-push_line-clause-front
returns-in_err-push_line-clause-front c =
    on_error _ _ (nothing c.args.out.now.items (port_line c.args.port ++ need_told c.args.plan.now c.args.port) c.push_line.new.out.items
    c.in_err-push_line.ensures.same)

pub returns-clause-front : goal.returns-clause-front
returns-clause-front c =
    let old = c.args.out.now.items in
    behind c.push_port.result old (port_line c.args.port) (need_told c.args.plan.now c.args.port) c.push_line.new.out.items c.push_port.new.out.items
    (c.in_ok-push_line.ensures.text ∙ ap (λ t. old ++ t) c.port_line.ensures) c.push_port.ensures.front
