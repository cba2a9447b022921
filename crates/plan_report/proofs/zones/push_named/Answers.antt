use Rattle.std.proofs.Common.{◌++◌, ap, ◌∙◌}
use Rattle.plan_report.specs.Texts.{port_line}
use Rattle.plan_report.specs.Told.{zones_told}
use Rattle.plan_report.proofs.Fronts.{behind}
use Rattle.plan_report.proofs.zones.push_named.Goals as goal

pub returns-clause-front : goal.returns-clause-front
returns-clause-front c =
    let old = c.args.out.now.items in
    behind c.push_port.result old (port_line c.args.port) (zones_told c.args.plan.now c.args.port) c.push_line.new.out.items c.push_port.new.out.items
    (c.in_ok-push_line.ensures.text ∙ ap (λ t. old ++ t) c.port_line.ensures) c.push_port.ensures.front
