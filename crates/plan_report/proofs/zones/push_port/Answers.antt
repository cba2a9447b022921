use Rattle.plan_report.specs.Told.{zone_told}
use Rattle.plan_report.proofs.Fronts.{in_first, on_error, behind}
use Rattle.plan_report.proofs.zones.push_port.Goals as goal

pub returns-in_err-push_zone-clause-front : goal.returns-in_err-push_zone-clause-front
returns-in_err-push_zone-clause-front c =
    on_error _ _ (in_first c.args.out.now.items (zone_told c.args.plan.now c.args.port 0) (zone_told c.args.plan.now c.args.port 1)
    c.push_zone.new.out.items c.in_err-push_zone.ensures.front)

pub returns-clause-front : goal.returns-clause-front
returns-clause-front c = behind c.push_zone-2.result c.args.out.now.items (zone_told c.args.plan.now c.args.port 0)
    (zone_told c.args.plan.now c.args.port 1) c.push_zone.new.out.items c.push_zone-2.new.out.items c.in_ok-push_zone.ensures.text
    c.push_zone-2.ensures.front
