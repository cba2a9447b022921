use Rattle.std.proofs.Common.{◌≤◌, ◌+◌, ◌*◌, ◌∙◌, Some, length, sym, ap, subst, arith, length-append}
use Rattle.channel_model.specs.MpeOutput.{zone_setup}
use Rattle.channel_plan.specs.Told.{zone_in}
use Rattle.mpe_route.specs.Zones.{zone_from, zones_from, AreSmall}
use Rattle.mpe_route.proofs.Ranges.{setup_length}
use Rattle.mpe_route.proofs.setup.setup.Goals as goal

pub push_zone-requires-in-Some-zone-clause-room : goal.push_zone-requires-in-Some-zone-clause-room
push_zone-requires-in-Some-zone-clause-room c =
    let plan = c.args.plan.now in
    let lower = c.in-Some.lower in
    let upper = c.in-Some-zone.upper in
    let few : lower.need + upper.need ≤ 14 =
    subst (λ x. AreSmall (zones_from (Some lower) x)) (sym c.zone-in-Some.ensures ∙ c.in-Some-zone.is)
    (subst (λ x. AreSmall (zones_from x (zone_in plan c.args.port 1))) (sym c.zone.ensures ∙ c.in-Some.is) c.requires) in
    let first : length (zone_setup c.args.range (zone_from lower)) ≤ 5 + 5 * lower.need = setup_length c.args.range (zone_from lower) in
    let empty = ap length c.new-out.ensures in
    omega (arith, few, first, ap length c.push_zone.ensures, length-append c.new-out.result.items (zone_setup c.args.range (zone_from lower)), empty)
