use Rattle.std.proofs.Common.{◌≡◌, ◌++◌, map, Some, ap, sym, subst, ◌∙◌}
use Rattle.std.specs.Prelude.{OnErr}
use Rattle.lifetimes.specs.Views.{pair_of}
use Rattle.channel_plan.specs.Told.{zone_in, zone_pairs_in}
use Rattle.plan_report.specs.Texts.{zone_line, pair_lines}
use Rattle.plan_report.specs.Told.{zone_lines_if, IsFront}
use Rattle.plan_report.proofs.Fronts.{behind}
use Rattle.plan_report.proofs.zones.push_zone.Goals as goal

pub returns-clause-front : goal.returns-clause-front
returns-clause-front c =
    let old = c.args.out.now.items in
    let new = c.push_pairs.new.out.items in
    let zone = c.in-Some.zone in
    let ps = map pair_of (zone_pairs_in c.args.plan.now c.args.port c.args.place) in
    let some : zone_in c.args.plan.now c.args.port c.args.place ≡ Some zone = sym c.zone.ensures ∙ c.in-Some.is in
    subst (λ o. OnErr c.push_pairs.result (IsFront old (zone_lines_if o ps) new)) (sym some)
    (subst (λ qs. OnErr c.push_pairs.result (IsFront old (zone_line zone ++ pair_lines (map pair_of qs)) new)) c.zone_pairs.ensures
    (behind c.push_pairs.result old (zone_line zone) (pair_lines (map pair_of c.zone_pairs.result.now)) c.push_line.new.out.items new
    (c.in_ok-push_line.ensures.text ∙ ap (λ t. old ++ t) c.zone_line.ensures) c.push_pairs.ensures.front))
