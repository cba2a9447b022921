use Rattle.std.proofs.Common.{◌≡◌, ◌++◌, map, ap, subst, ◌∙◌}
use Rattle.std.specs.Prelude.{OnErr}
use Rattle.lifetimes.specs.Views.{pair_of}
use Rattle.channel_plan.specs.Told.{need_in, instant_in}
use Rattle.plan_report.specs.Texts.{need_line, pair_lines}
use Rattle.plan_report.specs.Told.{need_told, IsFront}
use Rattle.plan_report.proofs.Fronts.{nothing, on_error, behind}
use Rattle.plan_report.proofs.needs.push_port.Goals as goal

pub returns-in_err-push_line-clause-front : goal.returns-in_err-push_line-clause-front
returns-in_err-push_line-clause-front c =
    on_error _ _ (nothing c.args.out.now.items (need_told c.args.plan.now c.args.port) c.push_line.new.out.items c.in_err-push_line.ensures.same)

pub returns-clause-front : goal.returns-clause-front
returns-clause-front c =
    let old = c.args.out.now.items in
    let new = c.push_pairs.new.out.items in
    let need = need_in c.args.plan.now c.args.port in
    let at = instant_in c.args.plan.now c.args.port in
    let whole : c.push_line.new.out.items ≡ old ++ need_line need at =
    c.in_ok-push_line.ensures.text ∙ ap (λ t. old ++ t) c.need_line.ensures
    ∙ ap (λ n. old ++ need_line n c.instant.result) c.need.ensures ∙ ap (λ i. old ++ need_line need i) c.instant.ensures in
    subst (λ ps. OnErr c.push_pairs.result (IsFront old (need_line need at ++ pair_lines (map pair_of ps)) new)) c.witness.ensures
    (behind c.push_pairs.result old (need_line need at) (pair_lines (map pair_of c.witness.result.now)) c.push_line.new.out.items new whole
    c.push_pairs.ensures.front)
