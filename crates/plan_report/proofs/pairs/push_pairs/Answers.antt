use Rattle.std.proofs.Common.{◌++◌, map, ap, sym, ◌∙◌, arith}
use Rattle.std.proofs.Math.ListN.{get_or-map}
use Rattle.std.proofs.lemmas.List.{length-map}
use Rattle.lifetimes.specs.Views.{pair_of}
use Rattle.plan_report.specs.Texts.{pair_line}
use Rattle.plan_report.proofs.Fronts.{nothing, on_error}
use Rattle.plan_report.proofs.Pieces.{one_more, next_front}
use Rattle.plan_report.proofs.pairs.push_pairs.Goals as goal

pub returns-in_err-push_line-clause-front : goal.returns-in_err-push_line-clause-front
returns-in_err-push_line-clause-front c =
    let pairs = c.args.pairs.now in
    let pair = c.pair-item.result in
    on_error _ _ (next_front pair_line (map pair_of pairs) c.loop-pair.pair-index (pair_of pair) (pair_of pair) c.args.out.now.items
    c.loop-pair.out.items c.push_line.new.out.items (omega (arith, c.loop-pair-test.true, length-map pairs pair_of))
    (ap pair_of c.pair-item.is ∙ sym (get_or-map pair_of pairs c.loop-pair.pair-index pair)) c.loop-pair.invariant
    (nothing c.loop-pair.out.items (pair_line (pair_of pair)) c.push_line.new.out.items c.in_err-push_line.ensures.same))

pub loop-pair-preserved : goal.loop-pair-preserved
loop-pair-preserved c =
    let pairs = c.args.pairs.now in
    let pair = c.pair-item.result in
    one_more pair_line (map pair_of pairs) c.loop-pair.pair-index (pair_of pair) (pair_of pair) c.args.out.now.items c.loop-pair.out.items
    c.push_line.new.out.items (omega (arith, c.loop-pair-test.true, length-map pairs pair_of))
    (ap pair_of c.pair-item.is ∙ sym (get_or-map pair_of pairs c.loop-pair.pair-index pair)) c.loop-pair.invariant
    (c.in_ok-push_line.ensures.text ∙ ap (λ t. c.loop-pair.out.items ++ t) c.pair_line.ensures)
