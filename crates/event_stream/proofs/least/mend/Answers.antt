use Rattle.std.proofs.Common.{◌≡◌, ◌<◌, ◌+◌, ◌*◌, ◌/◌, length, get_or, min, arith, refl, sym, ◌∙◌, get_or-set_same}
use Rattle.std.proofs.lemmas.List.{length-set}
use Rattle.event_stream.proofs.Trees.{place_mended, leaves_stay}
use Rattle.event_stream.proofs.Under.{at_leaf, one_up, at_first, lesser}
use Rattle.event_stream.proofs.least.mend.Goals as goal

pub loop-at-init : goal.loop-at-init
loop-at-init c = record {
  size = c.requires.size;
  some = c.requires.some;
  inside = c.requires.inside;
  but_one = c.requires.but_one;
  least = refl;
  others = at_leaf 18446744073709551615 c.args.leaf c.args.count c.args.tree.now c.requires.least c.requires.inside;
  leaves = refl;
}

pub loop-at-preserved : goal.loop-at-preserved
loop-at-preserved c =
    let l = c.loop-at in
    let more = c.loop-at-test.true in
    let low : l.at / 2 < c.args.count = omega (arith, l.invariant.inside) in
    let room : l.at / 2 < length l.tree = omega (arith, low, c.requires.few, l.invariant.size) in
    let some : 0 < l.at / 2 = omega (arith, more) in
    let is : c.min-least.result ≡ min (get_or l.tree (2 * (l.at / 2)) 0) (get_or l.tree (2 * (l.at / 2) + 1) 0) =
    lesser l.least c.beside-other.result l.at l.tree c.min-least.result c.min-least.ensures l.invariant.least c.beside-other.ensures.even c.beside-other.ensures.odd in
    record {
      size = rw length-set l.invariant.size;
      some = some;
      inside = omega (arith, low);
      least = sym (get_or-set_same l.tree (l.at / 2) c.min-least.result 0 room);
      but_one = rw is (place_mended c.args.count (l.at / 2) l.tree some room l.invariant.but_one);
      others = rw c.min-others.ensures (one_up l.others c.beside-other.result l.at c.args.leaf c.args.count c.min-least.result l.tree more low l.invariant.but_one l.invariant.others c.beside-other.ensures.even c.beside-other.ensures.odd);
      leaves = leaves_stay c.args.count (l.at / 2) c.min-least.result l.tree low ∙ l.invariant.leaves;
    }

pub returns-clause-others : goal.returns-clause-others
returns-clause-others c =
    let l = c.loop-at in
    at_first l.others l.at c.args.leaf c.args.count l.tree (omega (arith, c.loop-at-test.false, l.invariant.some)) (omega (arith, c.requires.few, l.invariant.size)) c.requires.least l.invariant.others
