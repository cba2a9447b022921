use Rattle.std.proofs.Common.{◌∙◌, sym, arith}
use Rattle.tab.proofs.Differences.{same_count, next_count}
use Rattle.tab.proofs.Tab.count_differences.Goals as goal

pub loop-place-preserved : goal.loop-place-preserved
loop-place-preserved g c =
    let i = c.loop-place.invariant in
    let e = c.in-Some.ensures in
    let n = next_count _ _ c.loop-place.from c.in-Some.place e.place.0 e.least e.differs in
    record {
      within = omega (arith, e.place.1);
      counted = omega (arith, i.counted, n);
      few = omega (arith, i.few, e.place.0);
    }

pub returns : goal.returns
returns g c =
    let i = c.loop-place.invariant in
    i.counted ∙ sym (same_count _ _ c.loop-place.from g.row.N i.within c.in_default.ensures.none)
