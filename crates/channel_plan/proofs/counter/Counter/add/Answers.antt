use Rattle.std.proofs.Common.{◌≡◌, ◌<◌, length, map, sym, ap, ◌∙◌, subst, refl, arith, inl, inr, slice_index_or}
use Rattle.std.specs.List.{insert}
use Rattle.lifetimes.specs.Views.{pair_of}
use Rattle.channel_plan.specs.Counts.{place_in}
use Rattle.channel_plan.proofs.Inserting.{IsNew, put_new, put_known}
use Rattle.retune_model.specs.Pairs.{is_before}
use Rattle.channel_plan.proofs.counter.Counter.add.Goals.{then-place-len-via-then-place-len, then-place-len-via-else-place-len+then-comes_before}
use Rattle.channel_plan.proofs.counter.Counter.add.Goals as goal

pub returns-in_ok-insert-clause-pairs : goal.returns-in_ok-insert-clause-pairs
returns-in_ok-insert-clause-pairs c =
    let xs = c.args.self.now.pairs.items in
    let p = pair_of c.args.pair.now in
    let at : c.place_of-place.result ≡ place_in p (map pair_of xs) = c.place_of-place.ensures.place ∙ ap (λ ys. place_in p (map pair_of ys)) c.as_slice.ensures.value in
    let new : IsNew p xs c.place_of-place.result = elim c.then-place-len.branch [
      | then-place-len-via-then-place-len w ↦ inl (let e = ap length c.as_slice.ensures.value in let f = c.as_slice.ensures.len in let g = c.len.ensures in let h = w.if-place-len.true in omega (arith, e, f, g, h))
      | then-place-len-via-else-place-len+then-comes_before w ↦ inr (w.index.result.now, ap (λ x. is_before p (pair_of x)) (sym w.index.ensures) ∙ sym w.comes_before.ensures ∙ w.if-comes_before.true)
    ] in
    ap (map pair_of) c.in_ok-insert.ensures.items
    ∙ ap (λ i. map pair_of (insert xs i c.args.pair.now)) at
    ∙ put_new p c.args.pair.now refl xs (subst (λ i. IsNew p xs i) at new)

pub returns-else-comes_before-clause-pairs : goal.returns-else-comes_before-clause-pairs
returns-else-comes_before-clause-pairs c =
    let xs = c.args.self.now.pairs.items in
    let p = pair_of c.args.pair.now in
    let at : c.place_of-place.result ≡ place_in p (map pair_of xs) = c.place_of-place.ensures.place ∙ ap (λ ys. place_in p (map pair_of ys)) c.as_slice.ensures.value in
    let e = ap length c.as_slice.ensures.value in
    let f = c.as_slice.ensures.len in
    let g = c.len.ensures in
    let b = c.place_of-place.ensures.bound in
    let n = c.if-place-len.false in
    put_known p c.index.result.now xs
    (subst (λ i. i < length xs) at (omega (arith, e, f, g, b, n)))
    (ap (λ i. is_before p (pair_of (slice_index_or xs i c.index.result.now))) (sym at) ∙ ap (λ x. is_before p (pair_of x)) (sym c.index.ensures) ∙ sym c.comes_before.ensures ∙ c.if-comes_before.false)
