use Rattle.std.proofs.Common.{rules, ◌≡◌, ◌<◌, ◌∙◌, true, refl, sym, ap, subst, arith, length, get_or, w32, to_z, of_z}
use Rattle.std.proofs.lemmas.Int.{to_z-of_z}
use Rattle.std.proofs.lemmas.List.{get_or_read_under}
use Rattle.retune_model.specs.Rests.{is_within_tail}
use Rattle.lifetimes.specs.Resting.{no_rest, steps_at, IsPlaceOf, IsLeastResting}
use Rattle.lifetimes.proofs.Least.{silent, least_there}
use Rattle.lifetimes.proofs.rests.Rests.least.Goals as goal

pub returns-then-is_within_tail-clause-some : goal.returns-then-is_within_tail-clause-some
returns-then-is_within_tail-clause-some c =
    let xs = c.args.self.now.items.items in
    let i = c.loop-place.place in
    let size : c.len-place-end.result ≡ length xs = search (rules, c.len-place-end.ensures) in
    let test = c.loop-place-test.true in
    let within : i < length xs = omega (arith, size, test) in
    let at : IsPlaceOf xs c.args.from c.from-first.result = subst (λ q. IsPlaceOf xs q c.from-first.result) (to_z-of_z w32 c.args.from c.ranges.from) c.from-first.ensures.point in
    let read : c.index-rest.result.now ≡ get_or xs i no_rest = get_or_read_under xs i (length xs) c.index-rest.result.now no_rest c.index-rest.ensures within refl in
    let here : is_within_tail c.args.tail c.args.tick (get_or xs i no_rest).end ≡ true =
    ap (λ x. is_within_tail c.args.tail c.args.tick x.end) (sym read) ∙ (sym c.is_within_tail.ensures ∙ c.if-is_within_tail.true) in
    let least : IsLeastResting xs c.args.from c.args.tail c.args.tick (steps_at xs i) =
    least_there xs c.args.from c.from-first.result i c.args.tail c.args.tick c.args.self.now.rising at c.loop-place.invariant (search (rules, c.loop-place.auto.place)) within here in
    let told : to_z w32 (of_z w32 c.index-rest.result.now.steps) ≡ steps_at xs i = to_z-of_z w32 c.index-rest.result.now.steps (search rules) ∙ ap (λ x. x.steps) read in
    subst (λ q. IsLeastResting xs c.args.from c.args.tail c.args.tick q) (sym told) least

pub returns-clause-none : goal.returns-clause-none
returns-clause-none c = λ p more.
    let xs = c.args.self.now.items.items in
    let size : c.len-place-end.result ≡ length xs = search (rules, c.len-place-end.ensures) in
    let test = c.loop-place-test.false in
    let at : IsPlaceOf xs c.args.from c.from-first.result = subst (λ q. IsPlaceOf xs q c.from-first.result) (to_z-of_z w32 c.args.from c.ranges.from) c.from-first.ensures.point in
    silent xs c.args.from p c.from-first.result c.loop-place.place c.args.tail c.args.tick c.args.self.now.rising at c.loop-place.invariant more (λ k within e. omega (arith, size, test, within))
