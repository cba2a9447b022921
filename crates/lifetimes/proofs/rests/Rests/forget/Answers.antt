use Rattle.std.proofs.Common.{◌≡◌, ◌∙◌, Some, None, false, is_some, refl, sym, ap, length, get_or, w32}
use Rattle.std.proofs.lemmas.Int.{to_z-of_z}
use Rattle.std.proofs.lemmas.Bool.{eq-eqb, ne_eqb}
use Rattle.std.proofs.lemmas.List.{get_or_read_under}
use Rattle.lifetimes.specs.Resting.{no_rest, steps_at, end_kept, is_end_at}
use Rattle.lifetimes.proofs.Kept.{found, lost}
use Rattle.retune_model.specs.Faults.{int_eq}
use Rattle.lifetimes.proofs.Placed.{others_admitted}
use Rattle.lifetimes.proofs.Edits.{when_none, stays, goes}
use Rattle.lifetimes.proofs.rests.Rests.forget.Goals as goal

pub returns-in_default-clause-ends : goal.returns-in_default-clause-ends
returns-in_default-clause-ends c = λ q.
    let xs = c.args.self.now.items.items in
    let lone : is_some c.place.result ≡ false = ap is_some c.in_default.is in
    let none = when_none c.place.result lone c.place.ensures.none in
    let same = to_z-of_z w32 c.args.steps c.ranges.steps in
    stays xs c.args.steps c.args.end q (ap (is_end_at c.args.end) (lost xs c.args.steps (λ k within e. none k within (e ∙ sym same))))

pub returns-then-last-end-clause-ends : goal.returns-then-last-end-clause-ends
returns-then-last-end-clause-ends c = λ q.
    let xs = c.args.self.now.items.items in
    let i = c.in-Some.place in
    let within = c.in-Some.ensures.some in
    let at : steps_at xs i ≡ c.args.steps = c.in-Some.ensures.at ∙ to_z-of_z w32 c.args.steps c.ranges.steps in
    let read : c.index.result.now ≡ get_or xs i no_rest = get_or_read_under xs i (length xs) c.index.result.now no_rest c.index.ensures within refl in
    let kept : end_kept xs c.args.steps ≡ Some c.in-Some-end.last = found xs c.args.steps i c.args.self.now.rising within at ∙ (ap (λ x. x.end) (sym read) ∙ c.in-Some-end.is) in
    ap (λ l. end_kept l q) c.remove.ensures.items
    ∙ goes xs i c.args.steps c.args.end q within c.args.self.now.rising at (ap (is_end_at c.args.end) kept ∙ eq-eqb c.in-Some-end.last c.args.end c.if-last-end.true)

pub returns-then-last-end-clause-admitted : goal.returns-then-last-end-clause-admitted
returns-then-last-end-clause-admitted c = λ q other.
    let at : steps_at c.args.self.now.items.items c.in-Some.place ≡ c.args.steps = c.in-Some.ensures.at ∙ to_z-of_z w32 c.args.steps c.ranges.steps in
    others_admitted c.args.self.now.items.items c.remove.new.self.items c.in-Some.place q c.remove.ensures.items c.in-Some.ensures.some (ap (λ s. int_eq s q) at ∙ other)

pub returns-else-last-end-clause-ends : goal.returns-else-last-end-clause-ends
returns-else-last-end-clause-ends c = λ q.
    let xs = c.args.self.now.items.items in
    let i = c.in-Some.place in
    let within = c.in-Some.ensures.some in
    let at : steps_at xs i ≡ c.args.steps = c.in-Some.ensures.at ∙ to_z-of_z w32 c.args.steps c.ranges.steps in
    let read : c.index.result.now ≡ get_or xs i no_rest = get_or_read_under xs i (length xs) c.index.result.now no_rest c.index.ensures within refl in
    let kept : end_kept xs c.args.steps ≡ Some c.in-Some-end.last = found xs c.args.steps i c.args.self.now.rising within at ∙ (ap (λ x. x.end) (sym read) ∙ c.in-Some-end.is) in
    stays xs c.args.steps c.args.end q (ap (is_end_at c.args.end) kept ∙ ne_eqb c.in-Some-end.last c.args.end c.if-last-end.false)

pub returns-in_default-end-clause-ends : goal.returns-in_default-end-clause-ends
returns-in_default-end-clause-ends c = λ q.
    let xs = c.args.self.now.items.items in
    let i = c.in-Some.place in
    let within = c.in-Some.ensures.some in
    let at : steps_at xs i ≡ c.args.steps = c.in-Some.ensures.at ∙ to_z-of_z w32 c.args.steps c.ranges.steps in
    let read : c.index.result.now ≡ get_or xs i no_rest = get_or_read_under xs i (length xs) c.index.result.now no_rest c.index.ensures within refl in
    let kept : end_kept xs c.args.steps ≡ None = found xs c.args.steps i c.args.self.now.rising within at ∙ (ap (λ x. x.end) (sym read) ∙ c.in_default-end.is) in
    stays xs c.args.steps c.args.end q (ap (is_end_at c.args.end) kept)
