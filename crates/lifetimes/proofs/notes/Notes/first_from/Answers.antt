use Rattle.std.proofs.Common.{◌≡◌, sym, subst, w32}
use Rattle.std.specs.Prelude.{ℤ, ◌≤ℤ◌, false, IfSome, IfNone}
use Rattle.std.proofs.lemmas.Int.{to_z-of_z}
use Rattle.lifetimes.specs.Lists.{IsPlaceIn, has_steps}
use Rattle.lifetimes.specs.Resting.{IsLeast}
use Rattle.lifetimes.proofs.FirstNote.{first_with, first_some, first_none}
use Rattle.lifetimes.proofs.notes.Notes.first_from.Goals as goal

pub returns-clause-some : goal.returns-clause-some
returns-clause-some c =
    let xs = c.args.self.now.sounding.items in
    let place = subst (λ q. IsPlaceIn xs (first_with q) c.from.result) (to_z-of_z w32 c.args.steps c.ranges.steps) c.from.ensures.point in
    subst (λ o. IfSome o (λ x. IsLeast (has_steps xs) c.args.steps x.steps)) (sym c.at.ensures)
    (first_some xs c.args.steps c.from.result c.args.self.now.in_turn place)

pub returns-clause-none : goal.returns-clause-none
returns-clause-none c =
    let xs = c.args.self.now.sounding.items in
    let place = subst (λ q. IsPlaceIn xs (first_with q) c.from.result) (to_z-of_z w32 c.args.steps c.ranges.steps) c.from.ensures.point in
    subst (λ o. IfNone o ((q : ℤ) → c.args.steps ≤ℤ q → has_steps xs q ≡ false)) (sym c.at.ensures)
    (first_none xs c.args.steps c.from.result place)
