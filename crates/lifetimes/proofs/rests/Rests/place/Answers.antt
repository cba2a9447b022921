use Rattle.std.proofs.Common.{rules, subst, w32}
use Rattle.std.proofs.lemmas.Int.{to_z-of_z}
use Rattle.lifetimes.specs.Resting.{IsPlaceOf}
use Rattle.lifetimes.proofs.Rising.{nowhere}
use Rattle.lifetimes.proofs.rests.Rests.place.Goals as goal

pub returns-in-Some-2-clause-none : goal.returns-in-Some-2-clause-none
returns-in-Some-2-clause-none c =
    let rests = c.args.self.now in
    nowhere rests.items.items c.args.steps c.from-place.result rests.rising
    (subst (λ q. IsPlaceOf rests.items.items q c.from-place.result) (to_z-of_z w32 c.args.steps c.ranges.steps) c.from-place.ensures.point)
    (λ within. search (rules, c.if-rest-steps.false))
