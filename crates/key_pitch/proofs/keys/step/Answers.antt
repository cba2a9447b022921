use Rattle.std.proofs.Common.{[], ◌-◌, arith, rules, ◌∙◌, subst, Some}
use Rattle.std.proofs.lemmas.Int.{ints}
use Rattle.std.proofs.Common.{ap}
use Rattle.mt_base.specs.Pitch.{exactly}
use Rattle.key_pitch.specs.Sums.{Sums}
use Rattle.key_pitch.proofs.Steps.{element, step_sums}
use Rattle.key_pitch.proofs.keys.step.Goals as goal

pub grains-requires-in-Cents-clause-low : goal.grains-requires-in-Cents-clause-low
grains-requires-in-Cents-clause-low c =
    let there = element c.scale.inside.entries.items (c.args.place - 1) c.index.result.now (search rules) c.index.ensures in
    let r = c.scale.invariant.cents (c.args.place - 1) c.in-Cents.nanocents (there ∙ ap (λ e. Some e) c.in-Cents.is) in
    omega (arith, ints, r.low, r.high)

pub grains-requires-in-Cents-clause-high : goal.grains-requires-in-Cents-clause-high
grains-requires-in-Cents-clause-high c =
    let there = element c.scale.inside.entries.items (c.args.place - 1) c.index.result.now (search rules) c.index.ensures in
    let r = c.scale.invariant.cents (c.args.place - 1) c.in-Cents.nanocents (there ∙ ap (λ e. Some e) c.in-Cents.is) in
    omega (arith, ints, r.low, r.high)

pub returns-in-Ratio-clause-sum : goal.returns-in-Ratio-clause-sum
returns-in-Ratio-clause-sum c =
    let there = element c.scale.inside.entries.items (c.args.place - 1) c.index.result.now (search rules) c.index.ensures in
    rw (← c.scale.view_is) (step_sums c.scale.inside.entries.items c.args.place _ c.ratio.result c.if-place-eq0.false (there ∙ ap (λ e. Some e) c.in-Ratio.is) c.ratio.ensures.sum)

pub returns-in-Cents-clause-sum : goal.returns-in-Cents-clause-sum
returns-in-Cents-clause-sum c =
    let there = element c.scale.inside.entries.items (c.args.place - 1) c.index.result.now (search rules) c.index.ensures in
    let r = c.scale.invariant.cents (c.args.place - 1) c.in-Cents.nanocents (there ∙ ap (λ e. Some e) c.in-Cents.is) in
    rw (← c.scale.view_is) (step_sums c.scale.inside.entries.items c.args.place _ c.grains-in-Cents.result c.if-place-eq0.false (there ∙ ap (λ e. Some e) c.in-Cents.is)
    (subst (λ z. Sums (exactly z) 0 [] c.grains-in-Cents.result) (omega (arith, ints, r.low, r.high)) c.grains-in-Cents.ensures.sum))
