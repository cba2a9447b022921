use Rattle.std.proofs.Common.{refl, pos, ◌+ℤ◌, ◌-ℤ◌, ◌*ℤ◌, ◌*◌, ◌≡◌, arith, rules}
use Rattle.std.proofs.lemmas.Int.{ints}
use Rattle.retune_model.specs.Table.{nearest_steps}
use Rattle.key_pitch.proofs.Rounding.{steps_is, steps_near}
use Rattle.key_pitch.proofs.nearest.nearest_steps.Goals as goal

pub overflow_cast-result : goal.overflow_cast-result
overflow_cast-result c =
    let is : c.quotient.result ≡ nearest_steps c.args.range c.args.lo = steps_is c.args.range c.args.key c.args.lo c.quotient.result ((c.args.lo -ℤ pos c.args.key *ℤ pos 3200000000000) +ℤ pos (195312500 * c.args.range)) (pos (390625000 * c.args.range)) (c.quotient.ensures ((c.args.lo -ℤ pos c.args.key *ℤ pos 3200000000000) +ℤ pos (195312500 * c.args.range)) (pos (390625000 * c.args.range)) (omega (arith, ints)) (omega (arith, ints))) c.requires.key refl refl in
    let near = steps_near c.args.range c.args.key c.args.lo c.quotient.result is c.requires.key c.requires.range_some c.requires.range_high in
    let low = near.0 in
    let high = near.1 in
    search (rules, arith, ints)

pub returns : goal.returns
returns c =
    let is : c.quotient.result ≡ nearest_steps c.args.range c.args.lo = steps_is c.args.range c.args.key c.args.lo c.quotient.result ((c.args.lo -ℤ pos c.args.key *ℤ pos 3200000000000) +ℤ pos (195312500 * c.args.range)) (pos (390625000 * c.args.range)) (c.quotient.ensures ((c.args.lo -ℤ pos c.args.key *ℤ pos 3200000000000) +ℤ pos (195312500 * c.args.range)) (pos (390625000 * c.args.range)) (omega (arith, ints)) (omega (arith, ints))) c.requires.key refl refl in
    let near = steps_near c.args.range c.args.key c.args.lo c.quotient.result is c.requires.key c.requires.range_some c.requires.range_high in
    omega (arith, ints, near.0, near.1, is)
