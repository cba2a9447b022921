use Rattle.std.proofs.Common.{arith, ◌≤◌, ℕ, pos, ◌+◌, ◌*◌, ◌-ℤ◌, ◌*ℤ◌, ◌∙◌, ap, sym, subst}
use Rattle.std.specs.Prelude.{◌≤ℤ◌, neg_ℤ}
use Rattle.std.proofs.lemmas.Int.{ints}
use Rattle.receiver.proofs.Played.{bend_low, bend_high, bend_fits, bend_kept}
use Rattle.receiver.proofs.state.ChannelState.bent.Goals as goal

pub overflow_mul-result : goal.overflow_mul-result
overflow_mul-result c =
    bend_fits _ _ (omega (arith, c.value-range.ensures.high, c.value-range.ensures.low)) c.args.self.now.bend_fits

pub returns-clause-bend : goal.returns-clause-bend
returns-clause-bend c =
    bend_kept _ _ (omega (arith, c.value-range.ensures.high, c.value-range.ensures.low)) c.args.self.now.bend_fits
    ∙ ap (λ v. pos (3906250 * (100 * v.0 + v.1)) *ℤ (pos c.args.self.now.bend -ℤ pos 8192)) c.value-range.ensures.value

pub returns-clause-low : goal.returns-clause-low
returns-clause-low c =
    let n : ℕ = 3906250 * (100 * c.value-range.result.0 + c.value-range.result.1) in
    let few : n ≤ 1000000000000 = omega (arith, c.value-range.ensures.high, c.value-range.ensures.low) in
    subst (λ z. neg_ℤ (pos 18446744073709551616) ≤ℤ z) (sym (bend_kept _ _ few c.args.self.now.bend_fits)) (omega (arith, ints, bend_low n c.args.self.now.bend few))

pub returns-clause-high : goal.returns-clause-high
returns-clause-high c =
    let n : ℕ = 3906250 * (100 * c.value-range.result.0 + c.value-range.result.1) in
    let few : n ≤ 1000000000000 = omega (arith, c.value-range.ensures.high, c.value-range.ensures.low) in
    subst (λ z. z ≤ℤ pos 18446744073709551616) (sym (bend_kept _ _ few c.args.self.now.bend_fits)) (omega (arith, ints, bend_high n c.args.self.now.bend few c.args.self.now.bend_fits))
