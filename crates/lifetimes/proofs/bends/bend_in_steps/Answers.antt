use Rattle.std.proofs.Common.{◌≡◌, ◌≤◌, ◌∙◌, ◌+◌, ◌*◌, ℕ, pos, ◌-ℤ◌, ◌*ℤ◌, ◌+ℤ◌, sym, ap, arith, w32, to_z, of_z}
use Rattle.std.specs.Int.{int_div_euclid}
use Rattle.std.proofs.lemmas.Int.{ints, to_z-of_z}
use Rattle.std.proofs.Math.Nat.{mul-le-mul}
use Rattle.retune_model.specs.Source.{sensitivity}
use Rattle.lifetimes.proofs.Stepping.{as_difference, few_steps}
use Rattle.lifetimes.proofs.bends.bend_in_steps.Goals as goal

pub returns : goal.returns
returns c =
    let b = c.args.bend in
    let r = c.args.range in
    let cents : ℕ = 100 * c.args.sensitivity.0 + c.args.sensitivity.1 in
    let few : cents ≤ 12827 = (let h1 = c.requires.semitones in let h2 = c.requires.hundredths in omega (arith, h1, h2)) in
    let most : b * cents ≤ 16383 * 12827 = mul-le-mul c.requires.bend few in
    let range = c.requires.high in
    let some = c.requires.some in
    let above : to_z w32 (of_z w32 (to_z w32 (2 * (b * cents) + 100 * r) -ℤ to_z w32 (16384 * cents)))
    ≡ pos (2 * (b * cents) + 100 * r) -ℤ pos (16384 * cents) = omega (arith, ints, most, few, range) in
    let step : to_z w32 (of_z w32 (pos 2 *ℤ to_z w32 (100 * r))) ≡ pos (200 * r) = omega (arith, ints, range) in
    let found : c.div_euclid.result ≡ int_div_euclid (pos (2 * (b * cents) + 100 * r) -ℤ pos (16384 * cents)) (pos (200 * r)) =
    c.div_euclid.ensures ∙ (ap (λ z. int_div_euclid z (to_z w32 (of_z w32 (pos 2 *ℤ to_z w32 (100 * r))))) above
    ∙ ap (int_div_euclid (pos (2 * (b * cents) + 100 * r) -ℤ pos (16384 * cents))) step) in
    let whole = to_z-of_z w32 c.div_euclid.result (record { sfits = c.div_euclid.type_inv }) ∙ found in
    let bound = few_steps (pos (2 * (b * cents) + 100 * r) -ℤ pos (16384 * cents)) (200 * r) (omega (arith, some)) (omega (arith, ints, few))
    (omega (arith, ints, most, range)) in
    record {
      value = λ s bend value.
          whole ∙ (ap (λ z. int_div_euclid z (pos (200 * r))) (as_difference b cents r)
          ∙ sym (ap (λ n. int_div_euclid ((pos 2 *ℤ (pos n -ℤ pos 8192)) *ℤ pos (sensitivity s) +ℤ pos (100 * r)) (pos (200 * r))) bend
          ∙ ap (λ v. int_div_euclid ((pos 2 *ℤ (pos b -ℤ pos 8192)) *ℤ pos (100 * v.0 + v.1) +ℤ pos (100 * r)) (pos (200 * r))) value));
      low = rw whole bound.0;
      high = rw whole bound.1;
    }
