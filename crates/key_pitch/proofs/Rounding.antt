-- Pitches rounded to the nearest key and to the nearest step of a bend.
use Rattle.std.proofs.Common.{◌≡◌, ℕ, ◌+◌, ◌*◌, ◌/◌, ◌≤◌, ℤ, pos, negsuc, ◌+ℤ◌, ◌-ℤ◌, ◌*ℤ◌, arith, sym, ◌∙◌, ap}
use Rattle.std.specs.Prelude.{◌≤ℤ◌, neg_ℤ}
use Rattle.std.specs.Int.{int_div_euclid}
use Rattle.std.proofs.lemmas.Int.{ints}
use Rattle.std.proofs.Math.Nat.{mul-le-mul_left, div-mul-le_self}
use Rattle.retune_model.specs.Table.{nearest_key, nearest_steps}

-- a number and its quotient
pub near_key : (z : ℤ) (k : ℕ) → int_div_euclid z (pos 3200000000000) ≡ pos k → (pos (k * 3200000000000) ≤ℤ z) × (z ≤ℤ pos (k * 3200000000000 + 3200000000000))
near_key (pos a) k e = (omega (arith, ints, e), omega (arith, ints, e))
near_key (negsuc a) k e = absurd (let no : ⊥ = omega (arith, ints, e) in no)

quotient : (a d : ℕ) → 390625000 ≤ d → a ≤ 1700000000000 → a / d ≤ 5000
quotient a d more less =
    let p : (a / d) * 390625000 ≤ (a / d) * d = mul-le-mul_left (a / d) more in
    let q : (a / d) * d ≤ a = div-mul-le_self a d in
    omega (arith, p, q)

pub few_steps : (y : ℤ) (d : ℕ) → 390625000 ≤ d → neg_ℤ (pos 1700000000000) ≤ℤ y → y ≤ℤ pos 1700000000000 → (neg_ℤ (pos 5001) ≤ℤ int_div_euclid y (pos d)) × (int_div_euclid y (pos d) ≤ℤ pos 5001)
few_steps (pos a) d more low high = let q = quotient a d more (omega (arith, ints)) in (omega (arith, ints, q), omega (arith, ints, q))
few_steps (negsuc a) d more low high = let q = quotient a d more (omega (arith, ints)) in (omega (arith, ints, q), omega (arith, ints, q))

pub steps_is : (range key : ℕ) (lo q y d : ℤ) → q ≡ int_div_euclid y d → nearest_key lo ≡ pos key → y ≡ (lo -ℤ pos key *ℤ pos 3200000000000) +ℤ pos (195312500 * range) → d ≡ pos (390625000 * range) → q ≡ nearest_steps range lo
steps_is range key lo q y d is at above step =
    is ∙ ap (λ z. int_div_euclid z d) above ∙ ap (λ z. int_div_euclid ((lo -ℤ pos key *ℤ pos 3200000000000) +ℤ pos (195312500 * range)) z) step ∙ ap (λ z. int_div_euclid ((lo -ℤ z *ℤ pos 3200000000000) +ℤ pos (195312500 * range)) (pos (390625000 * range))) (sym at)

pub steps_near : (range key : ℕ) (lo q : ℤ) → q ≡ nearest_steps range lo → nearest_key lo ≡ pos key → 1 ≤ range → range ≤ 96 → (neg_ℤ (pos 5001) ≤ℤ q) × (q ≤ℤ pos 5001)
steps_near range key lo q is at some high =
    let n = near_key (lo +ℤ pos 1600000000000) key at in
    let product : nearest_key lo *ℤ pos 3200000000000 ≡ pos key *ℤ pos 3200000000000 = ap (λ z. z *ℤ pos 3200000000000) at in
    let f = few_steps ((lo -ℤ nearest_key lo *ℤ pos 3200000000000) +ℤ pos (195312500 * range)) (390625000 * range) (omega arith)
    (omega (arith, ints, n.0, n.1, product)) (omega (arith, ints, n.0, n.1, product)) in
    (omega (arith, ints, is, f.0), omega (arith, ints, is, f.1))
