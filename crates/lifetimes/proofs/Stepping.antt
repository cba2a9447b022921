-- A bend in steps, as the program computes it.
use Rattle.std.proofs.Common.{◌≡◌, ◌≤◌, ◌+◌, ◌*◌, ◌-◌, ◌/◌, ◌∙◌, ℕ, suc, ℤ, pos, negsuc, neg_ℤ, ◌+ℤ◌, ◌-ℤ◌, ◌*ℤ◌, sym, ap, arith, inl, inr}
use Rattle.std.specs.Prelude.{◌≤ℤ◌}
use Rattle.std.specs.Int.{int_div_euclid}
use Rattle.std.proofs.lemmas.Int.{ints}
use Rattle.std.proofs.Math.Nat.{mul-le-mul_left, div-mul-le_self}
use Rattle.std.proofs.lemmas.Bool.{cases_lt}
use Rattle.std.proofs.Math.IntN.{pos-*ℤ-pos, negsuc-*ℤ-pos, pos-*ℤ-negsuc}

above_middle : (d s : ℕ) → 2 * ((d + 8192) * s) ≡ 2 * d * s + 16384 * s
above_middle d s = omega arith

below_middle : (b e s : ℕ) → 2 * (b * s) + suc (suc (e + e)) * s ≡ 2 * ((b + suc e) * s)
below_middle b e s = omega arith

from_above : (d s r : ℕ) → pos (2 * ((d + 8192) * s) + 100 * r) -ℤ pos (16384 * s) ≡ (pos 2 *ℤ pos d) *ℤ pos s +ℤ pos (100 * r)
from_above d s r =
    let product : (pos 2 *ℤ pos d) *ℤ pos s ≡ pos (2 * d * s) = ap (λ z. z *ℤ pos s) (pos-*ℤ-pos 2 d) ∙ pos-*ℤ-pos (2 * d) s in
    let same = above_middle d s in
    (let less : pos (2 * ((d + 8192) * s) + 100 * r) -ℤ pos (16384 * s) ≡ pos (2 * d * s) +ℤ pos (100 * r) = omega (arith, ints, same) in
    less ∙ sym (ap (λ z. z +ℤ pos (100 * r)) product))

from_below : (b e s r : ℕ) → b + suc e ≡ 8192 → pos (2 * (b * s) + 100 * r) -ℤ pos (16384 * s) ≡ (pos 2 *ℤ negsuc e) *ℤ pos s +ℤ pos (100 * r)
from_below b e s r sum =
    let double : pos 2 *ℤ negsuc e ≡ negsuc (suc (e + e)) = pos-*ℤ-negsuc 2 e ∙ (let n : 2 * suc e ≡ suc (suc (e + e)) = omega arith in ap (λ n. neg_ℤ (pos n)) n) in
    let product : (pos 2 *ℤ negsuc e) *ℤ pos s ≡ neg_ℤ (pos (suc (suc (e + e)) * s)) = ap (λ z. z *ℤ pos s) double ∙ negsuc-*ℤ-pos (suc (e + e)) s in
    let same = below_middle b e s in
    let all : 2 * ((b + suc e) * s) ≡ 16384 * s = ap (λ n. 2 * (n * s)) sum ∙ (omega arith) in
    (let less : pos (2 * (b * s) + 100 * r) -ℤ pos (16384 * s) ≡ neg_ℤ (pos (suc (suc (e + e)) * s)) +ℤ pos (100 * r) = omega (arith, ints, same, all) in
    less ∙ sym (ap (λ z. z +ℤ pos (100 * r)) product))

-- twice the bend above or below its middle, by the sensitivity, and half a step: as a difference of two numbers
pub as_difference : (b s r : ℕ) → pos (2 * (b * s) + 100 * r) -ℤ pos (16384 * s) ≡ (pos 2 *ℤ (pos b -ℤ pos 8192)) *ℤ pos s +ℤ pos (100 * r)
as_difference b s r = elim (cases_lt b 8192) [
  | inl lt ↦ (let sum : b + suc (8191 - b) ≡ 8192 = omega (arith, lt) in
      let z : pos b -ℤ pos 8192 ≡ negsuc (8191 - b) = omega (arith, ints, lt) in
      from_below b (8191 - b) s r sum ∙ sym (ap (λ x. (pos 2 *ℤ x) *ℤ pos s +ℤ pos (100 * r)) z))
  | inr ge ↦ (let sum : (b - 8192) + 8192 ≡ b = omega (arith, ge) in
      let z : pos b -ℤ pos 8192 ≡ pos (b - 8192) = omega (arith, ints, ge) in
      ap (λ n. pos (2 * (n * s) + 100 * r) -ℤ pos (16384 * s)) (sym sum) ∙ (from_above (b - 8192) s r ∙ sym (ap (λ x. (pos 2 *ℤ x) *ℤ pos s +ℤ pos (100 * r)) z)))
]

-- ---- how many steps there are at most

quotient : (a d : ℕ) → 200 ≤ d → a ≤ 420300000 → a / d ≤ 2101999
quotient a d more less =
    let p : (a / d) * 200 ≤ (a / d) * d = mul-le-mul_left (a / d) more in
    let q : (a / d) * d ≤ a = div-mul-le_self a d in
    omega (arith, p, q)

pub few_steps : (y : ℤ) (d : ℕ) → 200 ≤ d → neg_ℤ (pos 420300000) ≤ℤ y → y ≤ℤ pos 420300000 → (neg_ℤ (pos 2102000) ≤ℤ int_div_euclid y (pos d)) × (int_div_euclid y (pos d) ≤ℤ pos 2102000)
few_steps (pos a) d more low high = let q = quotient a d more (omega (arith, ints)) in (omega (arith, ints, q), omega (arith, ints, q))
few_steps (negsuc a) d more low high = let q = quotient a d more (omega (arith, ints)) in (omega (arith, ints, q), omega (arith, ints, q))
