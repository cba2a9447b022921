-- The steps of a target are within a bend's: no member's bend is cut at its ends.
use Rattle.std.proofs.Common.{Some, ◌≡◌, ◌≤◌, ◌<◌, ◌+◌, ◌*◌, ℕ, suc, true, subst, arith, nat_lt, pos, negsuc, ℤ, ◌+ℤ◌, ◌-ℤ◌, ◌*ℤ◌, ◌≤ℤ◌, neg_ℤ, inl, inr}
use Rattle.std.specs.Int.{int_div_euclid}
use Rattle.std.proofs.lemmas.Int.{ints}
use Rattle.std.proofs.lemmas.Bool.{cases_lt}
use Rattle.std.proofs.Math.Nat.{mul-le-mul_left}
use Rattle.std.proofs.Math.IntN.{*ℤ_comm}
use Rattle.retune_model.specs.Table.{Bounds, BendTarget, up_to, nearest_key, nearest_steps, bend_target}
use Rattle.retune_model.specs.Faults.{is_within_bend}
use Rattle.bend_laws.proofs.Steps.{IsQuotient, quotient, with_key, steps_neg}

small : (n : ℕ) → (8192 ≤ n → ⊥) → nat_lt n 8192 ≡ true
small n h = elim (cases_lt n 8192) [
  | inl l ↦ grind (arith, l)
  | inr l ↦ absurd (h l)
]

above : (lo y : ℤ) (r p : ℕ) → 0 < r → y ≤ℤ (lo +ℤ pos 1600000000000) → (lo +ℤ pos 1600000000000) ≤ℤ (y +ℤ pos 3200000000000) →
    pos p ≤ℤ ((lo -ℤ y) +ℤ pos (195312500 * r)) → (390625000 * r) * 8192 ≤ p → ⊥
above lo y r p l a b c d = omega (arith, ints, l, a, b, c, d)

below : (lo y : ℤ) (r p : ℕ) → 0 < r → y ≤ℤ (lo +ℤ pos 1600000000000) → (lo +ℤ pos 1600000000000) ≤ℤ (y +ℤ pos 3200000000000) →
    ((lo -ℤ y) +ℤ pos (195312500 * r)) ≤ℤ (neg_ℤ (pos (390625000 * r + p)) +ℤ pos (390625000 * r)) → (390625000 * r) * 8192 ≤ p → ⊥
below lo y r p l a b c d = omega (arith, ints, l, a, b, c, d)

near_key : (lo y : ℤ) (r : ℕ) (q : ℤ) → 0 < r → y ≤ℤ (lo +ℤ pos 1600000000000) → (lo +ℤ pos 1600000000000) ≤ℤ (y +ℤ pos 3200000000000) →
    (pos (390625000 * r) *ℤ q) ≤ℤ ((lo -ℤ y) +ℤ pos (195312500 * r)) →
    ((lo -ℤ y) +ℤ pos (195312500 * r)) ≤ℤ ((pos (390625000 * r) *ℤ q) +ℤ pos (390625000 * r)) → is_within_bend q ≡ true
near_key lo y r (pos n) l a b c d = small n (λ g. above lo y r ((390625000 * r) * n) l a b c (mul-le-mul_left (390625000 * r) g))
near_key lo y r (negsuc n) l a b c d =
    let more : (390625000 * r) * suc n ≡ 390625000 * r + (390625000 * r) * n = grind arith in
    let z : ℤ = (lo -ℤ y) +ℤ pos (195312500 * r) in
    let e : z ≤ℤ (neg_ℤ (pos (390625000 * r + (390625000 * r) * n)) +ℤ pos (390625000 * r)) =
    subst (λ p. z ≤ℤ (neg_ℤ (pos p) +ℤ pos (390625000 * r))) more (subst (λ x. z ≤ℤ (x +ℤ pos (390625000 * r))) (steps_neg (390625000 * r) n) d) in
    small n (λ g. below lo y r ((390625000 * r) * n) l a b e (mul-le-mul_left (390625000 * r) g))

pub target_fits : (range : ℕ) (b : Bounds) (t : BendTarget) → 0 < range → bend_target range b ≡ Some t → is_within_bend t.steps ≡ true
target_fits range b t positive h =
    let two = with_key (nearest_steps range b.lo) (up_to 127 (nearest_key b.lo)) t h in
    let y : ℤ = pos 3200000000000 *ℤ nearest_key b.lo in
    let key : IsQuotient 3200000000000 (b.lo +ℤ pos 1600000000000) (nearest_key b.lo) =
    quotient 3200000000000 (b.lo +ℤ pos 1600000000000) (omega arith) in
    let z : ℤ = (b.lo -ℤ nearest_key b.lo *ℤ pos 3200000000000) +ℤ pos (195312500 * range) in
    let q : IsQuotient (390625000 * range) z (int_div_euclid z (pos (390625000 * range))) =
    quotient (390625000 * range) z (omega (arith, positive)) in
    let s : ℤ = pos (390625000 * range) *ℤ nearest_steps range b.lo in
    let at : nearest_key b.lo *ℤ pos 3200000000000 ≡ y = *ℤ_comm (nearest_key b.lo) (pos 3200000000000) in
    subst (λ x. is_within_bend x ≡ true) two.1 (near_key b.lo y range (nearest_steps range b.lo) positive key.low key.high
    (subst (λ x. s ≤ℤ ((b.lo -ℤ x) +ℤ pos (195312500 * range))) at q.low)
    (subst (λ x. ((b.lo -ℤ x) +ℤ pos (195312500 * range)) ≤ℤ (s +ℤ pos (390625000 * range))) at q.high))
