-- Whole steps of a bend: quotients by a step, sums of steps, and a target that is within half a step.
use Rattle.std.proofs.Common.{◌≡◌, ◌≤◌, ◌<◌, ◌+◌, ◌*◌, ◌/◌, ◌%◌, ℕ, suc, Bool, true, false, cond, Option, Some, None, refl, ap, sym, ◌∙◌, subst, arith, pos, negsuc, ℤ, ◌+ℤ◌, ◌-ℤ◌, ◌*ℤ◌, ◌≤ℤ◌, neg_ℤ, nat_le}
use Rattle.std.specs.Int.{int_div_euclid}
use Rattle.std.proofs.lemmas.Int.{ints}
use Rattle.std.proofs.lemmas.Bool.{ltb-true, leb-false}
use Rattle.std.proofs.Math.Nat.{mod-add-div, mod-lt}
use Rattle.std.proofs.Math.IntN.{suc_ℤ-*ℤ, pred_ℤ-*ℤ, suc_ℤ-+ℤ, pred_ℤ-+ℤ, +ℤ_one, -ℤ_one, +ℤ_idl, zero-*ℤ, ℤ_ind, *ℤ_comm}
use Rattle.retune_model.specs.Table.{Bounds, BendTarget, up_to, with_steps, nearest_key, nearest_steps, bend_target}
use Rattle.retune_model.specs.Faults.{is_within_bend}
use Rattle.channel_model.specs.Choice.{bend_value}

steps_pos : (s k : ℕ) → pos s *ℤ pos k ≡ pos (s * k)
steps_pos s k = refl

pub steps_neg : (s k : ℕ) → pos s *ℤ negsuc k ≡ neg_ℤ (pos (s * suc k))
steps_neg s k = refl

pub record IsQuotient (s : ℕ) (z q : ℤ) : Type 0 where
  pub low : (pos s *ℤ q) ≤ℤ z
  pub high : z ≤ℤ ((pos s *ℤ q) +ℤ pos s)

pub quotient : (s : ℕ) (z : ℤ) → 0 < s → IsQuotient s z (int_div_euclid z (pos s))
quotient s (pos a) l =
    let sum : a % s + s * (a / s) ≡ a = mod-add-div a s in
    let small : a % s < s = mod-lt a l in
    record {
      low = rw (steps_pos s (a / s)) (omega (arith, ints, sum, small));
      high = (let h : pos a ≤ℤ (pos (s * (a / s)) +ℤ pos s) =
          omega (arith, ints, sum, small) in h);
    }
quotient s (negsuc a) l =
    let sum : a % s + s * (a / s) ≡ a = mod-add-div a s in
    let small : a % s < s = mod-lt a l in
    let more : s * suc (a / s) ≡ s + s * (a / s) = grind arith in
    record {
      low = (let h : neg_ℤ (pos (s * suc (a / s))) ≤ℤ negsuc a = omega (arith, ints, sum, small, more) in h);
      high =
          (let h : negsuc a ≤ℤ (neg_ℤ (pos (s * suc (a / s))) +ℤ pos s) = omega (arith, ints, sum, small, more) in h);
    }

-- ---- sums

sum_up : (m r k : ℤ) → (m +ℤ r) *ℤ k ≡ (m *ℤ k) +ℤ (r *ℤ k) → ((m +ℤ pos 1) +ℤ r) *ℤ k ≡ ((m +ℤ pos 1) *ℤ k) +ℤ (r *ℤ k)
sum_up m r k h =
    let a : ((m +ℤ pos 1) +ℤ r) *ℤ k ≡ ((m +ℤ r) *ℤ k) +ℤ k = ap (λ z. (z +ℤ r) *ℤ k) (+ℤ_one m) ∙ ap (λ z. z *ℤ k) (suc_ℤ-+ℤ m r)
    ∙ suc_ℤ-*ℤ (m +ℤ r) k in
    let b : (m +ℤ pos 1) *ℤ k ≡ (m *ℤ k) +ℤ k = ap (λ z. z *ℤ k) (+ℤ_one m) ∙ suc_ℤ-*ℤ m k in
    a ∙ ap (λ z. z +ℤ k) h ∙ (regroup (m *ℤ k) (r *ℤ k) k ∙ ap (λ z. z +ℤ (r *ℤ k)) (sym b))
  where
    regroup : (x y z : ℤ) → (x +ℤ y) +ℤ z ≡ (x +ℤ z) +ℤ y
    regroup x y z = omega (arith, ints)

sum_down : (m r k : ℤ) → (m +ℤ r) *ℤ k ≡ (m *ℤ k) +ℤ (r *ℤ k) → ((m -ℤ pos 1) +ℤ r) *ℤ k ≡ ((m -ℤ pos 1) *ℤ k) +ℤ (r *ℤ k)
sum_down m r k h =
    let a : ((m -ℤ pos 1) +ℤ r) *ℤ k ≡ ((m +ℤ r) *ℤ k) -ℤ k = ap (λ z. (z +ℤ r) *ℤ k) (-ℤ_one m) ∙ ap (λ z. z *ℤ k) (pred_ℤ-+ℤ m r)
    ∙ pred_ℤ-*ℤ (m +ℤ r) k in
    let b : (m -ℤ pos 1) *ℤ k ≡ (m *ℤ k) -ℤ k = ap (λ z. z *ℤ k) (-ℤ_one m) ∙ pred_ℤ-*ℤ m k in
    a ∙ ap (λ z. z -ℤ k) h ∙ (regroup (m *ℤ k) (r *ℤ k) k ∙ ap (λ z. z +ℤ (r *ℤ k)) (sym b))
  where
    regroup : (x y z : ℤ) → (x +ℤ y) -ℤ z ≡ (x -ℤ z) +ℤ y
    regroup x y z = omega (arith, ints)

steps_sum : (q r k : ℤ) → (q +ℤ r) *ℤ k ≡ (q *ℤ k) +ℤ (r *ℤ k)
steps_sum q r k = ℤ_ind (λ m. (m +ℤ r) *ℤ k ≡ (m *ℤ k) +ℤ (r *ℤ k))
    (ap (λ z. z *ℤ k) (+ℤ_idl r) ∙ sym (ap (λ z. z +ℤ (r *ℤ k)) (zero-*ℤ k) ∙ +ℤ_idl (r *ℤ k)))
    (λ n h. sum_up (pos n) r k h) (λ n h. sum_down (neg_ℤ (pos n)) r k h) q

-- so many steps, and so many more
pub more_steps : (s : ℕ) (q r : ℤ) → pos s *ℤ (q +ℤ r) ≡ (pos s *ℤ q) +ℤ (r *ℤ pos s)
more_steps s q r = *ℤ_comm (pos s) (q +ℤ r) ∙ steps_sum q r (pos s) ∙ ap (λ z. z +ℤ (r *ℤ pos s)) (*ℤ_comm q (pos s))

-- ---- a bend that isn't cut at its ends

pub not_cut : (z : ℤ) → is_within_bend z ≡ true → pos (bend_value (pos 8192 +ℤ z)) ≡ pos 8192 +ℤ z
not_cut z h = of_sum (pos 8192 +ℤ z) (at_least z h) (at_most z h)
  where
    at_least : (z : ℤ) → is_within_bend z ≡ true → pos 0 ≤ℤ (pos 8192 +ℤ z)
    at_least (pos n) h = (let l = ltb-true n 8192 h in omega (arith, ints, l))
    at_least (negsuc n) h = (let l = ltb-true n 8192 h in omega (arith, ints, l))

    at_most : (z : ℤ) → is_within_bend z ≡ true → (pos 8192 +ℤ z) ≤ℤ pos 16383
    at_most (pos n) h = (let l = ltb-true n 8192 h in omega (arith, ints, l))
    at_most (negsuc n) h = (let l = ltb-true n 8192 h in omega (arith, ints, l))

    pick : (n : ℕ) (b : Bool) → nat_le n 16383 ≡ b → n ≤ 16383 → pos (cond b n 16383) ≡ pos n
    pick n true e l = refl
    pick n false e l = absurd (let g = leb-false n 16383 e in omega (arith, g, l))

    of_sum : (y : ℤ) → pos 0 ≤ℤ y → y ≤ℤ pos 16383 → pos (bend_value y) ≡ y
    of_sum (pos n) l g = pick n (nat_le n 16383) refl (omega (arith, ints, g))
    of_sum (negsuc n) l g = absurd (omega (arith, ints, l))

-- ---- the target

pub record IsNear (lo : ℤ) (range : ℕ) (t : BendTarget) : Type 0 where
  pub low : (pos (3200000000000 * t.key) +ℤ (pos (390625000 * range) *ℤ t.steps)) ≤ℤ (lo +ℤ pos (195312500 * range))
  pub high : lo ≤ℤ ((pos (3200000000000 * t.key) +ℤ (pos (390625000 * range) *ℤ t.steps)) +ℤ pos (195312500 * range))

pub up_to_is : (most : ℕ) (z : ℤ) (v : ℕ) → up_to most z ≡ Some v → z ≡ pos v
up_to_is most (pos n) v e = pick (nat_le n most) e
  where
    pick : (b : Bool) → cond b (Some n) None ≡ Some v → pos n ≡ pos v
    pick true h = cc
    pick false h = absurd cc
up_to_is most (negsuc n) v e = absurd cc

pub with_key : (q : ℤ) (x : Option ℕ) (t : BendTarget) → with_steps q x ≡ Some t → (x ≡ Some t.key) × (q ≡ t.steps)
with_key q None t h = absurd cc
with_key q (Some k) t h = (cc, cc)

pub near : (range : ℕ) (b : Bounds) (t : BendTarget) → 0 < range → bend_target range b ≡ Some t → IsNear b.lo range t
near range b t positive h =
    let two = with_key (nearest_steps range b.lo) (up_to 127 (nearest_key b.lo)) t h in
    let key : nearest_key b.lo ≡ pos t.key = up_to_is 127 (nearest_key b.lo) t.key two.0 in
    let z : ℤ = (b.lo -ℤ nearest_key b.lo *ℤ pos 3200000000000) +ℤ pos (195312500 * range) in
    let q : IsQuotient (390625000 * range) z (int_div_euclid z (pos (390625000 * range))) =
    quotient (390625000 * range) z (omega (arith, positive)) in
    let at : nearest_key b.lo *ℤ pos 3200000000000 ≡ pos (3200000000000 * t.key) = ap (λ k. k *ℤ pos 3200000000000) key
    ∙ ap pos (let e : t.key * 3200000000000 ≡ 3200000000000 * t.key = omega arith in e) in
    let S : ℤ = pos (390625000 * range) *ℤ t.steps in
    let low : S ≤ℤ ((b.lo -ℤ pos (3200000000000 * t.key)) +ℤ pos (195312500 * range)) =
    subst (λ y. S ≤ℤ ((b.lo -ℤ y) +ℤ pos (195312500 * range))) at (subst (λ y. (pos (390625000 * range) *ℤ y) ≤ℤ z) two.1 q.low) in
    let high : ((b.lo -ℤ pos (3200000000000 * t.key)) +ℤ pos (195312500 * range)) ≤ℤ (S +ℤ pos (390625000 * range)) =
    subst (λ y. ((b.lo -ℤ y) +ℤ pos (195312500 * range)) ≤ℤ (S +ℤ pos (390625000 * range))) at
    (subst (λ y. z ≤ℤ ((pos (390625000 * range) *ℤ y) +ℤ pos (390625000 * range))) two.1 q.high) in
    let r = bounds b.lo S t.key range low high in record { low = r.0; high = r.1 }
  where
    bounds : (lo S : ℤ) (k r : ℕ) → S ≤ℤ ((lo -ℤ pos (3200000000000 * k)) +ℤ pos (195312500 * r)) →
        ((lo -ℤ pos (3200000000000 * k)) +ℤ pos (195312500 * r)) ≤ℤ (S +ℤ pos (390625000 * r)) →
        ((pos (3200000000000 * k) +ℤ S) ≤ℤ (lo +ℤ pos (195312500 * r))) × (lo ≤ℤ ((pos (3200000000000 * k) +ℤ S) +ℤ pos (195312500 * r)))
    bounds lo S k r h g = (omega (arith, ints, h), omega (arith, ints, g))
