-- A target is within half a step of the lower end that it is taken from.
use Rattle.std.proofs.Common.{◌≡◌, ◌≤◌, ◌+◌, ◌*◌, ◌^◌, ℕ, Bool, true, false, cond, Option, Some, None, arith, pos, negsuc, ℤ, ◌+ℤ◌, ◌-ℤ◌, ◌*ℤ◌, ◌≤ℤ◌, neg_ℤ, nat_le, refl, ap, ◌∙◌, subst}
use Rattle.std.specs.Prelude.{option_map}
use Rattle.std.specs.Int.{int_div_euclid}
use Rattle.std.proofs.lemmas.Bool.{leb-true}
use Rattle.std.proofs.lemmas.Int.{ints}
use Rattle.retune_model.specs.Table.{Bounds, BendTarget, up_to, with_steps, nearest_tuning, nearest_key, nearest_steps, tuning_target, bend_target}
use Rattle.key_report.specs.declared.target.Target.{Target}
use Rattle.key_report.specs.declared.target.Target.TheVariants.{Value}
use Rattle.key_report.specs.Targets.{IsDevice, FitsThreeBytes, bent_to, half_step_of, target_of, told_grains}
use Rattle.key_report.proofs.Quotient.{IsQuotient, quotient}

-- What a target of a lower end tells is within half a step of it, and both are numbers of a key.
pub record IsNear (range : Option ℕ) (lo : ℤ) (t : Target) : Type 0 where
  pub low : told_grains range t ≤ℤ (lo +ℤ pos (half_step_of range))
  pub high : lo ≤ℤ (told_grains range t +ℤ pos (half_step_of range))
  pub above : neg_ℤ (pos (2 ^ 50)) ≤ℤ lo
  pub below : lo ≤ℤ pos (2 ^ 50)
  pub fits : FitsThreeBytes t

up_to_is : (most : ℕ) (z : ℤ) (v : ℕ) → up_to most z ≡ Some v → (z ≡ pos v) × (v ≤ most)
up_to_is most (pos n) v e = pick (nat_le n most) refl e
  where
    pick : (b : Bool) → nat_le n most ≡ b → cond b (Some n) None ≡ Some v → (pos n ≡ pos v) × (v ≤ most)
    pick true low h = let same : n ≡ v = cc in (ap pos same, subst (λ k. k ≤ most) same (leb-true n most low))
    pick false low h = absurd cc
up_to_is most (negsuc n) v e = absurd cc

-- by tuning messages
of_value : (lo : ℤ) (v : ℕ) → up_to 2097150 (nearest_tuning lo) ≡ Some v → IsNear None lo (Value v)
of_value lo v e =
    let is = up_to_is 2097150 (nearest_tuning lo) v e in
    let q = quotient 195312500 (lo +ℤ pos 97656250) (omega arith) in
    let low : pos (195312500 * v) ≤ℤ (lo +ℤ pos 97656250) = subst (λ y. (pos 195312500 *ℤ y) ≤ℤ (lo +ℤ pos 97656250)) is.0 q.low in
    let high : (lo +ℤ pos 97656250) ≤ℤ (pos (195312500 * v) +ℤ pos 195312500) =
    subst (λ y. (lo +ℤ pos 97656250) ≤ℤ ((pos 195312500 *ℤ y) +ℤ pos 195312500)) is.0 q.high in
    let few : v ≤ 2097150 = is.1 in
    record {
      low = low;
      high = omega (arith, ints, high);
      above = omega (arith, ints, high, low);
      below = omega (arith, ints, high, few);
      fits = omega (arith, few);
    }

pick_value : (b : Bounds) (t : Target) (o : Option ℕ) → tuning_target b ≡ o → option_map Value o ≡ Some t → IsNear None b.lo t
pick_value b t None is e = absurd cc
pick_value b t (Some v) is e = let same : Value v ≡ t = cc in subst (IsNear None b.lo) same (of_value b.lo v is)

-- by bends
with_key : (q : ℤ) (x : Option ℕ) (t : BendTarget) → with_steps q x ≡ Some t → (x ≡ Some t.key) × (q ≡ t.steps)
with_key q None t h = absurd cc
with_key q (Some k) t h = (cc, cc)

around : (lo S : ℤ) (k r : ℕ) → S ≤ℤ ((lo -ℤ pos (3200000000000 * k)) +ℤ pos (195312500 * r))
    → ((lo -ℤ pos (3200000000000 * k)) +ℤ pos (195312500 * r)) ≤ℤ (S +ℤ pos (390625000 * r))
    → ((pos (3200000000000 * k) +ℤ S) ≤ℤ (lo +ℤ pos (195312500 * r))) × (lo ≤ℤ ((pos (3200000000000 * k) +ℤ S) +ℤ pos (195312500 * r)))
around lo S k r h g = (omega (arith, ints, h), omega (arith, ints, g))

of_bend : (range : ℕ) (b : Bounds) (t : BendTarget) → 1 ≤ range → bend_target range b ≡ Some t → IsNear (Some range) b.lo (bent_to t)
of_bend range b t some h =
    let two = with_key (nearest_steps range b.lo) (up_to 127 (nearest_key b.lo)) t h in
    let key = up_to_is 127 (nearest_key b.lo) t.key two.0 in
    let n = quotient 3200000000000 (b.lo +ℤ pos 1600000000000) (omega arith) in
    let from : pos (3200000000000 * t.key) ≤ℤ (b.lo +ℤ pos 1600000000000) =
    subst (λ y. (pos 3200000000000 *ℤ y) ≤ℤ (b.lo +ℤ pos 1600000000000)) key.0 n.low in
    let to : (b.lo +ℤ pos 1600000000000) ≤ℤ (pos (3200000000000 * t.key) +ℤ pos 3200000000000) =
    subst (λ y. (b.lo +ℤ pos 1600000000000) ≤ℤ ((pos 3200000000000 *ℤ y) +ℤ pos 3200000000000)) key.0 n.high in
    let few : t.key ≤ 127 = key.1 in
    let z : ℤ = (b.lo -ℤ nearest_key b.lo *ℤ pos 3200000000000) +ℤ pos (195312500 * range) in
    let q : IsQuotient (390625000 * range) z (int_div_euclid z (pos (390625000 * range))) = quotient (390625000 * range) z (omega (arith, some)) in
    let at : nearest_key b.lo *ℤ pos 3200000000000 ≡ pos (3200000000000 * t.key) = ap (λ k. k *ℤ pos 3200000000000) key.0
    ∙ ap pos (let e : t.key * 3200000000000 ≡ 3200000000000 * t.key = omega arith in e) in
    let S : ℤ = pos (390625000 * range) *ℤ t.steps in
    let low : S ≤ℤ ((b.lo -ℤ pos (3200000000000 * t.key)) +ℤ pos (195312500 * range)) =
    subst (λ y. S ≤ℤ ((b.lo -ℤ y) +ℤ pos (195312500 * range))) at (subst (λ y. (pos (390625000 * range) *ℤ y) ≤ℤ z) two.1 q.low) in
    let high : ((b.lo -ℤ pos (3200000000000 * t.key)) +ℤ pos (195312500 * range)) ≤ℤ (S +ℤ pos (390625000 * range)) =
    subst (λ y. ((b.lo -ℤ y) +ℤ pos (195312500 * range)) ≤ℤ (S +ℤ pos (390625000 * range))) at
    (subst (λ y. z ≤ℤ ((pos (390625000 * range) *ℤ y) +ℤ pos (390625000 * range))) two.1 q.high) in
    let r = around b.lo S t.key range low high in
    record {
      low = r.0;
      high = r.1;
      above = omega (arith, ints, from);
      below = omega (arith, ints, to, few);
      fits = tt;
    }

pick_bend : (range : ℕ) (b : Bounds) (t : Target) (o : Option BendTarget) → 1 ≤ range → bend_target range b ≡ o → option_map bent_to o ≡ Some t
    → IsNear (Some range) b.lo t
pick_bend range b t None some is e = absurd cc
pick_bend range b t (Some x) some is e = let same : bent_to x ≡ t = cc in subst (IsNear (Some range) b.lo) same (of_bend range b x some is)

pub target_is_near : (range : Option ℕ) (b : Bounds) (t : Target) → IsDevice range → target_of range b ≡ Some t → IsNear range b.lo t
target_is_near None b t device e = pick_value b t (tuning_target b) refl e
target_is_near (Some range) b t device e = pick_bend range b t (bend_target range b) device.0 refl e

-- half a step is short
pub half_is_short : (range : Option ℕ) → IsDevice range → half_step_of range ≤ 2 ^ 40
half_is_short None device = omega arith
half_is_short (Some range) device = let few = device.1 in omega (arith, few)
