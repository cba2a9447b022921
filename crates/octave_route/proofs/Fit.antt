-- Keys that fit, and one that doesn't.
use Rattle.std.proofs.Common.{◌≡◌, ◌^◌, to_z, of_z, nat_lt, false, ◌<◌, ◌≤◌, ℕ, zero, suc, ◌+◌, ◌%◌, ℤ, pos, negsuc, ◌-ℤ◌, List, [], ◌∷◌, set, Option, true, arith, sym, ◌∙◌, ap, subst, inl, inr}
use Rattle.std.specs.Prelude.{◌≤ℤ◌}
use Rattle.std.specs.Int.{w128}
use Rattle.std.specs.Int.Signed.{lt_z}
use Rattle.std.specs.Int.RustNames.{unsigned_abs}
use Rattle.std.specs.List.{AllByRecursion}
use Rattle.std.proofs.lemmas.Bool.{cases_lt, ltb-false}
use Rattle.std.proofs.lemmas.Int.{ints}
use Rattle.retune_model.specs.Scale.{size_of}
use Rattle.retune_model.specs.Table.{Bounds}
use Rattle.octave_route.specs.declared.fitting.OctaveFault.{OctaveFault}
use Rattle.octave_route.specs.declared.fitting.OctaveFault.TheVariants.{Out, Unfit}
use Rattle.octave_route.specs.Messages.{IsOctaveValue}
use Rattle.octave_route.specs.Classes.{is_used, own_value, class_value, is_value, FitsClass, FitBelow, IsUnfit, key_of, Refuses}

pub fit_next : (table : ℕ → Option Bounds) (used key : ℕ) → FitBelow table used key → (is_used used key ≡ true → FitsClass table used key) → FitBelow table used (key + 1)
fit_next table used key before this k below wanted =
    elim (cases_lt k key) [
      | inl l ↦ before k l wanted
      | inr h ↦
          let same : key ≡ k = omega (arith, h, below) in
          let P : ℕ → Type 0 = λ n. is_used used n ≡ true → FitsClass table used n in subst P same this wanted
    ]

pub refusal : (table : ℕ → Option Bounds) (used key : ℕ) (fault : OctaveFault) → key ≤ 127 → FitBelow table used key → key_of fault ≡ key → is_used used key ≡ true → IsUnfit table used fault
    → Refuses table used fault
refusal table used key fault high before is wanted cause = record {
  high = omega (arith, high, is);
  wanted = ap (is_used used) is ∙ wanted;
  before = (let P : ℕ → Type 0 = λ n. FitBelow table used n in subst P (sym is) before);
  cause = cause;
}

pub all_set : (values : List ℕ) (i v : ℕ) → v ≤ 16383 → AllByRecursion IsOctaveValue values → AllByRecursion IsOctaveValue (set values i v)
all_set [] i v fits all = all
all_set (x ∷ xs) zero v fits all = (fits, all.1)
all_set (x ∷ xs) (suc i) v fits all = (all.0, all_set xs i v fits all.1)

near : (z : ℤ) → pos (unsigned_abs z) ≤ℤ pos 1 → size_of z ≤ 1
near (pos n) h = omega (arith, ints, h)
near (negsuc n) h = omega (arith, ints, h)

pub at_most_one : (a : ℤ) (n : ℕ) → a ≡ pos n → n < 2 ^ 127 → lt_z (pos 1) (to_z w128 (of_z w128 a)) ≡ false → pos n ≤ℤ pos 1
at_most_one a n is small isnt =
    let same : to_z w128 (of_z w128 a) ≡ pos n = omega (arith, ints, is, small) in
    let few : nat_lt 1 n ≡ false = sym (ap (lt_z (pos 1)) same) ∙ isnt in
    omega (arith, ints, ltb-false 1 n few)

pub fits : (table : ℕ → Option Bounds) (used key : ℕ) (own class : ℤ) → own ≡ own_value table key → class ≡ class_value table used (key % 12) → is_value own ≡ true
    → pos (unsigned_abs (own -ℤ class)) ≤ℤ pos 1 → FitsClass table used key
fits table used key own class owned classed value small = record {
  value = ap is_value (sym owned) ∙ value;
  near = (let P : ℤ → Type 0 = λ z. size_of z ≤ 1 in subst P (ap (λ z. z -ℤ class) owned ∙ ap (λ z. own_value table key -ℤ z) classed) (near (own -ℤ class) small));
}

-- where a key is refused, not all used keys fit
pub not_all_fit : (table : ℕ → Option Bounds) (used : ℕ) (fault : OctaveFault) → Refuses table used fault → FitBelow table used 128 → ⊥
not_all_fit table used (Out key) r all =
    let fit = all key (omega (arith, r.high)) r.wanted in
    let clash : true ≡ false = sym fit.value ∙ r.cause in cc
not_all_fit table used (Unfit key) r all =
    let fit = all key (omega (arith, r.high)) r.wanted in
    omega (arith, r.cause.1, fit.near)
