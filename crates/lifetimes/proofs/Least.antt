-- The least pair that rests.
use Rattle.std.proofs.Common.{◌≡◌, ◌≢◌, ◌<◌, ◌≤◌, ◌∙◌, ◌⊎◌, ℕ, zero, suc, ℤ, List, [], ◌∷◌, Bool, true, false, length, get_or, refl, sym, ap, arith, inl, inr}
use Rattle.std.specs.Prelude.{◌<ℤ◌, ◌≤ℤ◌}
use Rattle.std.proofs.lemmas.Int.{ints}
use Rattle.std.proofs.lemmas.Bool.{cases_lt}
use Rattle.retune_model.specs.Faults.{int_eq}
use Rattle.retune_model.specs.Rests.{is_within_tail}
use Rattle.lifetimes.specs.declared.rests.Rest.{Rest}
use Rattle.lifetimes.specs.Resting.{no_rest, steps_at, AreRising, IsPlaceOf, IsAdmitted, IsLeastResting, end_kept}
use Rattle.lifetimes.proofs.Kept.{same_int, int_eq_tells, found, lost}

beside : (x : Rest) (xs : List Rest) (p : ℤ) → int_eq x.steps p ≡ false → ((k : ℕ) → k < length xs → steps_at xs k ≢ p) → (k : ℕ) → k < length (x ∷ xs) → steps_at (x ∷ xs) k ≢ p
beside x xs p ne none zero within e = absurd (let f : true ≡ false = sym (same_int p) ∙ (ap (λ z. int_eq z p) (sym e) ∙ ne) in cc)
beside x xs p ne none (suc k) within e = none k (omega (arith, within)) e

-- a pair has a place or none
pub where_is : (xs : List Rest) (p : ℤ) → IsAdmitted xs p ⊎ ((k : ℕ) → k < length xs → steps_at xs k ≢ p)
where_is [] p = inr (λ k within e. absurd (omega (arith, within)))
where_is (x ∷ xs) p = pick (int_eq x.steps p) refl (where_is xs p)
  where
    pick : (b : Bool) → int_eq x.steps p ≡ b → IsAdmitted xs p ⊎ ((k : ℕ) → k < length xs → steps_at xs k ≢ p)
        → IsAdmitted (x ∷ xs) p ⊎ ((k : ℕ) → k < length (x ∷ xs) → steps_at (x ∷ xs) k ≢ p)
    pick true e rest = inl (zero, omega arith, int_eq_tells x.steps p e)
    pick false e (inl a) = inl (suc a.0, (let h = a.1 in omega (arith, h)), a.2)
    pick false e (inr none) = inr (beside x xs p e none)

low : (a p q : ℤ) → a <ℤ q → q ≤ℤ p → a ≢ p
low a p q h g e = grind (arith, ints)

-- no pair from some steps on rests that stands before a place
pub silent : (xs : List Rest) (from p : ℤ) (first place tail tick : ℕ) → AreRising xs → IsPlaceOf xs from first
    → ((k : ℕ) → first ≤ k → k < place → is_within_tail tail tick (get_or xs k no_rest).end ≡ false)
    → from ≤ℤ p → ((k : ℕ) → k < length xs → steps_at xs k ≡ p → k < place) → is_within_tail tail tick (end_kept xs p) ≡ false
silent xs from p first place tail tick rising at before more under = elim (where_is xs p) [
  | inl a ↦ elim (cases_lt a.0 first) [
    | inl lt ↦ absurd (low (steps_at xs a.0) p from (at.before a.0 lt) more a.2)
    | inr ge ↦ ap (is_within_tail tail tick) (found xs p a.0 rising a.1 a.2) ∙ before a.0 ge (under a.0 a.1 a.2)
  ]
  | inr none ↦ ap (is_within_tail tail tick) (lost xs p none)
]

beyond : (a b p : ℤ) → a <ℤ b → b ≡ p → p <ℤ a → ⊥
beyond a b p h e g = grind (arith, ints)

itself : (a p : ℤ) → a ≡ p → p <ℤ a → ⊥
itself a p e g = grind (arith, ints)

pub least_there : (xs : List Rest) (from : ℤ) (first place tail tick : ℕ) → AreRising xs → IsPlaceOf xs from first
    → ((k : ℕ) → first ≤ k → k < place → is_within_tail tail tick (get_or xs k no_rest).end ≡ false)
    → first ≤ place → place < length xs → is_within_tail tail tick (get_or xs place no_rest).end ≡ true → IsLeastResting xs from tail tick (steps_at xs place)
least_there xs from first place tail tick rising at before le within here = record {
  from_on = at.behind place le within;
  rests = ap (is_within_tail tail tick) (found xs (steps_at xs place) place rising within refl) ∙ here;
  least = λ p more less. silent xs from p first place tail tick rising at before more (λ k long e. elim (cases_lt k place) [
    | inl lt ↦ lt
    | inr ge ↦ elim (cases_lt place k) [
      | inl over ↦ absurd (beyond (steps_at xs place) (steps_at xs k) p (rising place k over long) e less)
      | inr under ↦ (let same : k ≡ place = omega (arith, ge, under) in absurd (itself (steps_at xs place) p (ap (steps_at xs) (sym same) ∙ e) less))
    ]
  ]);
}
