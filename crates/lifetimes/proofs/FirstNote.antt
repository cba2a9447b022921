-- The first note with at least so many steps, in a list in turn.
use Rattle.std.proofs.Common.{◌≡◌, ◌≢◌, ◌<◌, ◌≤◌, ℕ, ℤ, List, true, false, length, get_or, sym, subst, arith, inl, inr}
use Rattle.std.specs.Prelude.{◌<ℤ◌, ◌≤ℤ◌, slice_get, IfSome, IfNone}
use Rattle.std.proofs.lemmas.Int.{ints}
use Rattle.std.proofs.lemmas.Bool.{cases_lt}
use Rattle.std.proofs.lemmas.List.Folds.{list_any_at}
use Rattle.std.proofs.lemmas.Option.{slice_get_cases, slice_get-get_or}
use Rattle.retune_model.specs.Faults.{int_eq}
use Rattle.lifetimes.specs.declared.notes.Sounding.{Sounding}
use Rattle.lifetimes.specs.Lists.{comes_before, no_note, AreInTurn, IsPlaceIn, has_steps}
use Rattle.lifetimes.specs.Resting.{IsLeast}
use Rattle.lifetimes.proofs.Kept.{same_int, other_int}
use Rattle.lifetimes.proofs.Listed.{none_is}

lacks : (xs : List Sounding) (q : ℤ) → ((k : ℕ) → k < length xs → (get_or xs k no_note).steps ≢ q) → has_steps xs q ≡ false
lacks xs q none = none_is (λ x. int_eq x.steps q) xs (λ k within. other_int (get_or xs k no_note).steps q (none k within))

-- what the order says of the steps; no entry with so many stands before this one
abbrev pub first_with : ℤ → Sounding
first_with s = record { steps = s; target = 0; key = 0 }

pub fewer : (x : Sounding) (s : ℤ) → comes_before x (first_with s) ≡ true → x.steps <ℤ s
fewer x s h = grind (arith, ints)

pub enough : (x : Sounding) (s : ℤ) → comes_before x (first_with s) ≡ false → s ≤ℤ x.steps
enough x s h = grind (arith, ints)

pub no_fewer : (x y : Sounding) → comes_before x y ≡ true → x.steps ≤ℤ y.steps
no_fewer x y h = grind (arith, ints)

pub under : (a s q : ℤ) → a <ℤ s → s ≤ℤ q → a ≢ q
under a s q h g e = grind (arith, ints)

over : (a b q : ℤ) → q <ℤ a → a ≤ℤ b → b ≢ q
over a b q h g e = grind (arith, ints)

least_at : (xs : List Sounding) (s : ℤ) (i : ℕ) → AreInTurn xs → IsPlaceIn xs (first_with s) i → i < length xs
    → IsLeast (has_steps xs) s (get_or xs i no_note).steps
least_at xs s i turns place within = record {
  from_on = enough (get_or xs i no_note) s (place.behind i (omega arith) within);
  here = list_any_at (λ x. int_eq x.steps (get_or xs i no_note).steps) xs i no_note within (same_int (get_or xs i no_note).steps);
  least = λ q more less. lacks xs q (λ k long. elim (cases_lt k i) [
    | inl before ↦ under (get_or xs k no_note).steps s q (fewer (get_or xs k no_note) s (place.before k before)) more
    | inr ge ↦ over (get_or xs i no_note).steps (get_or xs k no_note).steps q less (elim (cases_lt i k) [
      | inl behind ↦ no_fewer (get_or xs i no_note) (get_or xs k no_note) (turns i k behind long)
      | inr le ↦ (let same : i ≡ k = omega (arith, ge, le) in
          subst (λ j. (get_or xs i no_note).steps ≤ℤ (get_or xs j no_note).steps) same (grind (arith, ints)))
    ])
  ]);
}

none_from : (xs : List Sounding) (s : ℤ) (i : ℕ) → IsPlaceIn xs (first_with s) i → length xs ≤ i
    → (q : ℤ) → s ≤ℤ q → has_steps xs q ≡ false
none_from xs s i place beyond q more = lacks xs q (λ k long.
    under (get_or xs k no_note).steps s q (fewer (get_or xs k no_note) s (place.before k (omega (arith, long, beyond)))) more)

pub first_some : (xs : List Sounding) (s : ℤ) (i : ℕ) → AreInTurn xs → IsPlaceIn xs (first_with s) i
    → IfSome (slice_get xs i) (λ x. IsLeast (has_steps xs) s x.steps)
first_some xs s i turns place = elim (slice_get_cases xs i).1 [
  | inl c ↦ subst (λ o. IfSome o (λ x. IsLeast (has_steps xs) s x.steps)) (sym (slice_get-get_or xs i no_note c.1)) (least_at xs s i turns place c.1)
  | inr c ↦ subst (λ o. IfSome o (λ x. IsLeast (has_steps xs) s x.steps)) (sym c.1) _
]

pub first_none : (xs : List Sounding) (s : ℤ) (i : ℕ) → IsPlaceIn xs (first_with s) i
    → IfNone (slice_get xs i) ((q : ℤ) → s ≤ℤ q → has_steps xs q ≡ false)
first_none xs s i place = elim (slice_get_cases xs i).1 [
  | inl c ↦ subst (λ o. IfNone o ((q : ℤ) → s ≤ℤ q → has_steps xs q ≡ false)) (sym (slice_get-get_or xs i no_note c.1)) _
  | inr c ↦ subst (λ o. IfNone o ((q : ℤ) → s ≤ℤ q → has_steps xs q ≡ false)) (sym c.1) (none_from xs s i place c.0)
]
