-- Lists of pairs in the order of their steps.
use Rattle.std.proofs.Common.{◌≡◌, ◌≢◌, ◌<◌, ◌∙◌, ℕ, ℤ, List, true, false, length, get_or, sym, ap, subst, arith, inl, inr}
use Rattle.std.specs.Prelude.{◌<ℤ◌, ◌≤ℤ◌}
use Rattle.std.proofs.lemmas.Int.{ints}
use Rattle.std.specs.Int.Signed.{lt_z}
use Rattle.std.specs.List.Sorted.{IsPartitionedBy, IsPartitionPoint}
use Rattle.std.proofs.lemmas.List.{get_or_default}
use Rattle.std.proofs.lemmas.Bool.{cases_lt}
use Rattle.lifetimes.specs.declared.rests.Rest.{Rest}
use Rattle.lifetimes.specs.Resting.{no_rest, steps_at, AreRising, IsPlaceOf}

less : (a b s : ℤ) → a <ℤ b → lt_z b s ≡ true → lt_z a s ≡ true
less a b s h g = grind (arith, ints)

is_less : (a s : ℤ) → lt_z a s ≡ true → a <ℤ s
is_less a s h = grind (arith, ints)

is_not_less : (a s : ℤ) → lt_z a s ≡ false → s ≤ℤ a
is_not_less a s h = grind (arith, ints)

pub in_parts : (xs : List Rest) (s : ℤ) → AreRising xs → IsPartitionedBy (λ e. lt_z e.steps s) xs
in_parts xs s rising i j d below within h = elim (cases_lt i j) [
  | inl lt ↦ (let at_i : get_or xs i d ≡ get_or xs i no_rest = get_or_default xs i d no_rest (omega (arith, lt, within)) in
      let at_j : get_or xs j d ≡ get_or xs j no_rest = get_or_default xs j d no_rest within in
      ap (λ e. lt_z e.steps s) at_i ∙ less (steps_at xs i) (steps_at xs j) s (rising i j lt within) (sym (ap (λ e. lt_z e.steps s) at_j) ∙ h))
  | inr ge ↦ (let same : i ≡ j = omega (arith, below, ge) in ap (λ k. lt_z (get_or xs k d).steps s) same ∙ h)
]

pub place_of : (xs : List Rest) (s : ℤ) (i : ℕ) → IsPartitionPoint (λ e. lt_z e.steps s ≡ true) (λ e. lt_z e.steps s ≡ false) xs i → IsPlaceOf xs s i
place_of xs s i p = record {
  before = λ k lt. is_less (steps_at xs k) s (p.0 k no_rest (omega arith) lt);
  behind = λ k le within. is_not_less (steps_at xs k) s (p.1 k no_rest le within);
}

-- where the pair doesn't stand at its place, it stands nowhere
above_or_below : (a b s : ℤ) → s ≤ℤ a → a ≢ s → a <ℤ b → b ≢ s
above_or_below a b s h ne g e = grind (arith, ints)

less_is_other : (a s : ℤ) → a <ℤ s → a ≢ s
less_is_other a s h e = grind (arith, ints)

pub nowhere : (xs : List Rest) (s : ℤ) (i : ℕ) → AreRising xs → IsPlaceOf xs s i → (i < length xs → steps_at xs i ≢ s) → (k : ℕ) → k < length xs → steps_at xs k ≢ s
nowhere xs s i rising p here k within = elim (cases_lt k i) [
  | inl lt ↦ less_is_other (steps_at xs k) s (p.before k lt)
  | inr ge ↦ elim (cases_lt i k) [
    | inl lt ↦ above_or_below (steps_at xs i) (steps_at xs k) s (p.behind i (omega arith) (omega (arith, lt, within))) (here (omega (arith, lt, within))) (rising i k lt within)
    | inr le ↦ (let same : i ≡ k = omega (arith, ge, le) in λ e. here (subst (λ j. j < length xs) (sym same) within) (ap (steps_at xs) same ∙ e))
  ]
]
