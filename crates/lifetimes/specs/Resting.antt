-- The pairs of one part that sound or rest, as the program lists them: each once, by their steps.
use Rattle.std.specs.Prelude.{true, false, ◌≡◌, ◌<◌, ◌≤◌, ◌<ℤ◌, ◌≤ℤ◌, ℕ, ℤ, pos, List, [], ◌∷◌, length, get_or, Bool, ◌&&◌, nat_eq, if◌then◌else◌, Option, Some, None}
use Rattle.retune_model.specs.Faults.{int_eq}
use Rattle.retune_model.specs.Rests.{is_within_tail}
use Rattle.lifetimes.specs.declared.rests.Rest.{Rest}

-- what stands beyond the end of a list
abbrev pub no_rest : Rest
no_rest = record { steps = pos 0; end = None }

abbrev pub steps_at : List Rest → ℕ → ℤ
steps_at xs i = (get_or xs i no_rest).steps

-- each has less steps than all behind it
abbrev pub AreRising : List Rest → Type 0
AreRising xs = (i j : ℕ) → i < j → j < length xs → steps_at xs i <ℤ steps_at xs j

-- the place where a pair with these steps stands or would stand
pub record IsPlaceOf (xs : List Rest) (steps : ℤ) (i : ℕ) : Type 0 where
  pub before : (k : ℕ) → k < i → steps_at xs k <ℤ steps
  pub behind : (k : ℕ) → i ≤ k → k < length xs → steps ≤ℤ steps_at xs k

-- the last end that is kept of the pair with these steps
abbrev pub end_kept : List Rest → ℤ → Option ℕ
end_kept [] q = None
end_kept (x ∷ xs) q = if int_eq x.steps q then x.end else end_kept xs q

-- a pair with these steps has a place
abbrev pub IsAdmitted : List Rest → ℤ → Type 0
IsAdmitted xs q = (i : ℕ) × (i < length xs) × (steps_at xs i ≡ q)

-- what is left of the end of a pair with steps q, where the pair with some steps is forgotten if its last end was at a tick
abbrev pub is_end_at : ℕ → Option ℕ → Bool
is_end_at t (Some e) = nat_eq e t
is_end_at t None = false

abbrev pub without_end : ℤ → ℕ → ℤ → Option ℕ → Option ℕ
without_end steps t q e = if int_eq steps q && is_end_at t e then None else e

-- the least steps, from some on, of a pair whose last end is less than a tail before a tick
pub record IsLeastResting (xs : List Rest) (from : ℤ) (tail tick : ℕ) (q : ℤ) : Type 0 where
  pub from_on : from ≤ℤ q
  pub rests : is_within_tail tail tick (end_kept xs q) ≡ true
  pub least : (p : ℤ) → from ≤ℤ p → p <ℤ q → is_within_tail tail tick (end_kept xs p) ≡ false

-- the least steps, from some on, of which it holds
pub record IsLeast (there : ℤ → Bool) (from q : ℤ) : Type 0 where
  pub from_on : from ≤ℤ q
  pub here : there q ≡ true
  pub least : (p : ℤ) → from ≤ℤ p → p <ℤ q → there p ≡ false
