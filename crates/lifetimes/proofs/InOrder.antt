-- A list in which each element stands in a relation to all behind it, with one more or one fewer.
use Rattle.std.proofs.Common.{◌≡◌, ◌<◌, ◌≤◌, ◌∙◌, ℕ, zero, suc, List, [], ◌∷◌, Bool, true, false, ◌||◌, length, get_or, refl, sym, ap, arith, inl, inr}
use Rattle.std.specs.List.{AllByRecursion, list_any, insert, remove}
use Rattle.std.specs.List.Sorted.{IsPartitionedBy}
use Rattle.std.proofs.lemmas.List.{get_or_default}
use Rattle.std.proofs.lemmas.Bool.{cases_lt}

module _ {X : Type 0} (d : X) where
  abbrev Each : (X → Type 0) → List X → Type 0
  Each P xs = (k : ℕ) → k < length xs → P (get_or xs k d)

  abbrev Ordered : (X → X → Type 0) → List X → Type 0
  Ordered R xs = (i j : ℕ) → i < j → j < length xs → R (get_or xs i d) (get_or xs j d)

  pub each_inserted : (P : X → Type 0) (xs : List X) (i : ℕ) (y : X) → i ≤ length xs → P y → Each P xs → Each P (insert xs i y)
  each_inserted P xs zero y low h all zero within = h
  each_inserted P xs zero y low h all (suc k) within = all k (omega (arith, within))
  each_inserted P [] (suc i) y low h all k within = absurd (omega (arith, low))
  each_inserted P (x ∷ xs) (suc i) y low h all zero within = all zero (omega arith)
  each_inserted P (x ∷ xs) (suc i) y low h all (suc k) within =
      each_inserted P xs i y (omega (arith, low)) h (λ j long. all (suc j) (omega (arith, long))) k (omega (arith, within))

  pub each_left : (P : X → Type 0) (xs : List X) (i : ℕ) → i < length xs → Each P xs → Each P (remove xs i)
  each_left P [] i low all k within = absurd (omega (arith, low))
  each_left P (x ∷ xs) zero low all k within = all (suc k) (omega (arith, within))
  each_left P (x ∷ xs) (suc i) low all zero within = all zero (omega arith)
  each_left P (x ∷ xs) (suc i) low all (suc k) within =
      each_left P xs i (omega (arith, low)) (λ j long. all (suc j) (omega (arith, long))) k (omega (arith, within))

  tail_ordered : (R : X → X → Type 0) (x : X) (xs : List X) → Ordered R (x ∷ xs) → Ordered R xs
  tail_ordered R x xs ordered j k lt long = ordered (suc j) (suc k) (omega (arith, lt)) (omega (arith, long))

  with_head : (R : X → X → Type 0) (x : X) (xs : List X) → Each (R x) xs → Ordered R xs → Ordered R (x ∷ xs)
  with_head R x xs first ordered j zero lt long = absurd (omega (arith, lt))
  with_head R x xs first ordered zero (suc k) lt long = first k (omega (arith, long))
  with_head R x xs first ordered (suc j) (suc k) lt long = ordered j k (omega (arith, lt)) (omega (arith, long))

  pub ordered_inserted : (R : X → X → Type 0) (xs : List X) (i : ℕ) (y : X) → i ≤ length xs → Ordered R xs → ((k : ℕ) → k < i → R (get_or xs k d) y)
      → ((k : ℕ) → i ≤ k → k < length xs → R y (get_or xs k d)) → Ordered R (insert xs i y)
  ordered_inserted R xs zero y low ordered before behind = with_head R y xs (λ k long. behind k (omega arith) long) ordered
  ordered_inserted R [] (suc i) y low ordered before behind = absurd (omega (arith, low))
  ordered_inserted R (x ∷ xs) (suc i) y low ordered before behind = with_head R x (insert xs i y)
      (each_inserted (R x) xs i y (omega (arith, low)) (before zero (omega arith))
      (λ k long. ordered zero (suc k) (omega arith) (omega (arith, long))))
      (ordered_inserted R xs i y (omega (arith, low)) (tail_ordered R x xs ordered) (λ k lt. before (suc k) (omega (arith, lt)))
      (λ k le long. behind (suc k) (omega (arith, le)) (omega (arith, long))))

  pub ordered_left : (R : X → X → Type 0) (xs : List X) (i : ℕ) → i < length xs → Ordered R xs → Ordered R (remove xs i)
  ordered_left R [] i low ordered = absurd (omega (arith, low))
  ordered_left R (x ∷ xs) zero low ordered = tail_ordered R x xs ordered
  ordered_left R (x ∷ xs) (suc i) low ordered = with_head R x (remove xs i)
      (each_left (R x) xs i (omega (arith, low)) (λ k long. ordered zero (suc k) (omega arith) (omega (arith, long))))
      (ordered_left R xs i (omega (arith, low)) (tail_ordered R x xs ordered))

  -- a test that none fails behind which one passes parts the list
  pub parted : (p : X → Bool) (R : X → X → Type 0) (xs : List X) → ((a b : X) → R a b → p b ≡ true → p a ≡ true) → Ordered R xs → IsPartitionedBy p xs
  parted p R xs back ordered j k e le within h = elim (cases_lt j k) [
    | inl lt ↦ (let at_j = get_or_default xs j e d (omega (arith, lt, within)) in
        let at_k = get_or_default xs k e d within in
        ap p at_j ∙ back (get_or xs j d) (get_or xs k d) (ordered j k lt within) (sym (ap p at_k) ∙ h))
    | inr ge ↦ (let same : j ≡ k = omega (arith, le, ge) in ap (λ n. p (get_or xs n e)) same ∙ h)
  ]

  pub all_from_each : (P : X → Type 0) (xs : List X) → Each P xs → AllByRecursion P xs
  all_from_each P [] all = _
  all_from_each P (x ∷ xs) all = (all zero (omega arith), all_from_each P xs (λ k long. all (suc k) (omega (arith, long))))

  pub each_from_all : (P : X → Type 0) (xs : List X) → AllByRecursion P xs → Each P xs
  each_from_all P [] all k within = absurd (omega (arith, within))
  each_from_all P (x ∷ xs) all zero within = all.0
  each_from_all P (x ∷ xs) all (suc k) within = each_from_all P xs all.1 k (omega (arith, within))

  -- ---- whether some element passes a test

  swap : (a b c : Bool) → (a || (b || c)) ≡ (b || (a || c))
  swap true true c = refl
  swap true false c = refl
  swap false b c = refl

  pub any_inserted : (p : X → Bool) (xs : List X) (i : ℕ) (y : X) → list_any p (insert xs i y) ≡ (p y || list_any p xs)
  any_inserted p xs zero y = refl
  any_inserted p [] (suc i) y = refl
  any_inserted p (x ∷ xs) (suc i) y = ap (λ b. p x || b) (any_inserted p xs i y) ∙ swap (p x) (p y) (list_any p xs)

  pub any_left : (p : X → Bool) (xs : List X) (i : ℕ) → i < length xs → list_any p xs ≡ (p (get_or xs i d) || list_any p (remove xs i))
  any_left p [] i within = absurd (omega (arith, within))
  any_left p (x ∷ xs) zero within = refl
  any_left p (x ∷ xs) (suc i) within = ap (λ b. p x || b) (any_left p xs i (omega (arith, within)))
      ∙ swap (p x) (p (get_or xs i d)) (list_any p (remove xs i))
