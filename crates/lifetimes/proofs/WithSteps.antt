-- The notes with so many steps stand side by side.
use Rattle.std.proofs.Common.{◌≡◌, ◌≢◌, ◌<◌, ◌≤◌, ◌+◌, ◌∙◌, ℕ, zero, suc, ℤ, List, [], ◌∷◌, Bool, true, false, cond, length, get_or, take, drop, refl, sym, ap, subst, arith}
use Rattle.std.specs.Prelude.{◌≤ℤ◌, filter}
use Rattle.std.specs.List.Sorted.{IsPartitionedBy, IsPartitionPoint}
use Rattle.std.proofs.lemmas.Int.{ints}
use Rattle.std.proofs.lemmas.List.{get_or-drop, length-drop}
use Rattle.retune_model.specs.Faults.{int_eq}
use Rattle.lifetimes.specs.declared.notes.Sounding.{Sounding}
use Rattle.lifetimes.specs.Lists.{comes_before, no_note, AreInTurn, IsPlaceIn}
use Rattle.lifetimes.proofs.InOrder.{parted}
use Rattle.lifetimes.proofs.Kept.{same_int, other_int, int_eq_tells}
use Rattle.lifetimes.proofs.FirstNote.{first_with, fewer, enough, no_fewer, under}

skipped : (p : Sounding → Bool) (xs : List Sounding) (i : ℕ)
    → ((k : ℕ) → k < i → p (get_or xs k no_note) ≡ false) → filter p xs ≡ filter p (drop i xs)
skipped p xs zero none = refl
skipped p [] (suc i) none = refl
skipped p (x ∷ xs) (suc i) none = ap (λ b. cond b (x ∷ filter p xs) (filter p xs)) (none zero (omega arith))
    ∙ skipped p xs i (λ k lt. none (suc k) (omega (arith, lt)))

front : (p : Sounding → Bool) (xs : List Sounding) (i : ℕ) → ((k : ℕ) → k < i → k < length xs → p (get_or xs k no_note) ≡ true)
    → ((k : ℕ) → i ≤ k → k < length xs → p (get_or xs k no_note) ≡ false) → filter p xs ≡ take i xs
front p [] zero first later = refl
front p [] (suc i) first later = refl
front p (x ∷ xs) zero first later = ap (λ b. cond b (x ∷ filter p xs) (filter p xs)) (later zero (omega arith) (omega arith))
    ∙ front p xs zero (λ k lt long. absurd (omega (arith, lt))) (λ k le long. later (suc k) (omega arith) (omega (arith, long)))
front p (x ∷ xs) (suc i) first later = ap (λ b. cond b (x ∷ filter p xs) (filter p xs)) (first zero (omega arith) (omega arith))
    ∙ ap (λ ys. x ∷ ys) (front p xs i (λ k lt long. first (suc k) (omega (arith, lt)) (omega (arith, long)))
    (λ k le long. later (suc k) (omega (arith, le)) (omega (arith, long))))

abbrev IsSqueezed : ℤ → Sounding → Sounding → Type 0
IsSqueezed s a b = (s ≤ℤ a.steps) × (a.steps ≤ℤ b.steps)

squeezed : (s : ℤ) (a b : Sounding) → IsSqueezed s a b → int_eq b.steps s ≡ true → int_eq a.steps s ≡ true
squeezed s a b h e = let least = h.0 in let most = h.1 in let same = int_eq_tells b.steps s e in
    ap (λ z. int_eq z s) (between a.steps b.steps s least most same) ∙ same_int s
  where
    between : (x y z : ℤ) → z ≤ℤ x → x ≤ℤ y → y ≡ z → x ≡ z
    between x y z l m e = grind (arith, ints)

module _ (xs : List Sounding) (s : ℤ) (i : ℕ) (turns : AreInTurn xs) (place : IsPlaceIn xs (first_with s) i) where
  rising : (j k : ℕ) → j < k → k < length (drop i xs) → IsSqueezed s (get_or (drop i xs) j no_note) (get_or (drop i xs) k no_note)
  rising j k lt within =
      let size = length-drop i xs in
      subst (λ x. IsSqueezed s x (get_or (drop i xs) k no_note)) (sym (get_or-drop i xs j no_note))
      (subst (IsSqueezed s (get_or xs (i + j) no_note)) (sym (get_or-drop i xs k no_note)) (
        enough (get_or xs (i + j) no_note) s (place.behind (i + j) (omega arith) (omega (arith, size, within, lt))),
        no_fewer (get_or xs (i + j) no_note) (get_or xs (i + k) no_note) (turns (i + j) (i + k) (omega (arith, lt)) (omega (arith, size, within))),
      ))

  pub side_by_side : IsPartitionedBy (λ x. int_eq x.steps s) (drop i xs)
  side_by_side = parted no_note (λ x. int_eq x.steps s) (IsSqueezed s) (drop i xs) (squeezed s) rising

  pub cut_out : (j : ℕ)
      → IsPartitionPoint (λ x. int_eq x.steps s ≡ true) (λ x. int_eq x.steps s ≡ false) (drop i xs) j
      → take j (drop i xs) ≡ filter (λ x. int_eq x.steps s) xs
  cut_out j p = sym (skipped (λ x. int_eq x.steps s) xs i (λ k lt.
      other_int (get_or xs k no_note).steps s (apart (get_or xs k no_note) (place.before k lt)))
      ∙ front (λ x. int_eq x.steps s) (drop i xs) j (λ k lt long. p.0 k no_note (omega arith) lt) (λ k le long. p.1 k no_note le long))
    where
      apart : (x : Sounding) → comes_before x (first_with s) ≡ true → x.steps ≢ s
      apart x h = under x.steps s s (fewer x s h) (grind (arith, ints))
