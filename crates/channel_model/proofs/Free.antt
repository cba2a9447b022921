-- Since when a place is free.
use Rattle.std.proofs.Common.{◌≡◌, ◌≤◌, ℕ, zero, suc, List, [], Bool, true, false, cond, Option, Some, None, ap, ◌∙◌, refl, arith, inl, inr}
use Rattle.std.proofs.lemmas.Bool.{cases_lt}
use Rattle.retune_model.specs.Pairs.{Pair, is_same_pair}
use Rattle.retune_model.specs.Runs.{since}
use Rattle.channel_model.specs.Choice.{on_place, pair_on, is_taken, free_since}

pub free_then : (at : ℕ → List Pair) (row : ℕ → ℕ) (c k j : ℕ) → at 0 ≡ [] → free_since at row c k ≤ j → j ≤ k → pair_on at row c j ≡ None
free_then at row c zero j none l m = let e : j ≡ 0 = omega (arith, m) in ap (pair_on at row c) e ∙ ap (on_place (λ p. row (since is_same_pair at p 0)) c) none
free_then at row c (suc k) j none l m = pick (pair_on at row c (suc k)) refl l (free_then at row c k j none)
  where
    pick : (x : Option Pair) → pair_on at row c (suc k) ≡ x → cond (is_taken x) (suc (suc k)) (free_since at row c k) ≤ j → (free_since at row c k ≤ j → j ≤ k → pair_on at row c j ≡ None) → pair_on at row c j ≡ None
    pick (Some p) e h later = absurd (omega (arith, h, m))
    pick None e h later = elim (cases_lt k j) [
      | inl g ↦ let s : j ≡ suc k = omega (arith, g, m) in ap (pair_on at row c) s ∙ e
      | inr g ↦ later h g
    ]

pub taken_before : (at : ℕ → List Pair) (row : ℕ → ℕ) (c k p : ℕ) → free_since at row c k ≡ suc p → is_taken (pair_on at row c p) ≡ true
taken_before at row c zero p h = absurd (omega (arith, h))
taken_before at row c (suc k) p h = pick (is_taken (pair_on at row c (suc k))) refl h (taken_before at row c k p)
  where
    pick : (b : Bool) → is_taken (pair_on at row c (suc k)) ≡ b → cond b (suc (suc k)) (free_since at row c k) ≡ suc p → (free_since at row c k ≡ suc p → is_taken (pair_on at row c p) ≡ true) → is_taken (pair_on at row c p) ≡ true
    pick true e g later = let s : p ≡ suc k = omega (arith, g) in ap (λ j. is_taken (pair_on at row c j)) s ∙ e
    pick false e g later = later g
