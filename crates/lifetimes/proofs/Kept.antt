-- The last ends that are kept, by the places of their pairs.
use Rattle.std.proofs.Common.{◌≡◌, ◌≢◌, ◌<◌, ◌∙◌, ℕ, zero, suc, ℤ, pos, negsuc, List, [], ◌∷◌, Bool, true, false, cond, Some, None, length, get_or, set, refl, sym, ap, subst, arith, inl, inr}
use Rattle.std.specs.Prelude.{◌<ℤ◌}
use Rattle.std.proofs.lemmas.Int.{ints}
use Rattle.std.proofs.lemmas.Bool.{eq-eqb, ne_eqb}
use Rattle.std.proofs.lemmas.Bool.Decides.{eqb_tells}
use Rattle.std.proofs.lemmas.List.{get_or-set_same, get_or-set_other, length-set}
use Rattle.retune_model.specs.Faults.{int_eq}
use Rattle.lifetimes.specs.declared.rests.Rest.{Rest}
use Rattle.lifetimes.specs.Resting.{no_rest, steps_at, AreRising, end_kept}

pub same_int : (a : ℤ) → int_eq a a ≡ true
same_int (pos n) = eq-eqb n n refl
same_int (negsuc n) = eq-eqb n n refl

pub other_int : (a b : ℤ) → a ≢ b → int_eq a b ≡ false
other_int (pos a) (pos b) ne = ne_eqb a b (λ e. ne (ap pos e))
other_int (negsuc a) (negsuc b) ne = ne_eqb a b (λ e. ne (ap negsuc e))
other_int (pos a) (negsuc b) ne = refl
other_int (negsuc a) (pos b) ne = refl

less_other : (a b q : ℤ) → a <ℤ b → b ≡ q → a ≢ q
less_other a b q h e g = grind (arith, ints)

pub tail_rises : (x : Rest) (xs : List Rest) → AreRising (x ∷ xs) → AreRising xs
tail_rises x xs rising i j lt within = rising (suc i) (suc j) (omega (arith, lt)) (omega (arith, within))

-- the pair at a place has the end that stands there
pub found : (xs : List Rest) (q : ℤ) (i : ℕ) → AreRising xs → i < length xs → steps_at xs i ≡ q → end_kept xs q ≡ (get_or xs i no_rest).end
found [] q i rising within at = absurd (omega (arith, within))
found (x ∷ xs) q zero rising within at = ap (λ b. cond b x.end (end_kept xs q)) (ap (λ z. int_eq z q) at ∙ same_int q)
found (x ∷ xs) q (suc i) rising within at =
    ap (λ b. cond b x.end (end_kept xs q)) (other_int x.steps q (less_other x.steps (steps_at xs i) q (rising zero (suc i) (omega arith) within) at))
    ∙ found xs q i (tail_rises x xs rising) (omega (arith, within)) at

-- a pair without a place has none
pub lost : (xs : List Rest) (q : ℤ) → ((k : ℕ) → k < length xs → steps_at xs k ≢ q) → end_kept xs q ≡ None
lost [] q none = refl
lost (x ∷ xs) q none =
    ap (λ b. cond b x.end (end_kept xs q)) (other_int x.steps q (none zero (omega arith)))
    ∙ lost xs q (λ k within. none (suc k) (omega (arith, within)))

-- ---- an end is set at a place

-- the steps stay
pub same_steps : (xs : List Rest) (i t k : ℕ) → i < length xs → steps_at (set xs i (record (get_or xs i no_rest) { end = Some t })) k ≡ steps_at xs k
same_steps xs i t k within = elim (eqb_tells k i) [
  | inl e ↦ (let here : get_or (set xs i (record (get_or xs i no_rest) { end = Some t })) i no_rest ≡ record (get_or xs i no_rest) { end = Some t } = get_or-set_same xs i (record (get_or xs i no_rest) { end = Some t }) no_rest within in
      ap (λ j. steps_at (set xs i (record (get_or xs i no_rest) { end = Some t })) j) e.1 ∙ (ap (λ x. x.steps) here ∙ ap (steps_at xs) (sym e.1)))
  | inr e ↦ ap (λ x. x.steps) (get_or-set_other xs i k (record (get_or xs i no_rest) { end = Some t }) no_rest e.1)
]

pub still_rises : (xs : List Rest) (i t : ℕ) → i < length xs → AreRising xs → AreRising (set xs i (record (get_or xs i no_rest) { end = Some t }))
still_rises xs i t within rising j k lt long =
    let here = same_steps xs i t j within in
    let there = same_steps xs i t k within in
    subst (λ a. a <ℤ steps_at (set xs i (record (get_or xs i no_rest) { end = Some t })) k) (sym here) (subst (λ b. steps_at xs j <ℤ b) (sym there) (rising j k lt (subst (λ n. k < n) (length-set xs i (record (get_or xs i no_rest) { end = Some t })) long)))

pub int_eq_tells : (a b : ℤ) → int_eq a b ≡ true → a ≡ b
int_eq_tells (pos a) (pos b) e = elim (eqb_tells a b) [
  | inl t ↦ ap pos t.1
  | inr t ↦ absurd (let f : true ≡ false = sym e ∙ t.0 in cc)
]
int_eq_tells (negsuc a) (negsuc b) e = elim (eqb_tells a b) [
  | inl t ↦ ap negsuc t.1
  | inr t ↦ absurd (let f : true ≡ false = sym e ∙ t.0 in cc)
]
int_eq_tells (pos a) (negsuc b) e = absurd cc
int_eq_tells (negsuc a) (pos b) e = absurd cc

pub not_both : (a b q : ℤ) → a <ℤ b → int_eq b q ≡ true → int_eq a q ≡ false
not_both a b q h e = other_int a q (less_other a b q h (int_eq_tells b q e))

pub set_end : (xs : List Rest) (i t : ℕ) (q : ℤ) → i < length xs → AreRising xs
    → end_kept (set xs i (record (get_or xs i no_rest) { end = Some t })) q ≡ cond (int_eq (steps_at xs i) q) (Some t) (end_kept xs q)
set_end [] i t q within rising = absurd (omega (arith, within))
set_end (x ∷ xs) zero t q within rising = pick (int_eq x.steps q)
  where
    pick : (b : Bool) → cond b (Some t) (end_kept xs q) ≡ cond b (Some t) (cond b x.end (end_kept xs q))
    pick true = refl
    pick false = refl
set_end (x ∷ xs) (suc i) t q within rising =
    ap (cond (int_eq x.steps q) x.end) (set_end xs i t q (omega (arith, within)) (tail_rises x xs rising))
    ∙ pick (int_eq x.steps q) (int_eq (steps_at xs i) q) (not_both x.steps (steps_at xs i) q (rising zero (suc i) (omega arith) within))
  where
    pick : (a b : Bool) → (b ≡ true → a ≡ false) → cond a x.end (cond b (Some t) (end_kept xs q)) ≡ cond b (Some t) (cond a x.end (end_kept xs q))
    pick true true h = absurd (let e : true ≡ false = h refl in cc)
    pick true false h = refl
    pick false b h = refl
