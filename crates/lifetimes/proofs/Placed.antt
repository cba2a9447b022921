-- Which pairs have a place among those that may rest.
use Rattle.std.proofs.Common.{◌≡◌, ◌<◌, ◌∙◌, ℕ, zero, suc, ℤ, List, [], ◌∷◌, Bool, true, false, ◌||◌, length, refl, sym, ap, arith}
use Rattle.std.specs.List.{remove}
use Rattle.std.proofs.lemmas.Bool.{and_parts, and_from, eq-eqb, true≢false}
use Rattle.retune_model.specs.Faults.{int_eq}
use Rattle.lifetimes.specs.declared.rests.Rest.{Rest}
use Rattle.lifetimes.specs.declared.notes.Sounding.{Sounding}
use Rattle.lifetimes.specs.declared.notes.Struck.{Struck}
use Rattle.lifetimes.specs.Lists.{ListsSounding, has_steps, is_listed, is_same, entry_at}
use Rattle.lifetimes.specs.Resting.{IsAdmitted, steps_at}
use Rattle.lifetimes.specs.OnePart.{is_placed, are_placed}
use Rattle.lifetimes.proofs.Kept.{same_int, int_eq_tells}

or_true : (b : Bool) → (b || true) ≡ true
or_true true = refl
or_true false = refl

pub placed_of : (xs : List Rest) (q : ℤ) → IsAdmitted xs q → is_placed xs q ≡ true
placed_of [] q (i, within, at) = absurd (omega (arith, within))
placed_of (x ∷ xs) q (zero, within, at) = ap (λ b. b || is_placed xs q) (ap (λ z. int_eq z q) at ∙ same_int q)
placed_of (x ∷ xs) q (suc i, within, at) =
    ap (λ b. int_eq x.steps q || b) (placed_of xs q (i, omega (arith, within), at)) ∙ or_true (int_eq x.steps q)

pub admitted_of : (xs : List Rest) (q : ℤ) → is_placed xs q ≡ true → IsAdmitted xs q
admitted_of [] q e = absurd cc
admitted_of (x ∷ xs) q e = pick (int_eq x.steps q) refl e (admitted_of xs q)
  where
    pick : (b : Bool) → int_eq x.steps q ≡ b → (b || is_placed xs q) ≡ true → (is_placed xs q ≡ true → IsAdmitted xs q) → IsAdmitted (x ∷ xs) q
    pick true is e behind = (0, omega arith, int_eq_tells x.steps q is)
    pick false is e behind = (let r = behind e in (suc r.0, (let low = r.1 in omega (arith, low)), r.2))

-- each pair that is listed has a place
pub each_placed : (rs : List Rest) (xs : List Sounding) → are_placed rs xs ≡ true → (q : ℤ) → has_steps xs q ≡ true → is_placed rs q ≡ true
each_placed rs [] k q h = absurd cc
each_placed rs (x ∷ xs) k q h =
    let p = and_parts (is_placed rs x.steps) (are_placed rs xs) k in
    pick (int_eq x.steps q) refl h p.0 (each_placed rs xs p.1 q)
  where
    pick : (b : Bool) → int_eq x.steps q ≡ b → (b || has_steps xs q) ≡ true → is_placed rs x.steps ≡ true
        → (has_steps xs q ≡ true → is_placed rs q ≡ true) → is_placed rs q ≡ true
    pick true is h own behind = ap (is_placed rs) (sym (int_eq_tells x.steps q is)) ∙ own
    pick false is h own behind = behind h

pub all_placed_by : (rs : List Rest) (xs : List Sounding) → ((q : ℤ) → has_steps xs q ≡ true → is_placed rs q ≡ true) → are_placed rs xs ≡ true
all_placed_by rs [] h = refl
all_placed_by rs (x ∷ xs) h = and_from (is_placed rs x.steps) (are_placed rs xs)
    (h x.steps (ap (λ b. b || has_steps xs x.steps) (same_int x.steps)))
    (all_placed_by rs xs (λ q t. h q (ap (λ b. int_eq x.steps q || b) t ∙ or_true (int_eq x.steps q))))

-- it stays so where no pair is listed anew, and none that is listed loses its place
pub stay_placed : (rs ss : List Rest) (xs ys : List Sounding) → ((q : ℤ) → has_steps ys q ≡ true → has_steps xs q ≡ true)
    → ((q : ℤ) → has_steps xs q ≡ true → IsAdmitted rs q → IsAdmitted ss q) → are_placed rs xs ≡ true → are_placed ss ys ≡ true
stay_placed rs ss xs ys fewer more k =
    all_placed_by ss ys (λ q h. placed_of ss q (more q (fewer q h) (admitted_of rs q (each_placed rs xs k q (fewer q h)))))

-- and where one is listed that has a place
pub one_more_placed : (rs : List Rest) (xs ys : List Sounding) (s : ℤ) → ((q : ℤ) → has_steps ys q ≡ true → (int_eq s q || has_steps xs q) ≡ true)
    → is_placed rs s ≡ true → are_placed rs xs ≡ true → are_placed rs ys ≡ true
one_more_placed rs xs ys s more own k = all_placed_by rs ys (λ q h. pick q (int_eq s q) refl (more q h))
  where
    pick : (q : ℤ) (b : Bool) → int_eq s q ≡ b → (b || has_steps xs q) ≡ true → is_placed rs q ≡ true
    pick q true is h = ap (is_placed rs) (sym (int_eq_tells s q is)) ∙ own
    pick q false is h = each_placed rs xs k q h

-- a pair that is forgotten takes no other's place
pub others_placed : (xs : List Rest) (i : ℕ) (q : ℤ) → i < length xs → int_eq (steps_at xs i) q ≡ false → is_placed (remove xs i) q ≡ is_placed xs q
others_placed [] i q within other = absurd (omega (arith, within))
others_placed (x ∷ xs) zero q within other = sym (ap (λ b. b || is_placed xs q) other)
others_placed (x ∷ xs) (suc i) q within other = ap (λ b. int_eq x.steps q || b) (others_placed xs i q (omega (arith, within)) other)

pub others_admitted : (xs ys : List Rest) (i : ℕ) (q : ℤ) → ys ≡ remove xs i → i < length xs → int_eq (steps_at xs i) q ≡ false
    → IsAdmitted xs q → IsAdmitted ys q
others_admitted xs ys i q is within other a =
    admitted_of ys q (ap (λ l. is_placed l q) is ∙ (others_placed xs i q within other ∙ placed_of xs q a))

-- where none sounds, none is listed
pub none_listed : (ss : List Struck) (xs : List Sounding) → ListsSounding ss xs (λ k. false) → xs ≡ []
none_listed ss [] l = refl
none_listed ss (x ∷ xs) l =
    let own = l.own.0 in
    let here : is_same x (entry_at ss x.key) ≡ true = ap (is_same x) own.1 ∙ same x in
    absurd (true≢false (sym (ap (λ b. b || is_listed xs (entry_at ss x.key)) here) ∙ l.listed x.key own.0))
  where
    same : (x : Sounding) → is_same x x ≡ true
    same x = and_from (int_eq x.steps x.steps) _ (same_int x.steps) (and_from _ _ (eq-eqb x.target x.target refl) (eq-eqb x.key x.key refl))
