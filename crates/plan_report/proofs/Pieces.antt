-- A text of pieces, one for each item of a list.
use Rattle.std.proofs.Common.{◌≡◌, ◌<◌, ◌+◌, ℕ, suc, List, [], ◌∷◌, ◌++◌, length, take, drop, get_or, true, cond, refl, ap, sym, subst, ◌∙◌, append_assoc, append-nil, add-one}
use Rattle.std.specs.Prelude.{flat_map}
use Rattle.std.proofs.Math.Seq.{take-suc, drop-cons}
use Rattle.std.proofs.lemmas.List.{take-append-drop}
use Rattle.std.proofs.lemmas.Grind.{flat_map-append}
use Rattle.plan_report.specs.Texts.{port_line, port_lines, are_named}
use Rattle.plan_report.specs.Told.{IsFront}
use Rattle.plan_report.proofs.Fronts.{in_first, in_second}

taken : {A : Type 0} (f : A → List ℕ) (xs : List A) (i : ℕ) (d x : A) → i < length xs → x ≡ get_or xs i d
    → flat_map f (take (i + 1) xs) ≡ flat_map f (take i xs) ++ f x
taken f xs i d x low here =
    rw (add-one, take-suc xs i d low) (
    flat_map-append f (take i xs) (get_or xs i d ∷ [])
    ∙ ap (λ t. flat_map f (take i xs) ++ t) (append-nil (f (get_or xs i d)) ∙ ap f (sym here)))

-- with the piece of the next item
pub one_more : {A : Type 0} (f : A → List ℕ) (xs : List A) (i : ℕ) (d x : A) (old now new : List ℕ) → i < length xs → x ≡ get_or xs i d
    → now ≡ old ++ flat_map f (take i xs) → new ≡ now ++ f x → new ≡ old ++ flat_map f (take (i + 1) xs)
one_more f xs i d x old now new low here is put =
    put ∙ ap (λ t. t ++ f x) is ∙ append_assoc old (flat_map f (take i xs)) (f x) ∙ ap (λ t. old ++ t) (sym (taken f xs i d x low here))

-- a front of the piece of the next item
pub next_front : {A : Type 0} (f : A → List ℕ) (xs : List A) (i : ℕ) (d x : A) (old now new : List ℕ) → i < length xs → x ≡ get_or xs i d
    → now ≡ old ++ flat_map f (take i xs) → IsFront now (f x) new → IsFront old (flat_map f xs) new
next_front f xs i d x old now new low here is front =
    let done = flat_map f (take i xs) in
    let rest = flat_map f (drop (suc i) xs) in
    let split : flat_map f xs ≡ done ++ (f x ++ rest) =
    ap (flat_map f) (sym (take-append-drop i xs)) ∙ flat_map-append f (take i xs) (drop i xs)
    ∙ ap (λ r. done ++ flat_map f r) (drop-cons xs i d low) ∙ ap (λ y. done ++ (f y ++ rest)) (sym here) in
    subst (λ t. IsFront old t new) (sym split) (in_second old done (f x ++ rest) now new is (in_first now (f x) rest new front))

-- the same of ports that are named
pub named_front : (lines : ℕ → List ℕ) (ports : List ℕ) (i : ℕ) (old now new : List ℕ) → are_named ports ≡ true → i < length ports
    → now ≡ old ++ flat_map (λ z. port_line z ++ lines z) (take i ports)
    → IsFront now (port_line (get_or ports i 0) ++ lines (get_or ports i 0)) new → IsFront old (port_lines lines ports) new
named_front lines ports i old now new named low is front =
    let each = λ (z : ℕ). port_line z ++ lines z in
    subst (λ b. IsFront old (cond b (flat_map each ports) (lines 0)) new) (sym named)
    (next_front each ports i 0 (get_or ports i 0) old now new low refl is front)
