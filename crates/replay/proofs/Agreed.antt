-- Where two states have the same parameters, none is to be set.
use Rattle.std.proofs.Common.{◌≡◌, ℕ, List, [], ◌∷◌, ◌++◌, Bool, true, false, ◌&&◌, nat_eq, refl, ap, ◌∙◌, subst, arith}
use Rattle.std.specs.Bool.{Decides}
use Rattle.std.proofs.lemmas.Bool.{eq-eqb, ne_eqb, eqb-true, false≢true}
use Rattle.midi_model.specs.Params.{Entry, rank, pair_eq, value_of, IsAbove, IsCanonical}
use Rattle.midi_model.specs.Bring.{to_default, to_other}

-- each entry has its value in the list
abbrev Listed : List Entry → List Entry → Type 0
Listed b [] = Unit {0}
Listed b (e ∷ es) = (value_of b e.parameter ≡ e.value) × Listed b es

listed_more : (e : Entry) (es fs : List Entry) → IsAbove (rank e.parameter) fs → Listed es fs → Listed (e ∷ es) fs
listed_more e es [] a h = tt
listed_more e es (f ∷ fs) a h =
    (rw (ne_eqb (rank e.parameter) (rank f.parameter) (λ y. omega (arith, a.0, y))) h.0, listed_more e es fs a.1 h.1)

listed_all : (es : List Entry) → IsCanonical es → Listed es es
listed_all [] h = tt
listed_all (e ∷ es) h =
    (rw (eq-eqb (rank e.parameter) (rank e.parameter) refl) refl, listed_more e es es h.1 (listed_all es h.2))

-- none of them is wanted at its default
none_default : (b es : List Entry) → IsCanonical es → Listed b es → to_default es b ≡ []
none_default b [] h l = refl
none_default b (e ∷ es) h l = rw l.0 (rw h.0 (none_default b es h.2 l.1))

pair_eq-self : (a : ℕ × ℕ) → pair_eq a a ≡ true
pair_eq-self a = rw (eq-eqb a.0 a.0 refl) (eq-eqb a.1 a.1 refl)

pub pair_eq-Decides : (a b : ℕ × ℕ) → Decides (pair_eq a b) (a ≡ b)
pair_eq-Decides a b = (λ e. one (parts (nat_eq a.0 b.0) (nat_eq a.1 b.1) e), λ e. subst (λ x. pair_eq a x ≡ true) e (pair_eq-self a))
  where
    parts : (x y : Bool) → (x && y) ≡ true → (x ≡ true) × (y ≡ true)
    parts true y e = (refl, e)
    parts false y e = (e, absurd (false≢true e))

    one : (nat_eq a.0 b.0 ≡ true) × (nat_eq a.1 b.1 ≡ true) → a ≡ b
    one t = ap (λ x. (x, a.1)) (eqb-true a.0 b.0 t.0) ∙ ap (λ y. (b.0, y)) (eqb-true a.1 b.1 t.1)

-- and none at another value
none_other : (b es : List Entry) → Listed b es → to_other b es ≡ []
none_other b [] l = refl
none_other b (e ∷ es) l = rw l.0 (rw (pair_eq-self e.value) (none_other b es l.1))

pub none_changed : (now wanted : List Entry) → IsCanonical now → now ≡ wanted → to_default now wanted ++ to_other now wanted ≡ []
none_changed now wanted h e =
    subst (λ w. to_default now w ++ to_other now w ≡ []) e
    (ap (λ l. l ++ to_other now now) (none_default now now h (listed_all now h)) ∙ none_other now now (listed_all now h))
