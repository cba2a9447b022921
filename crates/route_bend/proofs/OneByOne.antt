-- Channel by channel: what a loop over all sixteen has done so far.
use Rattle.std.proofs.Common.{◌≡◌, ◌≢◌, ◌<◌, ◌≤◌, ◌+◌, ◌∙◌, ℕ, suc, List, Bool, true, false, cond, ◌&&◌, nat_eq, nat_lt, set, get_or, length, refl, sym, ap, arith, inl, inr}
use Rattle.std.proofs.lemmas.Bool.{lt-ltb, le-ltb, cond-true, cond-false}
use Rattle.std.proofs.lemmas.Bool.Decides.{eqb_tells, leb_tells}
use Rattle.std.proofs.lemmas.List.{get_or-set_same, get_or-set_other}

still : (c i : ℕ) → c ≢ i → nat_lt c (i + 1) ≡ nat_lt c i
still c i apart = elim (leb_tells (suc c) i) [
  | inl t ↦ lt-ltb c (i + 1) (omega (arith, t.1)) ∙ sym t.0
  | inr t ↦ le-ltb c (i + 1) (omega (arith, t.1, apart)) ∙ sym t.0
]

pub behind_end : (c i : ℕ) → nat_lt c i ≡ false → i ≤ c
behind_end c i off = elim (leb_tells (suc c) i) [
  | inl t ↦ absurd (let both : true ≡ false = sym t.0 ∙ off in cc)
  | inr t ↦ omega (arith, t.1)
]

-- one channel more: what it becomes is what the whole makes of the old value
pub further : {A : Type 0} (here : Bool) (i c : ℕ) (old to now new at : A)
    → now ≡ cond (here && nat_lt c i) to old
    → new ≡ cond (here && nat_eq c i) at now
    → (c ≡ i → now ≡ old → at ≡ to)
    → new ≡ cond (here && nat_lt c (i + 1)) to old
further false i c old to now new at so step is = step ∙ so
further true i c old to now new at so step is = elim (eqb_tells c i) [
  | inl t ↦ (let before : now ≡ old = so ∙ cond-false (nat_lt c i) to old (le-ltb c i (omega (arith, t.1))) in
      step ∙ cond-true (nat_eq c i) at now t.0 ∙ is t.1 before
      ∙ sym (cond-true (nat_lt c (i + 1)) to old (lt-ltb c (i + 1) (omega (arith, t.1)))))
  | inr t ↦ step ∙ cond-false (nat_eq c i) at now t.0 ∙ so ∙ ap (λ b. cond b to old) (sym (still c i t.1))
]

-- no channel so far, and all of them
pub at_first : {A : Type 0} (here : Bool) (c : ℕ) (old to : A) → old ≡ cond (here && nat_lt c 0) to old
at_first false c old to = refl
at_first true c old to = sym (cond-false (nat_lt c 0) to old (le-ltb c 0 (omega arith)))

pub at_last : {A : Type 0} (here : Bool) (i c : ℕ) (old to : A) → (here ≡ true → c < i) → cond (here && nat_lt c i) to old ≡ cond here to old
at_last false i c old to below = refl
at_last true i c old to below = cond-true (nat_lt c i) to old (lt-ltb c i (below refl))

-- what becomes of one place in a table
pub at_one : {A : Type 0} (a b c d : ℕ) (old new at : A)
    → (a ≢ b → new ≡ old) → (a ≡ b → c ≢ d → new ≡ old) → (a ≡ b → c ≡ d → new ≡ at)
    → new ≡ cond (nat_eq a b && nat_eq c d) at old
at_one a b c d old new at other beside here = elim (eqb_tells a b) [
  | inl t ↦ elim (eqb_tells c d) [
    | inl u ↦ rw (t.0, u.0) (here t.1 u.1)
    | inr u ↦ rw (t.0, u.0) (beside t.1 u.1)
  ]
  | inr t ↦ rw t.0 (other t.1)
]

-- what becomes of one channel, where it is one of a part
pub at_one_of : {A : Type 0} (here : Bool) (c d : ℕ) (old new at : A)
    → (here ≡ false → new ≡ old) → (c ≢ d → new ≡ old) → (here ≡ true → c ≡ d → new ≡ at)
    → new ≡ cond (here && nat_eq c d) at old
at_one_of false c d old new at none beside is = none refl
at_one_of true c d old new at none beside is = elim (eqb_tells c d) [
  | inl t ↦ rw t.0 (is refl t.1)
  | inr t ↦ rw t.0 (beside t.1)
]

-- one place of a list is set
pub place_set : {A : Type 0} (xs : List A) (i : ℕ) (v d : A) (c : ℕ) → i < length xs → get_or (set xs i v) c d ≡ cond (nat_eq c i) v (get_or xs c d)
place_set xs i v d c low = elim (eqb_tells c i) [
  | inl t ↦ rw (t.0, t.1) (get_or-set_same xs i v d low)
  | inr t ↦ rw t.0 (get_or-set_other xs i c v d t.1)
]
