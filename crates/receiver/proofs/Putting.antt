-- What a list in the order of ranks is after a parameter was put into it, by the place at which it stands.
use Rattle.std.proofs.Common.{◌≡◌, ℕ, zero, suc, ◌+◌, ◌<◌, ◌≤◌, List, [], ◌∷◌, ◌++◌, Bool, true, false, cond, map, length, take, drop, get_or, slice_index, refl, ap, sym, ◌∙◌, arith, inl, inr, subst}
use Rattle.std.proofs.lemmas.Bool.{cases_lt, eq-eqb, ne_eqb, lt-ltb, le-ltb}
use Rattle.std.proofs.lemmas.List.{map-append, take-append-drop, length-map}
use Rattle.std.proofs.lemmas.List.Edits.{length-insert}
use Rattle.std.specs.Prelude.{insert, remove}
use Rattle.midi_model.specs.Params.{Parameter, Entry, rank, pair_eq, default_value, value_of, with_front, put, IsCanonical}
use Rattle.receiver.specs.declared.param.Param.{Param}
use Rattle.receiver.specs.Params.{parameter_of, entry_of, entries_of, rank_at}
use Rattle.receiver.proofs.Laws.{absent, skip, found}

abbrev pub Before : List Param → ℕ → ℕ → Type 0
Before os at r = (k : ℕ) → k < at → slice_index (map rank_at os) k < r

before_rest : (o : Param) (os : List Param) (at r : ℕ) → Before (o ∷ os) (suc at) r → Before os at r
before_rest o os at r h k below = h (suc k) (omega (arith, below))

pub put_under : (p : Parameter) (v : ℕ × ℕ) (e : Entry) (es : List Entry) → rank e.parameter < rank p → put p v (e ∷ es) ≡ e ∷ put p v es
put_under p v e es h = rw (lt-ltb (rank e.parameter) (rank p) h) refl

pub put_on : (p : Parameter) (v : ℕ × ℕ) (e : Entry) (es : List Entry) → rank e.parameter ≡ rank p → put p v (e ∷ es) ≡ with_front p v es
put_on p v e es h = rw (le-ltb (rank e.parameter) (rank p) (omega (arith, h)), eq-eqb (rank e.parameter) (rank p) h) refl

pub put_over : (p : Parameter) (v : ℕ × ℕ) (e : Entry) (es : List Entry) → rank p < rank e.parameter → put p v (e ∷ es) ≡ with_front p v (e ∷ es)
put_over p v e es h = rw (le-ltb (rank e.parameter) (rank p) (omega (arith, h)), ne_eqb (rank e.parameter) (rank p) (λ x. omega (arith, h, x))) refl

pub put_found : (os : List Param) (at : ℕ) (p : Parameter) (v : ℕ × ℕ) → Before os at (rank p) → at < length os → slice_index (map rank_at os) at ≡ rank p
    → put p v (entries_of os) ≡ entries_of (take at os) ++ with_front p v (entries_of (drop (suc at) os))
put_found [] at p v b h e = absurd (omega (arith, h))
put_found (o ∷ os) zero p v b h e = put_on p v (entry_of o) (entries_of os) e
put_found (o ∷ os) (suc at) p v b h e = put_under p v (entry_of o) (entries_of os) (b 0 (omega arith)) ∙ ap (λ x. entry_of o ∷ x) (put_found os at p v (before_rest o os at (rank p) b) (omega (arith, h)) e)

pub put_absent : (os : List Param) (at : ℕ) (p : Parameter) (v : ℕ × ℕ) → Before os at (rank p) → at ≤ length os → (at < length os → rank p < slice_index (map rank_at os) at)
    → put p v (entries_of os) ≡ entries_of (take at os) ++ with_front p v (entries_of (drop at os))
put_absent [] zero p v b h e = refl
put_absent [] (suc at) p v b h e = absurd (omega (arith, h))
put_absent (o ∷ os) zero p v b h e = put_over p v (entry_of o) (entries_of os) (e (omega arith))
put_absent (o ∷ os) (suc at) p v b h e = put_under p v (entry_of o) (entries_of os) (b 0 (omega arith)) ∙ ap (λ x. entry_of o ∷ x) (put_absent os at p v (before_rest o os at (rank p) b) (omega (arith, h)) (λ k. e (omega (arith, k))))

insert_remove : (os : List Param) (at : ℕ) (x : Param) → at < length os → insert (remove os at) at x ≡ take at os ++ x ∷ drop (suc at) os
insert_remove [] at x h = absurd (omega (arith, h))
insert_remove (o ∷ os) zero x h = refl
insert_remove (o ∷ os) (suc at) x h = ap (λ r. o ∷ r) (insert_remove os at x (omega (arith, h)))

-- what the list is after the old value is taken out and the new one, where it isn't the default, put in
pub found_default : (os : List Param) (at : ℕ) (x : Param) → Before os at (rank_at x) → at < length os → slice_index (map rank_at os) at ≡ rank_at x
    → pair_eq x.value (default_value (parameter_of x)) ≡ true → entries_of (remove os at) ≡ put (parameter_of x) x.value (entries_of os)
found_default os at x b h e d =
    map-append entry_of (take at os) (drop (suc at) os)
    ∙ sym (put_found os at (parameter_of x) x.value b h e ∙ ap (λ t. entries_of (take at os) ++ cond t (entries_of (drop (suc at) os)) (entry_of x ∷ entries_of (drop (suc at) os))) d)

pub found_other : (os : List Param) (at : ℕ) (x : Param) → Before os at (rank_at x) → at < length os → slice_index (map rank_at os) at ≡ rank_at x
    → pair_eq x.value (default_value (parameter_of x)) ≡ false → entries_of (insert (remove os at) at x) ≡ put (parameter_of x) x.value (entries_of os)
found_other os at x b h e d =
    ap entries_of (insert_remove os at x h)
    ∙ map-append entry_of (take at os) (x ∷ drop (suc at) os)
    ∙ sym (put_found os at (parameter_of x) x.value b h e ∙ ap (λ t. entries_of (take at os) ++ cond t (entries_of (drop (suc at) os)) (entry_of x ∷ entries_of (drop (suc at) os))) d)

pub absent_default : (os : List Param) (at : ℕ) (x : Param) → Before os at (rank_at x) → at ≤ length os → (at < length os → rank_at x < slice_index (map rank_at os) at)
    → pair_eq x.value (default_value (parameter_of x)) ≡ true → entries_of os ≡ put (parameter_of x) x.value (entries_of os)
absent_default os at x b h e d =
    ap entries_of (sym (take-append-drop at os))
    ∙ map-append entry_of (take at os) (drop at os)
    ∙ sym (put_absent os at (parameter_of x) x.value b h e ∙ ap (λ t. entries_of (take at os) ++ cond t (entries_of (drop at os)) (entry_of x ∷ entries_of (drop at os))) d)

pub absent_other : (os : List Param) (at : ℕ) (x : Param) → Before os at (rank_at x) → at ≤ length os → (at < length os → rank_at x < slice_index (map rank_at os) at)
    → pair_eq x.value (default_value (parameter_of x)) ≡ false → entries_of (insert os at x) ≡ put (parameter_of x) x.value (entries_of os)
absent_other os at x b h e d =
    map-append entry_of (take at os) (x ∷ drop at os)
    ∙ sym (put_absent os at (parameter_of x) x.value b h e ∙ ap (λ t. entries_of (take at os) ++ cond t (entries_of (drop at os)) (entry_of x ∷ entries_of (drop at os))) d)

-- the value of a parameter, by its place
pub value_found : (os : List Param) (at : ℕ) (p : Parameter) (d : Param) → Before os at (rank p) → at < length os → slice_index (map rank_at os) at ≡ rank p
    → (get_or os at d).value ≡ value_of (entries_of os) p
value_found [] at p d b h e = absurd (omega (arith, h))
value_found (o ∷ os) zero p d b h e = sym (found (entry_of o) (entries_of os) p e)
value_found (o ∷ os) (suc at) p d b h e = value_found os at p d (before_rest o os at (rank p) b) (omega (arith, h)) e ∙ sym (skip (entry_of o) (entries_of os) p (let u : rank_at o < rank p = b 0 (omega arith) in λ x. omega (arith, u, x)))

pub value_absent : (os : List Param) (at : ℕ) (p : Parameter) → IsCanonical (entries_of os) → Before os at (rank p) → at ≤ length os → (at < length os → rank p < slice_index (map rank_at os) at)
    → default_value p ≡ value_of (entries_of os) p
value_absent [] at p c b h e = refl
value_absent (o ∷ os) zero p c b h e =
    let u : rank p < rank_at o = e (omega arith) in
    sym (skip (entry_of o) (entries_of os) p (λ x. omega (arith, u, x)) ∙ absent (entries_of os) p (rank_at o) c.1 (omega (arith, u)))
value_absent (o ∷ os) (suc at) p c b h e =
    let u : rank_at o < rank p = b 0 (omega arith) in
    value_absent os at p c.2 (before_rest o os at (rank p) b) (omega (arith, h)) (λ k. e (omega (arith, k)))
    ∙ sym (skip (entry_of o) (entries_of os) p (λ x. omega (arith, u, x)))

abbrev pub no_param : Param
no_param = record { registered = false; high = 0; low = 0; value = (0, 0) }

pub ranks_at : (os : List Param) (at : ℕ) → at < length os → slice_index (map rank_at os) at ≡ rank_at (get_or os at no_param)
ranks_at [] at h = absurd (omega (arith, h))
ranks_at (o ∷ os) zero h = refl
ranks_at (o ∷ os) (suc at) h = ranks_at os at (omega (arith, h))

pub before_more : (os : List Param) (at r : ℕ) → Before os at r → slice_index (map rank_at os) at < r → Before os (at + 1) r
before_more os at r b h k below = elim (cases_lt k at) [
  | inl t ↦ b k t
  | inr t ↦ let e : k ≡ at = omega (arith, t, below) in rw e h
]

-- how long the list is then
pub length_found : (os : List Param) (at : ℕ) (p : Parameter) (v : ℕ × ℕ) → Before os at (rank p) → at < length os → slice_index (map rank_at os) at ≡ rank p
    → length (put p v (entries_of os)) ≤ length os
length_found [] at p v b h e = absurd (omega (arith, h))
length_found (o ∷ os) zero p v b h e = pick (pair_eq v (default_value p)) refl
  where
    pick : (t : Bool) → pair_eq v (default_value p) ≡ t → length (put p v (entry_of o ∷ entries_of os)) ≤ suc (length os)
    pick true d = let n : length (entries_of os) ≡ length os = length-map os entry_of in
        let m : length (put p v (entry_of o ∷ entries_of os)) ≡ length (entries_of os) = ap length (put_on p v (entry_of o) (entries_of os) e) ∙ ap (λ t. length (cond t (entries_of os) (record { parameter = p; value = v } ∷ entries_of os))) d in
        omega (arith, n, m)
    pick false d = let n : length (entries_of os) ≡ length os = length-map os entry_of in
        let m : length (put p v (entry_of o ∷ entries_of os)) ≡ suc (length (entries_of os)) = ap length (put_on p v (entry_of o) (entries_of os) e) ∙ ap (λ t. length (cond t (entries_of os) (record { parameter = p; value = v } ∷ entries_of os))) d in
        omega (arith, n, m)
length_found (o ∷ os) (suc at) p v b h e =
    let m : length (put p v (entry_of o ∷ entries_of os)) ≡ suc (length (put p v (entries_of os))) = ap length (put_under p v (entry_of o) (entries_of os) (b 0 (omega arith))) in
    let n : length (put p v (entries_of os)) ≤ length os = length_found os at p v (before_rest o os at (rank p) b) (omega (arith, h)) e in
    omega (arith, m, n)

pub length_default : (os : List Param) (at : ℕ) (x : Param) → Before os at (rank_at x) → at ≤ length os → (at < length os → rank_at x < slice_index (map rank_at os) at)
    → pair_eq x.value (default_value (parameter_of x)) ≡ true → length (put (parameter_of x) x.value (entries_of os)) ≡ length os
length_default os at x b h e d = ap length (sym (absent_default os at x b h e d)) ∙ length-map os entry_of

pub length_other : (os : List Param) (at : ℕ) (x : Param) → Before os at (rank_at x) → at ≤ length os → (at < length os → rank_at x < slice_index (map rank_at os) at)
    → pair_eq x.value (default_value (parameter_of x)) ≡ false → length (put (parameter_of x) x.value (entries_of os)) ≡ length os + 1
length_other os at x b h e d = ap length (sym (absent_other os at x b h e d)) ∙ length-map (insert os at x) entry_of ∙ length-insert os at x h

-- what is known of a place that was found, and of one that belongs to a parameter that isn't there
abbrev pub Found : List Param → ℕ → ℕ → Type 0
Found os at r = (at < length os) × (slice_index (map rank_at os) at ≡ r) × Before os at r

abbrev pub Absent : List Param → ℕ → ℕ → Type 0
Absent os at r = (at ≤ length os) × (at < length os → r < slice_index (map rank_at os) at) × Before os at r

pub moved_found : (xs os : List Param) (r s at : ℕ) → xs ≡ os → r ≡ s → Found xs at r → Found os at s
moved_found xs os r s at e f h =
    let P : List Param → Type 0 = λ ys. Found ys at r in
    let Q : ℕ → Type 0 = λ n. Found os at n in
    subst Q f (subst P e h)

pub moved_absent : (xs os : List Param) (r s at : ℕ) → xs ≡ os → r ≡ s → Absent xs at r → Absent os at s
moved_absent xs os r s at e f h =
    let P : List Param → Type 0 = λ ys. Absent ys at r in
    let Q : ℕ → Type 0 = λ n. Absent os at n in
    subst Q f (subst P e h)
