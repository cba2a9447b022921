-- The parameters that are set are those that differ.
use Rattle.std.proofs.Common.{◌≡◌, ◌≢◌, inl, inr, ℕ, ◌+◌, ◌*◌, ◌≤◌, ◌<◌, List, [], ◌∷◌, ◌++◌, Bool, true, false, cond, not, nat_eq, refl, ap, sym, ◌∙◌, subst, arith}
use Rattle.std.specs.List.{filter}
use Rattle.std.specs.Prelude.{map}
use Rattle.std.proofs.lemmas.Bool.{cases_eq, eq-eqb, ne_eqb, false≢true}
use Rattle.midi_model.specs.Params.{Parameter, Entry, rank, pair_eq, default_value, value_of, IsAbove, IsCanonical}
use Rattle.midi_model.specs.ParameterLaws.{IsSmall}
use Rattle.midi_model.specs.Channel.{State}
use Rattle.midi_model.specs.WellFormed.{AreEntered, IsWellFormed}
use Rattle.midi_model.specs.Bring.{made_default, to_default, to_other}
use Rattle.state_laws.specs.Reached.{changed}
use Rattle.state_laws.specs.Counts.{entries_of}
use Rattle.state_laws.proofs.Values.{pair_eq-true, pair_eq-same, skip, found, value_by, Misses, Apart, value_or, found_or, value_or-missed, wants_default, wants_other, changes_set, changes_apart}
use Rattle.state_laws.proofs.Setting.{changes}
use Rattle.state_laws.proofs.Rooms.{Sticks, sticks_all}

-- each has another value in the second list
abbrev pub Differ : List Entry → List Entry → List Entry → Type 0
Differ now wanted [] = Unit {0}
Differ now wanted (e ∷ es) = (value_of now e.parameter ≢ value_of wanted e.parameter) × Differ now wanted es

differ_append : (now wanted a b : List Entry) → Differ now wanted a → Differ now wanted b → Differ now wanted (a ++ b)
differ_append now wanted [] b h k = k
differ_append now wanted (e ∷ a) b h k = (h.0, differ_append now wanted a b h.1 k)

differ_defaults : (now wanted es : List Entry) → Sticks now es
    → Differ now wanted (map made_default (filter (wants_default wanted) es))
differ_defaults now wanted [] h = tt
differ_defaults now wanted (e ∷ es) h = pick (wants_default wanted e) refl (differ_defaults now wanted es h.1)
  where
    pick : (b : Bool) → wants_default wanted e ≡ b → Differ now wanted (map made_default (filter (wants_default wanted) es))
        → Differ now wanted (map made_default (cond b (e ∷ filter (wants_default wanted) es) (filter (wants_default wanted) es)))
    pick false f r = r
    pick true f r = (λ x. h.0 (x ∙ pair_eq-true (value_of wanted e.parameter) (default_value e.parameter) f), r)

-- each entry has its value in the list
abbrev Listed : List Entry → List Entry → Type 0
Listed b [] = Unit {0}
Listed b (e ∷ es) = (value_of b e.parameter ≡ e.value) × Listed b es

listed_more : (e : Entry) (es fs : List Entry) → IsAbove (rank e.parameter) fs → Listed es fs → Listed (e ∷ es) fs
listed_more e es [] a h = tt
listed_more e es (f ∷ fs) a h = (skip e es f.parameter (λ y. omega (arith, a.0, y)) ∙ h.0, listed_more e es fs a.1 h.1)

pub listed_all : (es : List Entry) → IsCanonical es → Listed es es
listed_all [] h = tt
listed_all (e ∷ es) h = (found e es e.parameter refl, listed_more e es es h.1 (listed_all es h.2))

differ_others : (now wanted es : List Entry) → Listed wanted es → Differ now wanted (filter (wants_other now) es)
differ_others now wanted [] h = tt
differ_others now wanted (e ∷ es) h = pick (pair_eq (value_of now e.parameter) e.value) refl (differ_others now wanted es h.1)
  where
    pick : (b : Bool) → pair_eq (value_of now e.parameter) e.value ≡ b → Differ now wanted (filter (wants_other now) es)
        → Differ now wanted (cond (not b) (e ∷ filter (wants_other now) es) (filter (wants_other now) es))
    pick true f r = r
    pick false f r = (λ x. false≢true (sym f ∙ pair_eq-same (value_of now e.parameter) e.value (x ∙ h.0)), r)

pub changes_differ : (now wanted : List Entry) → IsCanonical now → IsCanonical wanted → Differ now wanted (changes now wanted)
changes_differ now wanted hn hw =
    differ_append now wanted (to_default now wanted) (to_other now wanted) (differ_defaults now wanted now (sticks_all now hn)) (differ_others now wanted wanted (listed_all wanted hw))

-- one that doesn't differ isn't among them
pub same_missed : (now wanted es : List Entry) (q : Parameter) → Differ now wanted es → value_of now q ≡ value_of wanted q
    → Misses (rank q) es
same_missed now wanted [] q h e = tt
same_missed now wanted (x ∷ es) q h e =
    (λ r. h.0 (value_by now x.parameter q r ∙ e ∙ value_by wanted q x.parameter (sym r)), same_missed now wanted es q h.1 e)

none_of : (q : Parameter) (es : List Entry) → Misses (rank q) es → entries_of q es ≡ 0
none_of q [] h = refl
none_of q (e ∷ es) h = let ih : entries_of q es ≡ 0 = none_of q es h.1 in rw (ne_eqb (rank e.parameter) (rank q) h.0) (omega (arith, ih))

missed_by : (q : Parameter) (es : List Entry) → entries_of q es ≡ 0 → Misses (rank q) es
missed_by q [] h = tt
missed_by q (e ∷ es) h =
    (λ x. first (nat_eq (rank e.parameter) (rank q)) (eq-eqb (rank e.parameter) (rank q) x) h, missed_by q es (rest (nat_eq (rank e.parameter) (rank q)) h))
  where
    first : (b : Bool) → b ≡ true → cond b 1 0 + entries_of q es ≡ 0 → ⊥
    first true f g = omega (arith, g)
    first false f g = false≢true f

    rest : (b : Bool) → cond b 1 0 + entries_of q es ≡ 0 → entries_of q es ≡ 0
    rest b g = omega (arith, g)

one_of : (q : Parameter) (es : List Entry) → Apart es → entries_of q es ≤ 1
one_of q [] h = omega arith
one_of q (e ∷ es) h = elim (cases_eq (rank e.parameter) (rank q)) [
  | inl x ↦ (let z : entries_of q es ≡ 0 = none_of q es (subst (λ (n : ℕ). Misses n es) x h.0) in rw (eq-eqb (rank e.parameter) (rank q) x) (omega (arith, z)))
  | inr x ↦ (let ih : entries_of q es ≤ 1 = one_of q es h.1 in rw (ne_eqb (rank e.parameter) (rank q) x) (omega (arith, ih)))
]

pub changes_those : (now wanted : State) (p : Parameter) → IsWellFormed now → IsWellFormed wanted
    → entries_of p (changed now wanted) ≡ cond (pair_eq (value_of now.own.params p) (value_of wanted.own.params p)) 0 1
changes_those now wanted p hn hw = pick (pair_eq (value_of now.own.params p) (value_of wanted.own.params p)) refl
  where
    pick : (b : Bool) → pair_eq (value_of now.own.params p) (value_of wanted.own.params p) ≡ b
        → entries_of p (changed now wanted) ≡ cond b 0 1
    pick true e =
        none_of p (changed now wanted) (same_missed now.own.params wanted.own.params (changed now wanted) p (changes_differ now.own.params wanted.own.params hn.canonical hw.canonical) (pair_eq-true (value_of now.own.params p) (value_of wanted.own.params p) e))
    pick false e =
        let some : entries_of p (changed now wanted) ≢ 0 = λ z. false≢true (sym e ∙ pair_eq-same (value_of now.own.params p) (value_of wanted.own.params p)
        (sym (value_or-missed (changed now wanted) (value_of now.own.params p) p (missed_by p (changed now wanted) z)) ∙ changes_set now.own.params wanted.own.params p hn.canonical hw.canonical)) in
        let most = one_of p (changed now wanted) (changes_apart now.own.params wanted.own.params hn.canonical hw.canonical) in
        omega (arith, some, most)

-- ---- nothing, or one

-- where no value differs, none is set
pub none_changed : (now wanted es : List Entry) → Differ now wanted es
    → ((q : Parameter) → value_of now q ≡ value_of wanted q) → es ≡ []
none_changed now wanted [] d h = refl
none_changed now wanted (e ∷ es) d h = absurd (d.0 (h e.parameter))

same_number : (b d : Bool) (h l i m : ℕ) → h < 128 → l < 128 → i < 128 → m < 128
    → cond b 0 16384 + 128 * h + l ≡ cond d 0 16384 + 128 * i + m
    → (let p : Parameter = record { registered = b; high = h; low = l } in let q : Parameter = record { registered = d; high = i; low = m } in p ≡ q)
same_number true true h l i m a c e f s = let x : h ≡ i = omega arith in let y : l ≡ m = omega arith in rw (x, y) refl
same_number false false h l i m a c e f s = let x : h ≡ i = omega arith in let y : l ≡ m = omega arith in rw (x, y) refl
same_number true false h l i m a c e f s = absurd (omega arith)
same_number false true h l i m a c e f s = absurd (omega arith)

pub same_rank : (p q : Parameter) → IsSmall p → IsSmall q → rank p ≡ rank q → p ≡ q
same_rank p q h k e = same_number p.registered q.registered p.high p.low q.high q.low h.high h.low k.high k.low e

-- where one alone differs, it alone is set
pub one_changed : (now wanted es : List Entry) (p : Parameter) → IsSmall p → AreEntered es → Apart es → Differ now wanted es
    → ((q : Parameter) → rank q ≢ rank p → value_of now q ≡ value_of wanted q)
    → value_or es (value_of now p) p ≡ value_of wanted p → value_of now p ≢ value_of wanted p
    → es ≡ record { parameter = p; value = value_of wanted p } ∷ []
one_changed now wanted [] p sp h a d o v x = absurd (x v)
one_changed now wanted (e ∷ es) p sp h a d o v x =
    let r : rank e.parameter ≡ rank p = same e d.0 in
    let q : e.parameter ≡ p = same_rank e.parameter p h.0.small sp r in
    let w : e.value ≡ value_of wanted p = sym (found_or e es (value_of now p) p r) ∙ v in
    let rest : es ≡ [] = none es a.0 d.1 r in
    ap (λ y. record e { parameter = y } ∷ es) q ∙ ap (λ y. record { parameter = p; value = y } ∷ es) w
    ∙ ap (λ l. record { parameter = p; value = value_of wanted p } ∷ l) rest
  where
    same : (f : Entry) → value_of now f.parameter ≢ value_of wanted f.parameter → rank f.parameter ≡ rank p
    same f n = elim (cases_eq (rank f.parameter) (rank p)) [
      | inl y ↦ y
      | inr y ↦ absurd (n (o f.parameter y))
    ]

    none : (fs : List Entry) → Misses (rank e.parameter) fs → Differ now wanted fs → rank e.parameter ≡ rank p → fs ≡ []
    none [] m n r = refl
    none (f ∷ fs) m n r = absurd (m.0 (same f n.0 ∙ sym r))
