-- The values of parameters, by their numbers: which lists of entries set which parameters to what.
use Rattle.std.proofs.Common.{◌≡◌, ◌≢◌, ℕ, ◌≤◌, List, [], ◌∷◌, ◌++◌, Bool, true, false, cond, not, nat_eq, eqb, refl, ap, sym, ◌∙◌, ◌⊎◌, inl, inr, arith, subst}
use Rattle.std.specs.List.{filter}
use Rattle.std.specs.Prelude.{map}
use Rattle.std.proofs.lemmas.Bool.{eqb-true, eq-eqb, ne_eqb, cases_eq, cases_Bool, cond_both, and_parts, false≢true}
use Rattle.midi_model.specs.Params.{Parameter, Entry, rank, pair_eq, default_value, value_of, IsAbove, IsCanonical}
use Rattle.midi_model.specs.ParameterLaws.{AreSmall}
use Rattle.midi_model.specs.Bring.{made_default, to_default, to_other}
use Rattle.midi_model.specs.WellFormed.{AreEntered}
use Rattle.state_laws.proofs.Keeping.{value_bytes}

-- ---- pairs

pub pair_eq-true : (a b : ℕ × ℕ) → pair_eq a b ≡ true → a ≡ b
pair_eq-true a b e =
    let t = and_parts (eqb a.0 b.0) (eqb a.1 b.1) e in
    let one : a.0 ≡ b.0 = eqb-true a.0 b.0 t.0 in
    let two : a.1 ≡ b.1 = eqb-true a.1 b.1 t.1 in
    ap (λ x. (x, a.1)) one ∙ ap (λ y. (b.0, y)) two

pub pair_eq-same : (a b : ℕ × ℕ) → a ≡ b → pair_eq a b ≡ true
pair_eq-same a b e = ap (λ x. pair_eq x b) e ∙ rw (eq-eqb b.0 b.0 refl, eq-eqb b.1 b.1 refl) refl

-- ---- one list

pub skip : (e : Entry) (es : List Entry) (q : Parameter) → rank e.parameter ≢ rank q → value_of (e ∷ es) q ≡ value_of es q
skip e es q h = rw (ne_eqb (rank e.parameter) (rank q) h) refl

pub found : (e : Entry) (es : List Entry) (q : Parameter) → rank e.parameter ≡ rank q → value_of (e ∷ es) q ≡ e.value
found e es q h = rw (eq-eqb (rank e.parameter) (rank q) h) refl

pub absent : (es : List Entry) (p : Parameter) (n : ℕ) → IsAbove n es → rank p ≤ n → value_of es p ≡ default_value p
absent [] p n a h = refl
absent (e ∷ es) p n a h = skip e es p (λ x. omega (arith, a.0, h, x)) ∙ absent es p n a.1 h

-- defaults and values depend on the number alone
pub default_by : (p q : Parameter) → rank p ≡ rank q → default_value p ≡ default_value q
default_by p q e = ap (λ n. cond (nat_eq n 0) (2, 0) (cond (nat_eq n 5) (0, 64) (64, 0))) e

pub value_by : (es : List Entry) (p q : Parameter) → rank p ≡ rank q → value_of es p ≡ value_of es q
value_by [] p q e = default_by p q e
value_by (x ∷ es) p q e =
    ap (λ v. cond (nat_eq (rank x.parameter) (rank p)) x.value v) (value_by es p q e)
    ∙ ap (λ n. cond (nat_eq (rank x.parameter) n) x.value (value_of es q)) e

-- an entry isn't its default
pub not_default : (e : Entry) (es : List Entry) → IsCanonical (e ∷ es) → e.value ≢ default_value e.parameter
not_default e es h x = false≢true (sym h.0 ∙ pair_eq-same e.value (default_value e.parameter) x)

pub small : (es : List Entry) → AreEntered es → AreSmall es
small [] h = tt
small (e ∷ es) h = (h.0.small, small es h.1)

-- ---- which numbers a list has

-- the number stands nowhere
abbrev pub Misses : ℕ → List Entry → Type 0
Misses n [] = Unit {0}
Misses n (e ∷ es) = (rank e.parameter ≢ n) × Misses n es

-- each number stands once
abbrev pub Apart : List Entry → Type 0
Apart [] = Unit {0}
Apart (e ∷ es) = Misses (rank e.parameter) es × Apart es

pub misses_above : (n : ℕ) (es : List Entry) → IsAbove n es → Misses n es
misses_above n [] h = tt
misses_above n (e ∷ es) h = (λ x. omega (arith, h.0, x), misses_above n es h.1)

pub misses_append : (n : ℕ) (a b : List Entry) → Misses n a → Misses n b → Misses n (a ++ b)
misses_append n [] b h k = k
misses_append n (e ∷ es) b h k = (h.0, misses_append n es b h.1 k)

pub misses_filter : (n : ℕ) (p : Entry → Bool) (es : List Entry) → Misses n es → Misses n (filter p es)
misses_filter n p [] h = tt
misses_filter n p (e ∷ es) h =
    cond_both (p e) (e ∷ filter p es) (filter p es) (Misses n) (λ _. (h.0, misses_filter n p es h.1)) (λ _. misses_filter n p es h.1)

pub misses_default : (n : ℕ) (es : List Entry) → Misses n es → Misses n (map made_default es)
misses_default n [] h = tt
misses_default n (e ∷ es) h = (h.0, misses_default n es h.1)

pub apart_filter : (p : Entry → Bool) (es : List Entry) → IsCanonical es → Apart (filter p es)
apart_filter p [] h = tt
apart_filter p (e ∷ es) h =
    cond_both (p e) (e ∷ filter p es) (filter p es) Apart (λ _. (misses_filter (rank e.parameter) p es (misses_above (rank e.parameter) es h.1), apart_filter p es h.2)) (λ _. apart_filter p es h.2)

pub apart_default : (es : List Entry) → Apart es → Apart (map made_default es)
apart_default [] h = tt
apart_default (e ∷ es) h = (misses_default (rank e.parameter) es h.0, apart_default es h.1)

-- where the value is the default, the number isn't listed
pub misses_by_value : (es : List Entry) (q : Parameter) → IsCanonical es → value_of es q ≡ default_value q → Misses (rank q) es
misses_by_value [] q h v = tt
misses_by_value (e ∷ es) q h v =
    let other : rank e.parameter ≢ rank q = λ x. not_default e es h (sym (found e es q x) ∙ v ∙ default_by q e.parameter (sym x)) in
    (other, misses_by_value es q h.2 (sym (skip e es q other) ∙ v))

-- ---- a list of values to set

-- what the list sets a parameter to, where it does, else the other value
abbrev pub value_or : List Entry → ℕ × ℕ → Parameter → ℕ × ℕ
value_or [] d q = d
value_or (e ∷ es) d q = cond (nat_eq (rank e.parameter) (rank q)) e.value (value_or es d q)

pub skip_or : (e : Entry) (es : List Entry) (d : ℕ × ℕ) (q : Parameter) → rank e.parameter ≢ rank q
    → value_or (e ∷ es) d q ≡ value_or es d q
skip_or e es d q h = rw (ne_eqb (rank e.parameter) (rank q) h) refl

pub found_or : (e : Entry) (es : List Entry) (d : ℕ × ℕ) (q : Parameter) → rank e.parameter ≡ rank q
    → value_or (e ∷ es) d q ≡ e.value
found_or e es d q h = rw (eq-eqb (rank e.parameter) (rank q) h) refl

pub value_or-missed : (es : List Entry) (d : ℕ × ℕ) (q : Parameter) → Misses (rank q) es → value_or es d q ≡ d
value_or-missed [] d q h = refl
value_or-missed (e ∷ es) d q h = skip_or e es d q h.0 ∙ value_or-missed es d q h.1

pub value_or-append : (a b : List Entry) (d : ℕ × ℕ) (q : Parameter) → value_or (a ++ b) d q ≡ value_or a (value_or b d q) q
value_or-append [] b d q = refl
value_or-append (e ∷ es) b d q = ap (λ v. cond (nat_eq (rank e.parameter) (rank q)) e.value v) (value_or-append es b d q)

-- ---- what the parameters that differ are set to

abbrev pub wants_default : List Entry → Entry → Bool
wants_default wanted e = pair_eq (value_of wanted e.parameter) (default_value e.parameter)

abbrev pub wants_other : List Entry → Entry → Bool
wants_other now e = not (pair_eq (value_of now e.parameter) e.value)

-- those with another value than the default
pub others_set : (now es : List Entry) (q : Parameter) → IsCanonical es → (let r : ℕ × ℕ = value_or (filter (wants_other now) es) (value_of now q) q in
    (r ≡ value_of es q) ⊎ ((value_of es q ≡ default_value q) × (r ≡ value_of now q)))
others_set now [] q h = inr (refl, refl)
others_set now (e ∷ es) q h = elim (cases_eq (rank e.parameter) (rank q)) [
  | inl x ↦ inl (hit (pair_eq (value_of now e.parameter) e.value) refl x ∙ sym (found e es q x))
  | inr x ↦ elim (others_set now es q h.2) [
    | inl k ↦ inl (past (wants_other now e) x ∙ k ∙ sym (skip e es q x))
    | inr k ↦ inr (skip e es q x ∙ k.0, past (wants_other now e) x ∙ k.1)
  ]
]
  where
    past : (b : Bool) → rank e.parameter ≢ rank q
        → value_or (cond b (e ∷ filter (wants_other now) es) (filter (wants_other now) es)) (value_of now q) q ≡ value_or (filter (wants_other now) es) (value_of now q) q
    past true x = skip_or e (filter (wants_other now) es) (value_of now q) q x
    past false x = refl

    hit : (b : Bool) → pair_eq (value_of now e.parameter) e.value ≡ b → rank e.parameter ≡ rank q
        → value_or (cond (not b) (e ∷ filter (wants_other now) es) (filter (wants_other now) es)) (value_of now q) q ≡ e.value
    hit false k x = found_or e (filter (wants_other now) es) (value_of now q) q x
    hit true k x =
        let m : Misses (rank q) es = subst (λ (n : ℕ). Misses n es) x (misses_above (rank e.parameter) es h.1) in
        value_or-missed (filter (wants_other now) es) (value_of now q) q (misses_filter (rank q) (wants_other now) es m)
        ∙ value_by now q e.parameter (sym x) ∙ pair_eq-true (value_of now e.parameter) e.value k

-- those whose wanted value is the default: another value stays, or the default is wanted
pub defaults_leave : (wanted es : List Entry) (d : ℕ × ℕ) (q : Parameter) → (let r : ℕ × ℕ = value_or (map made_default (filter (wants_default wanted) es)) d q in
    (r ≡ d) ⊎ ((r ≡ default_value q) × (value_of wanted q ≡ default_value q)))
defaults_leave wanted [] d q = inl refl
defaults_leave wanted (e ∷ es) d q = pick (wants_default wanted e) (defaults_leave wanted es d q) refl
  where
    pick : (b : Bool) → (let r : ℕ × ℕ = value_or (map made_default (filter (wants_default wanted) es)) d q in (r ≡ d) ⊎ ((r ≡ default_value q) × (value_of wanted q ≡ default_value q))) → wants_default wanted e ≡ b → (let r : ℕ × ℕ = value_or (map made_default (cond b (e ∷ filter (wants_default wanted) es) (filter (wants_default wanted) es))) d q in
        (r ≡ d) ⊎ ((r ≡ default_value q) × (value_of wanted q ≡ default_value q)))
    pick false ih k = ih
    pick true ih k = elim (cases_eq (rank e.parameter) (rank q)) [
      | inl x ↦ inr (found_or (made_default e) (map made_default (filter (wants_default wanted) es)) d q x ∙ default_by e.parameter q x, value_by wanted q e.parameter (sym x) ∙ pair_eq-true (value_of wanted e.parameter) (default_value e.parameter) k ∙ default_by e.parameter q x)
      | inr x ↦ elim ih [
        | inl y ↦ inl (skip_or (made_default e) (map made_default (filter (wants_default wanted) es)) d q x ∙ y)
        | inr y ↦ inr (skip_or (made_default e) (map made_default (filter (wants_default wanted) es)) d q x ∙ y.0, y.1)
      ]
    ]

-- and where it is wanted, it is reached
pub defaults_set : (wanted es : List Entry) (q : Parameter) → value_of wanted q ≡ default_value q
    → value_or (map made_default (filter (wants_default wanted) es)) (value_of es q) q ≡ default_value q
defaults_set wanted [] q h = refl
defaults_set wanted (e ∷ es) q h = elim (cases_eq (rank e.parameter) (rank q)) [
  | inl x ↦
      let t : wants_default wanted e ≡ true =
      pair_eq-same (value_of wanted e.parameter) (default_value e.parameter) (value_by wanted e.parameter q x ∙ h ∙ default_by q e.parameter (sym x)) in
      ap (λ b. value_or (map made_default (cond b (e ∷ filter (wants_default wanted) es) (filter (wants_default wanted) es))) (value_of (e ∷ es) q) q) t
      ∙ found_or (made_default e) (map made_default (filter (wants_default wanted) es)) (value_of (e ∷ es) q) q x ∙ default_by e.parameter q x
  | inr x ↦ past (wants_default wanted e) x
      ∙ ap (λ d. value_or (map made_default (filter (wants_default wanted) es)) d q) (skip e es q x) ∙ defaults_set wanted es q h
]
  where
    past : (b : Bool) → rank e.parameter ≢ rank q
        → value_or (map made_default (cond b (e ∷ filter (wants_default wanted) es) (filter (wants_default wanted) es))) (value_of (e ∷ es) q) q ≡ value_or (map made_default (filter (wants_default wanted) es)) (value_of (e ∷ es) q) q
    past true x = skip_or (made_default e) (map made_default (filter (wants_default wanted) es)) (value_of (e ∷ es) q) q x
    past false x = refl

-- the parameters that differ, set in their order, have the wanted values
pub changes_set : (now wanted : List Entry) (q : Parameter) → IsCanonical now → IsCanonical wanted
    → value_or (to_default now wanted ++ to_other now wanted) (value_of now q) q ≡ value_of wanted q
changes_set now wanted q hn hw =
    let r : ℕ × ℕ = value_or (to_other now wanted) (value_of now q) q in
    value_or-append (to_default now wanted) (to_other now wanted) (value_of now q) q ∙ (elim (others_set now wanted q hw) [
      | inl k ↦ (elim (defaults_leave wanted now r q) [
        | inl y ↦ y ∙ k
        | inr y ↦ y.0 ∙ sym y.1
      ])
      | inr k ↦ ap (λ d. value_or (to_default now wanted) d q) k.1 ∙ defaults_set wanted now q k.0 ∙ sym k.0
    ])

-- each number stands once among them
pub apart_append : (a b : List Entry) → Apart a → Apart b → ((q : Parameter) → Misses (rank q) a ⊎ Misses (rank q) b)
    → Apart (a ++ b)
apart_append [] b h k m = k
apart_append (e ∷ es) b h k m = (
  misses_append (rank e.parameter) es b h.0 (other (m e.parameter)),
  apart_append es b h.1 k (λ q. (elim (m q) [
    | inl x ↦ inl x.1
    | inr x ↦ inr x
  ])),
)
  where
    other : Misses (rank e.parameter) (e ∷ es) ⊎ Misses (rank e.parameter) b → Misses (rank e.parameter) b
    other (inl x) = absurd (x.0 refl)
    other (inr x) = x

misses_defaults : (wanted es : List Entry) (q : Parameter) → value_of wanted q ≢ default_value q
    → Misses (rank q) (map made_default (filter (wants_default wanted) es))
misses_defaults wanted [] q h = tt
misses_defaults wanted (e ∷ es) q h = pick (wants_default wanted e) (misses_defaults wanted es q h) refl
  where
    pick : (b : Bool) → Misses (rank q) (map made_default (filter (wants_default wanted) es)) → wants_default wanted e ≡ b
        → Misses (rank q) (map made_default (cond b (e ∷ filter (wants_default wanted) es) (filter (wants_default wanted) es)))
    pick false ih k = ih
    pick true ih k =
        (λ x. h (value_by wanted q e.parameter (sym x) ∙ pair_eq-true (value_of wanted e.parameter) (default_value e.parameter) k ∙ default_by e.parameter q x), ih)

either_misses : (now wanted : List Entry) (q : Parameter) → IsCanonical wanted
    → Misses (rank q) (to_default now wanted) ⊎ Misses (rank q) (to_other now wanted)
either_misses now wanted q h = elim (cases_Bool (pair_eq (value_of wanted q) (default_value q))) [
  | inl t ↦ inr (misses_filter (rank q) (wants_other now) wanted (misses_by_value wanted q h (pair_eq-true (value_of wanted q) (default_value q) t)))
  | inr t ↦ inl (misses_defaults wanted now q (λ x. false≢true (sym t ∙ pair_eq-same (value_of wanted q) (default_value q) x)))
]

pub changes_apart : (now wanted : List Entry) → IsCanonical now → IsCanonical wanted
    → Apart (to_default now wanted ++ to_other now wanted)
changes_apart now wanted hn hw = apart_append (to_default now wanted) (to_other now wanted)
    (apart_default (filter (wants_default wanted) now) (apart_filter (wants_default wanted) now hn)) (apart_filter (wants_other now) wanted hw)
    (λ q. either_misses now wanted q hw)

-- ---- they can be entered

entered_filter : (p : Entry → Bool) (es : List Entry) → AreEntered es → AreEntered (filter p es)
entered_filter p [] h = tt
entered_filter p (e ∷ es) h =
    cond_both (p e) (e ∷ filter p es) (filter p es) AreEntered (λ _. (h.0, entered_filter p es h.1)) (λ _. entered_filter p es h.1)

entered_default : (es : List Entry) → AreEntered es → AreEntered (map made_default es)
entered_default [] h = tt
entered_default (e ∷ es) h = (
  record { small = h.0.small; settable = h.0.settable; high = (value_bytes [] e.parameter tt).0; low = (value_bytes [] e.parameter tt).1 },
  entered_default es h.1,
)

pub entered_append : (a b : List Entry) → AreEntered a → AreEntered b → AreEntered (a ++ b)
entered_append [] b h k = k
entered_append (e ∷ es) b h k = (h.0, entered_append es b h.1 k)

pub entered_to_default : (now wanted : List Entry) → AreEntered now → AreEntered (to_default now wanted)
entered_to_default now wanted h = entered_default (filter (wants_default wanted) now) (entered_filter (wants_default wanted) now h)

pub entered_to_other : (now wanted : List Entry) → AreEntered wanted → AreEntered (to_other now wanted)
entered_to_other now wanted h = entered_filter (wants_other now) wanted h
