-- The four parameters that are kept apart, among all parameters.
use Rattle.std.proofs.Common.{◌≡◌, ◌≢◌, ℕ, zero, suc, ◌<◌, List, [], ◌∷◌, true, false, ◌||◌, nat_eq, nat_lt, length, filter, get_or, set, refl, ap, sym, ◌∙◌, arith, inl, inr}
use Rattle.std.proofs.lemmas.Bool.{eqb-true, lt-ltb, ne_eqb}
use Rattle.midi_model.specs.Params.{Parameter, Entry, rank, value_of, put, rpn, counts}
use Rattle.midi_model.specs.ParameterLaws.{IsSmall}
use Rattle.midi_model.specs.WellFormed.{IsEntered}
use Rattle.receiver.specs.Kept.{is_canonical, is_other, are_others, is_apart}
use Rattle.receiver.specs.State.{params_of}
use Rattle.receiver.proofs.Laws.{Laws, either}
use Rattle.receiver.proofs.Tidy.{Tidy, tidy_put, commute, twice, value_here, not_counted, all_counted, canonical_from, small_from, both, others_put, not_program, not_zone, entered_to}

small_rpn : (n : ℕ) → n < 128 → IsSmall (rpn n)
small_rpn n h = record { high = omega arith; low = h }

s0 : IsSmall (rpn 0)
s0 = small_rpn 0 (omega arith)

s1 : IsSmall (rpn 1)
s1 = small_rpn 1 (omega arith)

s2 : IsSmall (rpn 2)
s2 = small_rpn 2 (omega arith)

s5 : IsSmall (rpn 5)
s5 = small_rpn 5 (omega arith)

pub tidy_others : (es : List Entry) → is_canonical es ≡ true → are_others es ≡ true → Tidy es
tidy_others es c o = (canonical_from es c, small_from es o)

abbrev three : ℕ × ℕ → List Entry → List Entry
three d es = put (rpn 5) d es

abbrev two : ℕ × ℕ → ℕ × ℕ → List Entry → List Entry
two c d es = put (rpn 2) c (three d es)

abbrev one : ℕ × ℕ → ℕ × ℕ → ℕ × ℕ → List Entry → List Entry
one b c d es = put (rpn 1) b (two c d es)

tidy3 : (l : Laws) (d : ℕ × ℕ) (es : List Entry) → Tidy es → Tidy (three d es)
tidy3 l d es t = tidy_put l (rpn 5) d es s5 t

tidy2 : (l : Laws) (c d : ℕ × ℕ) (es : List Entry) → Tidy es → Tidy (two c d es)
tidy2 l c d es t = tidy_put l (rpn 2) c (three d es) s2 (tidy3 l d es t)

pub tidy1 : (l : Laws) (b c d : ℕ × ℕ) (es : List Entry) → Tidy es → Tidy (one b c d es)
tidy1 l b c d es t = tidy_put l (rpn 1) b (two c d es) s1 (tidy2 l c d es t)

-- all parameters are in order, each number once
pub tidy_all : (l : Laws) (fixed : List (ℕ × ℕ)) (es : List Entry) → Tidy es → Tidy (params_of fixed es)
tidy_all l fixed es t = tidy_put l (rpn 0) (get_or fixed 0 (0, 0)) (one (get_or fixed 1 (0, 0)) (get_or fixed 2 (0, 0)) (get_or fixed 3 (0, 0)) es) s0 (tidy1 l (get_or fixed 1 (0, 0)) (get_or fixed 2 (0, 0)) (get_or fixed 3 (0, 0)) es t)

abbrev z : ℕ × ℕ
z = (0, 0)

-- a value of a fixed parameter
pub set_0 : (l : Laws) (fixed : List (ℕ × ℕ)) (es : List Entry) (p : Parameter) (v : ℕ × ℕ) → 0 < length fixed → Tidy es → IsSmall p → rank p ≡ 0
    → params_of (set fixed 0 v) es ≡ put p v (params_of fixed es)
set_0 l [] es p v h t s e = absurd (omega (arith, h))
set_0 l (a ∷ fs) es p v h t s e = sym (twice l p (rpn 0) v a (one (get_or fs 0 z) (get_or fs 1 z) (get_or fs 2 z) es) (tidy1 l (get_or fs 0 z) (get_or fs 1 z) (get_or fs 2 z) es t) s s0 e)

pub set_1 : (l : Laws) (fixed : List (ℕ × ℕ)) (es : List Entry) (p : Parameter) (v : ℕ × ℕ) → 1 < length fixed → Tidy es → IsSmall p → rank p ≡ 1
    → params_of (set fixed 1 v) es ≡ put p v (params_of fixed es)
set_1 l [] es p v h t s e = absurd (omega (arith, h))
set_1 l (a ∷ []) es p v h t s e = absurd (omega (arith, h))
set_1 l (a ∷ b ∷ fs) es p v h t s e =
    let c = get_or fs 0 z in
    let d = get_or fs 1 z in
    ap (put (rpn 0) a) (sym (twice l p (rpn 1) v b (two c d es) (tidy2 l c d es t) s s1 e))
    ∙ sym (commute l p (rpn 0) v a (one b c d es) (tidy1 l b c d es t) s s0 (λ x. omega (arith, e, x)))

pub set_2 : (l : Laws) (fixed : List (ℕ × ℕ)) (es : List Entry) (p : Parameter) (v : ℕ × ℕ) → 2 < length fixed → Tidy es → IsSmall p → rank p ≡ 2
    → params_of (set fixed 2 v) es ≡ put p v (params_of fixed es)
set_2 l [] es p v h t s e = absurd (omega (arith, h))
set_2 l (a ∷ []) es p v h t s e = absurd (omega (arith, h))
set_2 l (a ∷ b ∷ []) es p v h t s e = absurd (omega (arith, h))
set_2 l (a ∷ b ∷ c ∷ fs) es p v h t s e =
    let d = get_or fs 0 z in
    ap (λ x. put (rpn 0) a (put (rpn 1) b x)) (sym (twice l p (rpn 2) v c (three d es) (tidy3 l d es t) s s2 e))
    ∙ ap (put (rpn 0) a) (sym (commute l p (rpn 1) v b (two c d es) (tidy2 l c d es t) s s1 (λ x. omega (arith, e, x))))
    ∙ sym (commute l p (rpn 0) v a (one b c d es) (tidy1 l b c d es t) s s0 (λ x. omega (arith, e, x)))

pub set_3 : (l : Laws) (fixed : List (ℕ × ℕ)) (es : List Entry) (p : Parameter) (v : ℕ × ℕ) → 3 < length fixed → Tidy es → IsSmall p → rank p ≡ 5
    → params_of (set fixed 3 v) es ≡ put p v (params_of fixed es)
set_3 l [] es p v h t s e = absurd (omega (arith, h))
set_3 l (a ∷ []) es p v h t s e = absurd (omega (arith, h))
set_3 l (a ∷ b ∷ []) es p v h t s e = absurd (omega (arith, h))
set_3 l (a ∷ b ∷ c ∷ []) es p v h t s e = absurd (omega (arith, h))
set_3 l (a ∷ b ∷ c ∷ d ∷ fs) es p v h t s e =
    ap (λ x. put (rpn 0) a (put (rpn 1) b (put (rpn 2) c x))) (sym (twice l p (rpn 5) v d es t s s5 e))
    ∙ ap (λ x. put (rpn 0) a (put (rpn 1) b x)) (sym (commute l p (rpn 2) v c (three d es) (tidy3 l d es t) s s2 (λ x. omega (arith, e, x))))
    ∙ ap (put (rpn 0) a) (sym (commute l p (rpn 1) v b (two c d es) (tidy2 l c d es t) s s1 (λ x. omega (arith, e, x))))
    ∙ sym (commute l p (rpn 0) v a (one b c d es) (tidy1 l b c d es t) s s0 (λ x. omega (arith, e, x)))

-- none of the four
pub record IsOwn (p : Parameter) : Type 0 where
  pub not_0 : rank p ≢ 0
  pub not_1 : rank p ≢ 1
  pub not_2 : rank p ≢ 2
  pub not_5 : rank p ≢ 5

-- a value of another parameter
pub set_own : (l : Laws) (fixed : List (ℕ × ℕ)) (es : List Entry) (p : Parameter) (v : ℕ × ℕ) → Tidy es → IsSmall p → IsOwn p
    → params_of fixed (put p v es) ≡ put p v (params_of fixed es)
set_own l fixed es p v t s o =
    let a = get_or fixed 0 z in
    let b = get_or fixed 1 z in
    let c = get_or fixed 2 z in
    let d = get_or fixed 3 z in
    ap (λ x. put (rpn 0) a (put (rpn 1) b (put (rpn 2) c x))) (sym (commute l p (rpn 5) v d es t s s5 o.not_5))
    ∙ ap (λ x. put (rpn 0) a (put (rpn 1) b x)) (sym (commute l p (rpn 2) v c (three d es) (tidy3 l d es t) s s2 o.not_2))
    ∙ ap (put (rpn 0) a) (sym (commute l p (rpn 1) v b (two c d es) (tidy2 l c d es t) s s1 o.not_1))
    ∙ sym (commute l p (rpn 0) v a (one b c d es) (tidy1 l b c d es t) s s0 o.not_0)

-- what each is
pub value_0 : (l : Laws) (fixed : List (ℕ × ℕ)) (es : List Entry) (p : Parameter) → Tidy es → rank p ≡ 0 → get_or fixed 0 z ≡ value_of (params_of fixed es) p
value_0 l fixed es p t e = sym (value_here l (rpn 0) p (get_or fixed 0 z) (one (get_or fixed 1 z) (get_or fixed 2 z) (get_or fixed 3 z) es) e (tidy1 l (get_or fixed 1 z) (get_or fixed 2 z) (get_or fixed 3 z) es t).0)

pub value_1 : (l : Laws) (fixed : List (ℕ × ℕ)) (es : List Entry) (p : Parameter) → Tidy es → rank p ≡ 1 → get_or fixed 1 z ≡ value_of (params_of fixed es) p
value_1 l fixed es p t e =
    let b = get_or fixed 1 z in
    let c = get_or fixed 2 z in
    let d = get_or fixed 3 z in
    sym (l.others (rpn 0) p (get_or fixed 0 z) (one b c d es) (λ x. omega (arith, e, x))
    ∙ value_here l (rpn 1) p b (two c d es) e (tidy2 l c d es t).0)

pub value_2 : (l : Laws) (fixed : List (ℕ × ℕ)) (es : List Entry) (p : Parameter) → Tidy es → rank p ≡ 2 → get_or fixed 2 z ≡ value_of (params_of fixed es) p
value_2 l fixed es p t e =
    let b = get_or fixed 1 z in
    let c = get_or fixed 2 z in
    let d = get_or fixed 3 z in
    sym (l.others (rpn 0) p (get_or fixed 0 z) (one b c d es) (λ x. omega (arith, e, x))
    ∙ l.others (rpn 1) p b (two c d es) (λ x. omega (arith, e, x))
    ∙ value_here l (rpn 2) p c (three d es) e (tidy3 l d es t).0)

pub value_3 : (l : Laws) (fixed : List (ℕ × ℕ)) (es : List Entry) (p : Parameter) → Tidy es → rank p ≡ 5 → get_or fixed 3 z ≡ value_of (params_of fixed es) p
value_3 l fixed es p t e =
    let b = get_or fixed 1 z in
    let c = get_or fixed 2 z in
    let d = get_or fixed 3 z in
    sym (l.others (rpn 0) p (get_or fixed 0 z) (one b c d es) (λ x. omega (arith, e, x))
    ∙ l.others (rpn 1) p b (two c d es) (λ x. omega (arith, e, x))
    ∙ l.others (rpn 2) p c (three d es) (λ x. omega (arith, e, x))
    ∙ value_here l (rpn 5) p d es e t.0)

pub value_own : (l : Laws) (fixed : List (ℕ × ℕ)) (es : List Entry) (p : Parameter) → IsOwn p → value_of es p ≡ value_of (params_of fixed es) p
value_own l fixed es p o =
    let b = get_or fixed 1 z in
    let c = get_or fixed 2 z in
    let d = get_or fixed 3 z in
    sym (l.others (rpn 0) p (get_or fixed 0 z) (one b c d es) o.not_0
    ∙ l.others (rpn 1) p b (two c d es) o.not_1
    ∙ l.others (rpn 2) p c (three d es) o.not_2
    ∙ l.others (rpn 5) p d es o.not_5)

-- how many count
pub counted_are : (fixed : List (ℕ × ℕ)) (es : List Entry) → are_others es ≡ true → length (filter counts (params_of fixed es)) ≡ length es
counted_are fixed es o =
    let b = get_or fixed 1 z in
    let c = get_or fixed 2 z in
    let d = get_or fixed 3 z in
    ap length (not_counted (rpn 0) (get_or fixed 0 z) (one b c d es) refl
    ∙ not_counted (rpn 1) b (two c d es) refl
    ∙ not_counted (rpn 2) c (three d es) refl
    ∙ not_counted (rpn 5) d es refl
    ∙ all_counted es o)

-- a parameter that isn't one of the six counts
pub counts_own : (p : Parameter) (v : ℕ × ℕ) → IsOwn p → rank p ≢ 3 → rank p ≢ 6 → counts (record { parameter = p; value = v }) ≡ true
counts_own p v o h k = pick (rank p) refl
  where
    pick : (n : ℕ) → rank p ≡ n → (nat_lt 6 n || nat_eq n 4) ≡ true
    pick zero e = absurd (o.not_0 e)
    pick (suc zero) e = absurd (o.not_1 e)
    pick (suc (suc zero)) e = absurd (o.not_2 e)
    pick (suc (suc (suc zero))) e = absurd (h e)
    pick (suc (suc (suc (suc zero)))) e = refl
    pick (suc (suc (suc (suc (suc zero))))) e = absurd (o.not_5 e)
    pick (suc (suc (suc (suc (suc (suc zero)))))) e = absurd (k e)
    pick (suc (suc (suc (suc (suc (suc (suc n))))))) e = rw (lt-ltb 6 (suc (suc (suc (suc (suc (suc (suc n))))))) (omega arith)) refl

pub is_other_own : (p : Parameter) (v : ℕ × ℕ) → IsOwn p → IsEntered (record { parameter = p; value = v }) → is_other (record { parameter = p; value = v }) ≡ true
is_other_own p v o h =
    both (counts (record { parameter = p; value = v })) _ (counts_own p v o (not_program p h.settable) (not_zone p h.settable)) (entered_to _ h)

pub own_from : (p : Parameter) → is_apart (rank p) ≡ false → IsOwn p
own_from p h = record {
  not_0 = λ e. (let t : true ≡ false = sym (ap is_apart e) ∙ h in absurd cc);
  not_1 = λ e. (let t : true ≡ false = sym (ap is_apart e) ∙ h in absurd cc);
  not_2 = λ e. (let t : true ≡ false = sym (ap is_apart e) ∙ h in absurd cc);
  not_5 = λ e. (let t : true ≡ false = sym (ap is_apart e) ∙ h in absurd cc);
}

apart_uncounted : (p : Parameter) (v : ℕ × ℕ) → is_apart (rank p) ≡ true → counts (record { parameter = p; value = v }) ≡ false
apart_uncounted p v h = pick (rank p) h
  where
    pick : (n : ℕ) → is_apart n ≡ true → (nat_lt 6 n || nat_eq n 4) ≡ false
    pick zero e = refl
    pick (suc zero) e = refl
    pick (suc (suc zero)) e = refl
    pick (suc (suc (suc zero))) e = absurd cc
    pick (suc (suc (suc (suc zero)))) e = absurd cc
    pick (suc (suc (suc (suc (suc zero))))) e = refl
    pick (suc (suc (suc (suc (suc (suc n)))))) e =
        let m : ℕ = suc (suc (suc (suc (suc (suc n))))) in
        let f : is_apart m ≡ false = rw (ne_eqb m 0 (λ x. omega (arith, x)), ne_eqb m 1 (λ x. omega (arith, x)), ne_eqb m 2 (λ x. omega (arith, x)), ne_eqb m 5 (λ x. omega (arith, x))) refl in
        absurd cc

-- how many count once a parameter has a value
pub counted_apart : (fixed : List (ℕ × ℕ)) (es : List Entry) (p : Parameter) (v : ℕ × ℕ) → are_others es ≡ true → is_apart (rank p) ≡ true
    → length (filter counts (put p v (params_of fixed es))) ≡ length es
counted_apart fixed es p v o h = ap length (not_counted p v (params_of fixed es) (apart_uncounted p v h)) ∙ counted_are fixed es o

pub counted_own : (l : Laws) (fixed : List (ℕ × ℕ)) (es : List Entry) (p : Parameter) (v : ℕ × ℕ) → is_canonical es ≡ true → are_others es ≡ true → IsOwn p → IsEntered (record { parameter = p; value = v })
    → length (filter counts (put p v (params_of fixed es))) ≡ length (put p v es)
counted_own l fixed es p v c o w h =
    ap (λ ps. length (filter counts ps)) (sym (set_own l fixed es p v (tidy_others es c o) h.small w))
    ∙ counted_are fixed (put p v es) (others_put p v es (is_other_own p v w h) o)

-- the last of the four
pub apart_last : (r : ℕ) → is_apart r ≡ true → r ≢ 0 → r ≢ 1 → r ≢ 2 → r ≡ 5
apart_last r h a b c = elim (either (nat_eq r 5)) [
  | inl t ↦ eqb-true r 5 t
  | inr t ↦ (let f : is_apart r ≡ false = rw (ne_eqb r 0 a, ne_eqb r 1 b, ne_eqb r 2 c, t) refl in absurd cc)
]
