-- The list of parameters as it is kept: the tests of it and what they say, and that a parameter put into it keeps them.
use Rattle.std.proofs.Common.{◌≡◌, ◌≢◌, ℕ, ◌+◌, ◌<◌, ◌≤◌, length, List, [], ◌∷◌, Bool, true, false, cond, not, ◌&&◌, ◌||◌, nat_eq, nat_lt, filter, refl, ap, sym, ◌∙◌, ◌⊎◌, inl, inr, arith, subst}
use Rattle.std.specs.List.{AllByRecursion}
use Rattle.std.proofs.lemmas.Bool.{cases_lt, ltb-true, lt-ltb, eqb-true, eqb-false}
use Rattle.midi_model.specs.Params.{Parameter, Entry, rank, pair_eq, default_value, value_of, with_front, put, IsAbove, IsCanonical, counts}
use Rattle.midi_model.specs.ParameterLaws.{IsSmall, AreSmall}
use Rattle.midi_model.specs.Channel.{target_in}
use Rattle.midi_model.specs.WellFormed.{is_value, is_settable, IsEntered}
use Rattle.receiver.specs.Kept.{is_above, is_canonical, is_entered, is_other, are_others}
use Rattle.receiver.proofs.Laws.{Laws, either, standard_by}
use Rattle.receiver.proofs.Putting.{put_under, put_on, put_over}

pub left : (x y : Bool) → (x && y) ≡ true → x ≡ true
left true y h = refl
left false y h = h

pub right : (x y : Bool) → (x && y) ≡ true → y ≡ true
right true y h = h
right false y h = absurd cc

pub both : (x y : Bool) → x ≡ true → y ≡ true → (x && y) ≡ true
both true y a b = b
both false y a b = a

pub not_true : (x : Bool) → not x ≡ true → x ≡ false
not_true true h = absurd cc
not_true false h = refl

above_from : (n : ℕ) (es : List Entry) → is_above n es ≡ true → IsAbove n es
above_from n [] h = tt
above_from n (e ∷ es) h = (ltb-true n (rank e.parameter) (left (nat_lt n (rank e.parameter)) (is_above n es) h), above_from n es (right (nat_lt n (rank e.parameter)) (is_above n es) h))

above_to : (n : ℕ) (es : List Entry) → IsAbove n es → is_above n es ≡ true
above_to n [] h = refl
above_to n (e ∷ es) h = both (nat_lt n (rank e.parameter)) (is_above n es) (lt-ltb n (rank e.parameter) h.0) (above_to n es h.1)

pub canonical_from : (es : List Entry) → is_canonical es ≡ true → IsCanonical es
canonical_from [] h = tt
canonical_from (e ∷ es) h =
    let d = pair_eq e.value (default_value e.parameter) in
    let a = is_above (rank e.parameter) es in
    let r = right (not d) (a && is_canonical es) h in
    (not_true d (left (not d) (a && is_canonical es) h), above_from (rank e.parameter) es (left a (is_canonical es) r), canonical_from es (right a (is_canonical es) r))

pub canonical_to : (es : List Entry) → IsCanonical es → is_canonical es ≡ true
canonical_to [] h = refl
canonical_to (e ∷ es) h =
    let d = pair_eq e.value (default_value e.parameter) in
    let a = is_above (rank e.parameter) es in
    both (not d) (a && is_canonical es) (ap not h.0) (both a (is_canonical es) (above_to (rank e.parameter) es h.1) (canonical_to es h.2))

-- put, by the three ways in which the first entry can stand to it
abbrev Stands : Parameter → Entry → Type 0
Stands p e = (rank e.parameter < rank p) ⊎ ((rank e.parameter ≡ rank p) ⊎ (rank p < rank e.parameter))

pub stands : (p : Parameter) (e : Entry) → Stands p e
stands p e = elim (cases_lt (rank e.parameter) (rank p)) [
  | inl h ↦ inl h
  | inr h ↦ elim (cases_lt (rank p) (rank e.parameter)) [
    | inl k ↦ inr (inr k)
    | inr k ↦ inr (inl (omega (arith, h, k)))
  ]
]

-- what holds of each entry holds of each after one was put in
each_front : (f : Entry → Bool) (p : Parameter) (v : ℕ × ℕ) (es : List Entry) → f (record { parameter = p; value = v }) ≡ true
    → AllByRecursion (λ e. f e ≡ true) es → AllByRecursion (λ e. f e ≡ true) (with_front p v es)
each_front f p v es h a = pick (pair_eq v (default_value p))
  where
    pick : (b : Bool) → AllByRecursion (λ e. f e ≡ true) (cond b es (record { parameter = p; value = v } ∷ es))
    pick true = a
    pick false = (h, a)

pub each_put : (f : Entry → Bool) (p : Parameter) (v : ℕ × ℕ) (es : List Entry) → f (record { parameter = p; value = v }) ≡ true
    → AllByRecursion (λ e. f e ≡ true) es → AllByRecursion (λ e. f e ≡ true) (put p v es)
each_put f p v [] h a = each_front f p v [] h tt
each_put f p v (e ∷ es) h a =
    let P : List Entry → Type 0 = λ x. AllByRecursion (λ y. f y ≡ true) x in
    elim (stands p e) [
      | inl k ↦ subst P (sym (put_under p v e es k)) (a.0, each_put f p v es h a.1)
      | inr s ↦ elim s [
        | inl k ↦ subst P (sym (put_on p v e es k)) (each_front f p v es h a.1)
        | inr k ↦ subst P (sym (put_over p v e es k)) (each_front f p v (e ∷ es) h a)
      ]
    ]

pub others_from : (es : List Entry) → are_others es ≡ true → AllByRecursion (λ e. is_other e ≡ true) es
others_from [] h = tt
others_from (e ∷ es) h = (left (is_other e) (are_others es) h, others_from es (right (is_other e) (are_others es) h))

others_to : (es : List Entry) → AllByRecursion (λ e. is_other e ≡ true) es → are_others es ≡ true
others_to [] h = refl
others_to (e ∷ es) h = both (is_other e) (are_others es) h.0 (others_to es h.1)

-- the tests are kept
pub others_put : (p : Parameter) (v : ℕ × ℕ) (es : List Entry) → is_other (record { parameter = p; value = v }) ≡ true → are_others es ≡ true → are_others (put p v es) ≡ true
others_put p v es h a = others_to (put p v es) (each_put is_other p v es h (others_from es a))

pub ordered_put : (l : Laws) (p : Parameter) (v : ℕ × ℕ) (es : List Entry) → is_canonical es ≡ true → is_canonical (put p v es) ≡ true
ordered_put l p v es h = canonical_to (put p v es) (l.form p v es (canonical_from es h))

-- an entry that data entry can make, and the test of it
pub entered_from : (e : Entry) → is_entered e ≡ true → IsEntered e
entered_from e h =
    let t = is_settable e.parameter in
    let a = nat_lt e.parameter.high 128 in
    let b = nat_lt e.parameter.low 128 in
    let c = nat_lt e.value.0 128 in
    let d = nat_lt e.value.1 128 in
    let r = right t ((a && b) && (c && d)) h in
    let s = left (a && b) (c && d) r in
    let w = right (a && b) (c && d) r in
    let high = ltb-true e.value.0 128 (left c d w) in
    let low = ltb-true e.value.1 128 (right c d w) in
    record {
      small = record { high = ltb-true e.parameter.high 128 (left a b s); low = ltb-true e.parameter.low 128 (right a b s) };
      settable = left t ((a && b) && (c && d)) h;
      high = omega (arith, high);
      low = omega (arith, low);
    }

pub entered_to : (e : Entry) → IsEntered e → is_entered e ≡ true
entered_to e h =
    both (is_settable e.parameter) _ h.settable
    (both _ _ (both _ _ (lt-ltb e.parameter.high 128 h.small.high) (lt-ltb e.parameter.low 128 h.small.low))
    (both _ _ (lt-ltb e.value.0 128 (omega (arith, h.high))) (lt-ltb e.value.1 128 (omega (arith, h.low)))))

-- neither the tuning program, RPN 3, nor a zone's size, RPN 6
not_of : (registered : Bool) (high low n : ℕ) → is_value (target_in true (0, n)) ≡ false → n < 128
    → is_settable (record { registered = registered; high = high; low = low }) ≡ true → rank (record { registered = registered; high = high; low = low }) ≢ n
not_of false high low n z few t e = omega (arith, few, e)
not_of true high low n z few t e =
    let h : high ≡ 0 = omega (arith, few, e) in
    let l : low ≡ n = omega (arith, few, e, h) in
    let same : is_value (target_in true (high, low)) ≡ is_value (target_in true (0, n)) = ap (λ x. is_value (target_in true (x, low))) h ∙ ap (λ x. is_value (target_in true (0, x))) l in
    let f : true ≡ false = sym t ∙ same ∙ z in
    absurd cc

pub not_program : (p : Parameter) → is_settable p ≡ true → rank p ≢ 3
not_program p t = not_of p.registered p.high p.low 3 refl (omega arith) t

pub not_zone : (p : Parameter) → is_settable p ≡ true → rank p ≢ 6
not_zone p t = not_of p.registered p.high p.low 6 refl (omega arith) t

small_of : (e : Entry) → is_other e ≡ true → IsSmall e.parameter
small_of e h = (entered_from e (right (counts e) (is_entered e) h)).small

pub small_from : (es : List Entry) → are_others es ≡ true → AreSmall es
small_from [] h = tt
small_from (e ∷ es) h = (small_of e (left (is_other e) (are_others es) h), small_from es (right (is_other e) (are_others es) h))

-- a list in order, with numbers of seven bits
abbrev pub Tidy : List Entry → Type 0
Tidy es = IsCanonical es × AreSmall es

small_front : (p : Parameter) (v : ℕ × ℕ) (es : List Entry) → IsSmall p → AreSmall es → AreSmall (with_front p v es)
small_front p v es h a = pick (pair_eq v (default_value p))
  where
    pick : (b : Bool) → AreSmall (cond b es (record { parameter = p; value = v } ∷ es))
    pick true = a
    pick false = (h, a)

small_put : (p : Parameter) (v : ℕ × ℕ) (es : List Entry) → IsSmall p → AreSmall es → AreSmall (put p v es)
small_put p v [] h a = small_front p v [] h tt
small_put p v (e ∷ es) h a = elim (stands p e) [
  | inl k ↦ subst AreSmall (sym (put_under p v e es k)) (a.0, small_put p v es h a.1)
  | inr s ↦ elim s [
    | inl k ↦ subst AreSmall (sym (put_on p v e es k)) (small_front p v es h a.1)
    | inr k ↦ subst AreSmall (sym (put_over p v e es k)) (small_front p v (e ∷ es) h a)
  ]
]

pub tidy_put : (l : Laws) (p : Parameter) (v : ℕ × ℕ) (es : List Entry) → IsSmall p → Tidy es → Tidy (put p v es)
tidy_put l p v es h t = (l.form p v es t.0, small_put p v es h t.1)

-- a value is looked up by its rank
pub value_by : (es : List Entry) (p q : Parameter) → rank p ≡ rank q → value_of es p ≡ value_of es q
value_by [] p q e = standard_by p q e
value_by (f ∷ es) p q e = ap (λ r. cond (nat_eq (rank f.parameter) r) f.value (value_of es p)) e ∙ ap (λ r. cond (nat_eq (rank f.parameter) (rank q)) f.value r) (value_by es p q e)

pub value_here : (l : Laws) (p r : Parameter) (v : ℕ × ℕ) (es : List Entry) → rank r ≡ rank p → IsCanonical es → value_of (put p v es) r ≡ v
value_here l p r v es e c = value_by (put p v es) r p e ∙ l.given p v es c

pub commute : (l : Laws) (p q : Parameter) (v w : ℕ × ℕ) (es : List Entry) → Tidy es → IsSmall p → IsSmall q → rank p ≢ rank q → put p v (put q w es) ≡ put q w (put p v es)
commute l p q v w es t sp sq ne =
    let one = tidy_put l p v (put q w es) sp (tidy_put l q w es sq t) in
    let two = tidy_put l q w (put p v es) sq (tidy_put l p v es sp t) in
    l.equal (put p v (put q w es)) (put q w (put p v es)) one.0 two.0 one.1 two.1 same
  where
    same : (r : Parameter) → value_of (put p v (put q w es)) r ≡ value_of (put q w (put p v es)) r
    same r = elim (either (nat_eq (rank r) (rank p))) [
      | inl h ↦ (let e : rank r ≡ rank p = eqb-true (rank r) (rank p) h in
          value_here l p r v (put q w es) e (l.form q w es t.0) ∙ sym (l.others q r w (put p v es) (λ x. ne (sym e ∙ x)) ∙ value_here l p r v es e t.0))
      | inr h ↦ (let n : rank r ≢ rank p = eqb-false (rank r) (rank p) h in
          elim (either (nat_eq (rank r) (rank q))) [
            | inl k ↦ (let e : rank r ≡ rank q = eqb-true (rank r) (rank q) k in
                l.others p r v (put q w es) n ∙ value_here l q r w es e t.0 ∙ sym (value_here l q r w (put p v es) e (l.form p v es t.0)))
            | inr k ↦ (let m : rank r ≢ rank q = eqb-false (rank r) (rank q) k in
                l.others p r v (put q w es) n ∙ l.others q r w es m ∙ sym (l.others q r w (put p v es) m ∙ l.others p r v es n))
          ])
    ]

pub twice : (l : Laws) (p q : Parameter) (v w : ℕ × ℕ) (es : List Entry) → Tidy es → IsSmall p → IsSmall q → rank p ≡ rank q → put p v (put q w es) ≡ put q v es
twice l p q v w es t sp sq same_number =
    let one = tidy_put l p v (put q w es) sp (tidy_put l q w es sq t) in
    let two = tidy_put l q v es sq t in
    l.equal (put p v (put q w es)) (put q v es) one.0 two.0 one.1 two.1 same
  where
    same : (r : Parameter) → value_of (put p v (put q w es)) r ≡ value_of (put q v es) r
    same r = elim (either (nat_eq (rank r) (rank p))) [
      | inl h ↦ (let e : rank r ≡ rank p = eqb-true (rank r) (rank p) h in
          value_here l p r v (put q w es) e (l.form q w es t.0) ∙ sym (value_here l q r v es (e ∙ same_number) t.0))
      | inr h ↦ (let n : rank r ≢ rank p = eqb-false (rank r) (rank p) h in
          let m : rank r ≢ rank q = λ x. n (x ∙ sym same_number) in
          l.others p r v (put q w es) n ∙ l.others q r w es m ∙ sym (l.others q r v es m))
    ]

-- what doesn't count isn't counted
front_not_counted : (p : Parameter) (v : ℕ × ℕ) (es : List Entry) → counts (record { parameter = p; value = v }) ≡ false → filter counts (with_front p v es) ≡ filter counts es
front_not_counted p v es h = pick (pair_eq v (default_value p))
  where
    pick : (b : Bool) → filter counts (cond b es (record { parameter = p; value = v } ∷ es)) ≡ filter counts es
    pick true = refl
    pick false = ap (λ t. cond t (record { parameter = p; value = v } ∷ filter counts es) (filter counts es)) h

pub not_counted : (p : Parameter) (v : ℕ × ℕ) (es : List Entry) → counts (record { parameter = p; value = v }) ≡ false → filter counts (put p v es) ≡ filter counts es
not_counted p v [] h = front_not_counted p v [] h
not_counted p v (e ∷ es) h = elim (stands p e) [
  | inl k ↦ ap (filter counts) (put_under p v e es k) ∙ ap (λ r. cond (counts e) (e ∷ r) r) (not_counted p v es h)
  | inr s ↦ elim s [
    | inl k ↦ ap (filter counts) (put_on p v e es k) ∙ front_not_counted p v es h
        ∙ sym (ap (λ t. cond t (e ∷ filter counts es) (filter counts es)) (ap (λ r. nat_lt 6 r || nat_eq r 4) k ∙ h))
    | inr k ↦ ap (filter counts) (put_over p v e es k) ∙ front_not_counted p v (e ∷ es) h
  ]
]

pub all_counted : (es : List Entry) → are_others es ≡ true → filter counts es ≡ es
all_counted [] h = refl
all_counted (e ∷ es) h =
    let c = left (counts e) (is_entered e) (left (is_other e) (are_others es) h) in
    ap (λ t. cond t (e ∷ filter counts es) (filter counts es)) c ∙ ap (λ r. e ∷ r) (all_counted es (right (is_other e) (are_others es) h))

-- a value makes the list longer by one at most
length_front : (p : Parameter) (v : ℕ × ℕ) (es : List Entry) → length (with_front p v es) ≤ length es + 1
length_front p v es = pick (pair_eq v (default_value p))
  where
    pick : (b : Bool) → length (cond b es (record { parameter = p; value = v } ∷ es)) ≤ length es + 1
    pick true = omega arith
    pick false = omega arith

pub length_put : (p : Parameter) (v : ℕ × ℕ) (es : List Entry) → length (put p v es) ≤ length es + 1
length_put p v [] = length_front p v []
length_put p v (e ∷ es) =
    let P : List Entry → Type 0 = λ x. length x ≤ length es + 2 in
    let h = length_put p v es in
    let f = length_front p v es in
    let g = length_front p v (e ∷ es) in
    subst (λ n. length (put p v (e ∷ es)) ≤ n) (omega arith) (elim (stands p e) [
      | inl k ↦ subst P (sym (put_under p v e es k)) (omega (arith, h))
      | inr s ↦ elim s [
        | inl k ↦ subst P (sym (put_on p v e es k)) (omega (arith, f))
        | inr k ↦ subst P (sym (put_over p v e es k)) (omega (arith, g))
      ]
    ])
