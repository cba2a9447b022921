-- How many messages bring a channel to a state.
use Rattle.std.proofs.Common.{◌≡◌, ◌≢◌, inl, inr, ℕ, zero, suc, ◌+◌, ◌*◌, ◌≤◌, ◌<◌, List, [], ◌∷◌, ◌++◌, Bool, true, false, cond, ◌||◌, nat_eq, nat_lt, refl, ap, sym, ◌∙◌, subst, arith, length, length-append, set, get_or}
use Rattle.std.specs.List.{filter}
use Rattle.std.specs.Prelude.{map}
use Rattle.std.proofs.lemmas.Bool.{cases_eq, cond_both, eq-eqb, ne_eqb, false≢true}
use Rattle.std.proofs.lemmas.Bool.Decides.{nat_tests}
use Rattle.mt_base.specs.declared.event.Msg.{Msg}
use Rattle.mt_base.specs.declared.event.Msg.TheVariants.{KeyPressure, Control, Program, Pressure, Bend}
use Rattle.midi_model.specs.Params.{Parameter, Entry, rank, counts, value_of}
use Rattle.midi_model.specs.ParameterLaws.{IsSmall}
use Rattle.midi_model.specs.Channel.{State, Voice, counted}
use Rattle.midi_model.specs.WellFormed.{is_stored, is_settable, AreEntered, IsWellFormed}
use Rattle.midi_model.specs.Bring.{apply_all, where_differs, voice_eq, bring_voice, bring_controls, choose_parameter, bring_parameter, bring_each, closed, bring_keys, bring, made_default, to_default, to_other}
use Rattle.state_laws.specs.Reached.{changed}
use Rattle.state_laws.specs.Counts.{differing, differing_params}
use Rattle.state_laws.proofs.Values.{Misses, Apart, changes_apart, wants_default, wants_other}
use Rattle.state_laws.proofs.Steps.{high_bank, banks, voice_controls}
use Rattle.state_laws.proofs.Setting.{entered_changes}
use Rattle.state_laws.proofs.Reaching.{first_state, brought, bring_is, sized_voice, sized}
use Rattle.state_laws.proofs.Rooms.{count, count_one}

-- ---- the groups

length_voice_by : (c : ℕ) (v : Voice) (a h l : Bool)
    → length (cond a [] ((cond h [] (Control c 0 v.high ∷ []) ++ cond l [] (Control c 32 v.low ∷ [])) ++ Program c v.program ∷ [])) ≤ 3
length_voice_by c v true h l = omega arith
length_voice_by c v false true true = omega arith
length_voice_by c v false true false = omega arith
length_voice_by c v false false true = omega arith
length_voice_by c v false false false = omega arith

length_controls : (c n : ℕ) (xs ys : List ℕ) → length (bring_controls c n xs ys) ≡ differing xs ys
length_controls c n [] ys = refl
length_controls c n (x ∷ xs) [] = refl
length_controls c n (x ∷ xs) (y ∷ ys) = pick (nat_eq x y) (length_controls c (n + 1) xs ys)
  where
    pick : (b : Bool) → length (bring_controls c (n + 1) xs ys) ≡ differing xs ys
        → length (cond b [] (Control c n y ∷ []) ++ bring_controls c (n + 1) xs ys) ≡ cond b 0 1 + differing xs ys
    pick true h = omega (arith, h)
    pick false h = omega (arith, h)

length_keys : (c n : ℕ) (xs ys : List ℕ) → length (bring_keys c n xs ys) ≡ differing xs ys
length_keys c n [] ys = refl
length_keys c n (x ∷ xs) [] = refl
length_keys c n (x ∷ xs) (y ∷ ys) = pick (nat_eq x y) (length_keys c (n + 1) xs ys)
  where
    pick : (b : Bool) → length (bring_keys c (n + 1) xs ys) ≡ differing xs ys
        → length (cond b [] (KeyPressure c n y ∷ []) ++ bring_keys c (n + 1) xs ys) ≡ cond b 0 1 + differing xs ys
    pick true h = omega (arith, h)
    pick false h = omega (arith, h)

differing_set : (xs ys : List ℕ) (i v : ℕ) → differing (set xs i v) ys ≤ 1 + differing xs ys
differing_set [] ys i v = omega arith
differing_set (x ∷ xs) [] zero v = omega arith
differing_set (x ∷ xs) [] (suc i) v = omega arith
differing_set (x ∷ xs) (y ∷ ys) zero v = pick (nat_eq v y) (nat_eq x y)
  where
    pick : (a b : Bool) → cond a 0 1 + differing xs ys ≤ 1 + (cond b 0 1 + differing xs ys)
    pick true b = omega arith
    pick false true = omega arith
    pick false false = omega arith
differing_set (x ∷ xs) (y ∷ ys) (suc i) v = pick (nat_eq x y) (differing_set xs ys i v)
  where
    pick : (b : Bool) → differing (set xs i v) ys ≤ 1 + differing xs ys
        → cond b 0 1 + differing (set xs i v) ys ≤ 1 + (cond b 0 1 + differing xs ys)
    pick true h = omega (arith, h)
    pick false h = omega (arith, h)

differing_voice : (cs ys : List ℕ) (now v : Voice) → differing (voice_controls cs now v) ys ≤ 2 + differing cs ys
differing_voice cs ys now v =
    let one : differing (high_bank cs v.high) ys ≤ 1 + differing cs ys =
    cond_both (nat_eq (get_or cs 0 0) v.high) cs (set cs 0 v.high) (λ (l : List ℕ). differing l ys ≤ 1 + differing cs ys) (λ _. omega arith) (λ _. differing_set cs ys 0 v.high) in
    let more = differing_set (high_bank cs v.high) ys 32 v.low in
    let two : differing (banks cs v) ys ≤ 2 + differing cs ys =
    cond_both (nat_eq (get_or cs 32 0) v.low) (high_bank cs v.high) (set (high_bank cs v.high) 32 v.low) (λ (l : List ℕ). differing l ys ≤ 2 + differing cs ys) (λ _. omega (arith, one)) (λ _. omega (arith, one, more)) in
    cond_both (voice_eq now v) cs (banks cs v) (λ (l : List ℕ). differing l ys ≤ 2 + differing cs ys) (λ _. omega arith) (λ _. two)

length_parameter_by : (c : ℕ) (b x y : Bool) (h l v w : ℕ)
    → (let p : Parameter = record { registered = b; high = h; low = l } in length (choose_parameter c p ++ (cond x [] (Control c 6 v ∷ []) ++ cond y [] (Control c 38 w ∷ []))) ≤ 4)
length_parameter_by c true true true h l v w = omega arith
length_parameter_by c true true false h l v w = omega arith
length_parameter_by c true false true h l v w = omega arith
length_parameter_by c true false false h l v w = omega arith
length_parameter_by c false true true h l v w = omega arith
length_parameter_by c false true false h l v w = omega arith
length_parameter_by c false false true h l v w = omega arith
length_parameter_by c false false false h l v w = omega arith

length_parameter : (c : ℕ) (v : ℕ × ℕ) (e : Entry) → length (bring_parameter c v e) ≤ 4
length_parameter c v e =
    length_parameter_by c e.parameter.registered (nat_eq v.0 e.value.0) (nat_eq v.1 e.value.1) e.parameter.high e.parameter.low e.value.0 e.value.1

length_each : (c : ℕ) (now es : List Entry) → length (bring_each c now es) ≤ 4 * length es
length_each c now [] = omega arith
length_each c now (e ∷ es) =
    let one = length_parameter c (value_of now e.parameter) e in
    let rest = length_each c now es in
    omega (arith, one, rest, length-append (bring_parameter c (value_of now e.parameter) e) (bring_each c now es))

length_closed : (c : ℕ) (ms : List Msg) → length (closed c ms) ≤ 2 + length ms
length_closed c [] = omega arith
length_closed c (m ∷ ms) = omega (arith, length-append (m ∷ ms) (Control c 101 127 ∷ Control c 100 127 ∷ []))

length_differs : (a b : ℕ) (m : Msg) → length (where_differs a b m) ≤ 1
length_differs a b m = pick (nat_eq a b)
  where
    pick : (d : Bool) → length (cond d [] (m ∷ [])) ≤ 1
    pick true = omega arith
    pick false = omega arith

length-map_default : (es : List Entry) → length (map made_default es) ≡ length es
length-map_default [] = refl
length-map_default (e ∷ es) = ap suc (length-map_default es)

length_changed : (now wanted : State) → length (changed now wanted) ≡ differing_params now.own.params wanted.own.params
length_changed now wanted =
    let a : List Entry = to_default now.own.params wanted.own.params in
    let b : List Entry = to_other now.own.params wanted.own.params in
    length-append a b ∙ ap (λ n. n + length b) (length-map_default (filter (wants_default wanted.own.params) now.own.params))

-- ---- all of them

-- by the number of controllers and of parameters
length_bring : (c k p : ℕ) (now wanted : State) → IsWellFormed now
    → differing (first_state now wanted).own.controls wanted.own.controls ≤ k → length (changed now wanted) ≤ p
    → length (bring c now wanted) ≤ 7 + k + 4 * p + differing now.keys wanted.keys
length_bring c k p now wanted h hk hp =
    let v : List Msg = bring_voice c now.own wanted.own.voice in
    let cs : List Msg = bring_controls c 0 (first_state now wanted).own.controls wanted.own.controls in
    let each : List Msg = bring_each c now.own.params (changed now wanted) in
    let w : List Msg = where_differs now.own.pressure wanted.own.pressure (Pressure c wanted.own.pressure) in
    let b : List Msg = where_differs now.own.bend wanted.own.bend (Bend c wanted.own.bend) in
    let ks : List Msg = bring_keys c 0 now.keys wanted.keys in
    let lv : length v ≤ 3 =
    length_voice_by c wanted.own.voice (voice_eq now.own.voice wanted.own.voice) (nat_eq (get_or now.own.controls 0 0) wanted.own.voice.high) (nat_eq (get_or now.own.controls 32 0) wanted.own.voice.low) in
    let lc = length_controls c 0 (first_state now wanted).own.controls wanted.own.controls in
    let le = length_each c now.own.params (changed now wanted) in
    let ll = length_closed c each in
    let lw = length_differs now.own.pressure wanted.own.pressure (Pressure c wanted.own.pressure) in
    let lb = length_differs now.own.bend wanted.own.bend (Bend c wanted.own.bend) in
    let lk = length_keys c 0 now.keys wanted.keys in
    let a1 = length-append v cs in
    let a2 = length-append (v ++ cs) (closed c each) in
    let a3 = length-append ((v ++ cs) ++ closed c each) w in
    let a4 = length-append (((v ++ cs) ++ closed c each) ++ w) b in
    let a5 = length-append ((((v ++ cs) ++ closed c each) ++ w) ++ b) ks in
    let total : length (brought c now wanted) ≤ 7 + k + 4 * p + differing now.keys wanted.keys =
    omega (arith, lv, lc, hk, hp, le, ll, lw, lb, lk, a1, a2, a3, a4, a5) in
    subst (λ (ms : List Msg). length ms ≤ 7 + k + 4 * p + differing now.keys wanted.keys) (sym (bring_is c now wanted h)) total

pub few : (c : ℕ) (now wanted : State) → IsWellFormed now → IsWellFormed wanted
    → length (bring c now wanted) ≤ 9 + differing now.own.controls wanted.own.controls + 4 * differing_params now.own.params wanted.own.params + differing now.keys wanted.keys
few c now wanted hn hw =
    let k : ℕ = 2 + differing now.own.controls wanted.own.controls in
    let n =
    length_bring c k (differing_params now.own.params wanted.own.params) now wanted hn (differing_voice now.own.controls wanted.own.controls now.own.voice wanted.own.voice) (omega (arith, length_changed now wanted)) in
    omega (arith, n)

-- ---- at most

-- how many controllers are stored, from one on
abbrev stored_in : ℕ → ℕ → ℕ
stored_in n zero = 0
stored_in n (suc m) = cond (is_stored n) 1 0 + stored_in (n + 1) m

all_stored : stored_in 0 120 ≡ 112
all_stored = refl

differing_stored : (n : ℕ) (xs ys : List ℕ) → ((i : ℕ) → is_stored (n + i) ≡ false → get_or xs i 0 ≡ get_or ys i 0)
    → differing xs ys ≤ stored_in n (length xs)
differing_stored n [] ys u = omega arith
differing_stored n (x ∷ xs) [] u = omega arith
differing_stored n (x ∷ xs) (y ∷ ys) u =
    let first : n + 0 ≡ n = omega arith in
    let shift : (i : ℕ) → (n + 1) + i ≡ n + suc i = λ i. omega arith in
    pick (is_stored n) (nat_eq x y) refl refl first (differing_stored (n + 1) xs ys (λ i f. u (suc i) (ap is_stored (sym (shift i)) ∙ f)))
  where
    pick : (s b : Bool) → is_stored n ≡ s → nat_eq x y ≡ b → n + 0 ≡ n → differing xs ys ≤ stored_in (n + 1) (length xs)
        → cond b 0 1 + differing xs ys ≤ cond s 1 0 + stored_in (n + 1) (length xs)
    pick true true e f first h = omega (arith, h)
    pick true false e f first h = omega (arith, h)
    pick false true e f first h = omega (arith, h)
    pick false false e f first h = let z : x ≡ y = u 0 (ap is_stored first ∙ e) in absurd (false≢true (sym f ∙ eq-eqb x y z))

differing_length : (xs ys : List ℕ) → differing xs ys ≤ length xs
differing_length [] ys = omega arith
differing_length (x ∷ xs) [] = omega arith
differing_length (x ∷ xs) (y ∷ ys) = pick (nat_eq x y) (differing_length xs ys)
  where
    pick : (b : Bool) → differing xs ys ≤ length xs → cond b 0 1 + differing xs ys ≤ suc (length xs)
    pick true h = omega (arith, h)
    pick false h = omega (arith, h)

-- how many entries have this number
abbrev at_rank : ℕ → List Entry → ℕ
at_rank r [] = 0
at_rank r (e ∷ es) = cond (nat_eq (rank e.parameter) r) 1 0 + at_rank r es

at_none : (r : ℕ) (es : List Entry) → Misses r es → at_rank r es ≡ 0
at_none r [] h = refl
at_none r (e ∷ es) h = let ih : at_rank r es ≡ 0 = at_none r es h.1 in rw (ne_eqb (rank e.parameter) r h.0) (omega (arith, ih))

at_most_one : (r : ℕ) (es : List Entry) → Apart es → at_rank r es ≤ 1
at_most_one r [] h = omega arith
at_most_one r (e ∷ es) h = elim (cases_eq (rank e.parameter) r) [
  | inl x ↦ (let z : at_rank r es ≡ 0 = at_none r es (subst (λ (n : ℕ). Misses n es) x h.0) in rw (eq-eqb (rank e.parameter) r x) (omega (arith, z)))
  | inr x ↦ (let ih : at_rank r es ≤ 1 = at_most_one r es h.1 in rw (ne_eqb (rank e.parameter) r x) (omega (arith, ih)))
]

settable_by : (b : Bool) (h l n : ℕ) → h < 128 → l < 128 → n < 128 → cond b 0 16384 + 128 * h + l ≡ n
    → (b ≡ true) × (h ≡ 0) × (l ≡ n)
settable_by true h l n hh hl hn e = (refl, omega arith, omega arith)
settable_by false h l n hh hl hn e = absurd (omega arith)

-- RPN 3 and 6 can't be entered
not_special : (p : Parameter) (n : ℕ) → IsSmall p → n < 128
    → (let q : Parameter = record { registered = true; high = 0; low = n } in is_settable q ≡ false) → is_settable p ≡ true
    → rank p ≢ n
not_special p n s low f h e =
    let t = settable_by p.registered p.high p.low n s.high s.low low e in
    let x : is_settable p ≡ (let q : Parameter = record { registered = true; high = 0; low = n } in is_settable q) =
    ap (λ b. let q : Parameter = record { registered = b; high = p.high; low = p.low } in is_settable q) t.0
    ∙ ap (λ b. let q : Parameter = record { registered = true; high = b; low = p.low } in is_settable q) t.1
    ∙ ap (λ b. let q : Parameter = record { registered = true; high = 0; low = b } in is_settable q) t.2 in
    false≢true (sym (x ∙ f) ∙ h)

one_of : (r : ℕ) → r ≢ 3 → r ≢ 6
    → 1 ≤ cond (nat_lt 6 r || nat_eq r 4) 1 0 + (cond (nat_eq r 0) 1 0 + (cond (nat_eq r 1) 1 0 + (cond (nat_eq r 2) 1 0 + cond (nat_eq r 5) 1 0)))
one_of r a b = grind (arith, nat_tests)

few_uncounted : (es : List Entry) → AreEntered es
    → length es ≤ count es + (at_rank 0 es + (at_rank 1 es + (at_rank 2 es + at_rank 5 es)))
few_uncounted [] h = omega arith
few_uncounted (e ∷ es) h =
    let ih = few_uncounted es h.1 in
    let p : Parameter = e.parameter in
    let one =
    one_of (rank p) (not_special p 3 h.0.small (omega arith) refl h.0.settable) (not_special p 6 h.0.small (omega arith) refl h.0.settable) in
    let step : (b : Bool) → cond b (suc (count es)) (count es) ≡ cond b 1 0 + count es = elim [ true ↦ omega arith | false ↦ omega arith ] in
    let sum : count (e ∷ es) ≡ cond (counts e) 1 0 + count es = count_one e es ∙ step (counts e) in
    omega (arith, ih, one, sum)

count_append : (a b : List Entry) → count (a ++ b) ≡ count a + count b
count_append [] b = omega arith
count_append (e ∷ es) b = pick (counts e) (count_append es b)
  where
    pick : (x : Bool) → count (es ++ b) ≡ count es + count b
        → length (cond x (e ∷ filter counts (es ++ b)) (filter counts (es ++ b))) ≡ length (cond x (e ∷ filter counts es) (filter counts es)) + count b
    pick true h = omega (arith, h)
    pick false h = h

count_default : (es : List Entry) → count (map made_default es) ≡ count es
count_default [] = refl
count_default (e ∷ es) = pick (counts e) (count_default es)
  where
    pick : (x : Bool) → count (map made_default es) ≡ count es
        → length (cond x (made_default e ∷ filter counts (map made_default es)) (filter counts (map made_default es))) ≡ length (cond x (e ∷ filter counts es) (filter counts es))
    pick true h = ap suc h
    pick false h = h

count_filter : (p : Entry → Bool) (es : List Entry) → count (filter p es) ≤ count es
count_filter p [] = omega arith
count_filter p (e ∷ es) = pick (p e) (counts e) (count_one e (filter p es)) (count_one e es) refl (count_filter p es)
  where
    pick : (x y : Bool) → count (e ∷ filter p es) ≡ cond (counts e) (suc (count (filter p es))) (count (filter p es))
        → count (e ∷ es) ≡ cond (counts e) (suc (count es)) (count es) → counts e ≡ y → count (filter p es) ≤ count es
        → count (cond x (e ∷ filter p es) (filter p es)) ≤ count (e ∷ es)
    pick true true a b c h = rw (a, b, c) (omega (arith, h))
    pick true false a b c h = rw (a, b, c) (omega (arith, h))
    pick false true a b c h = rw (b, c) (omega (arith, h))
    pick false false a b c h = rw (b, c) (omega (arith, h))

changed_most : (now wanted : State) → IsWellFormed now → IsWellFormed wanted
    → length (changed now wanted) ≤ 4 + (counted now.own + counted wanted.own)
changed_most now wanted hn hw =
    let ns : List Entry = now.own.params in
    let ws : List Entry = wanted.own.params in
    let es : List Entry = changed now wanted in
    let apart = changes_apart ns ws hn.canonical hw.canonical in
    let u = few_uncounted es (entered_changes ns ws hn.entered hw.entered) in
    let a0 = at_most_one 0 es apart in
    let a1 = at_most_one 1 es apart in
    let a2 = at_most_one 2 es apart in
    let a5 = at_most_one 5 es apart in
    let s = count_append (to_default ns ws) (to_other ns ws) in
    let d = count_default (filter (wants_default ws) ns) in
    let f = count_filter (wants_default ws) ns in
    let g = count_filter (wants_other ns) ws in
    omega (arith, u, a0, a1, a2, a5, s, d, f, g)

pub most : (c : ℕ) (now wanted : State) → IsWellFormed now → IsWellFormed wanted → counted now.own ≤ 16
    → counted wanted.own ≤ 16 → length (bring c now wanted) ≤ 391
most c now wanted hn hw rn rw =
    let sz = sized_voice now.own.controls now.own.voice wanted.own.voice (sized now hn) in
    let e : (i : ℕ) → 0 + i ≡ i = λ i. omega arith in
    let k : differing (first_state now wanted).own.controls wanted.own.controls ≤ stored_in 0 (length (first_state now wanted).own.controls) =
    differing_stored 0 (first_state now wanted).own.controls wanted.own.controls (λ i u. let x : is_stored i ≡ false = ap is_stored (sym (e i)) ∙ u in sz.unstored i x ∙ sym (hw.unstored i x)) in
    let kk : differing (first_state now wanted).own.controls wanted.own.controls ≤ 112 = omega (arith, k, ap (stored_in 0) sz.length, all_stored) in
    let p : length (changed now wanted) ≤ 36 = let x = changed_most now wanted hn hw in omega (arith, x, rn, rw) in
    let n = length_bring c 112 36 now wanted hn kk p in
    let keys = differing_length now.keys wanted.keys in
    omega (arith, n, keys, hn.keys)

-- ---- on each channel

voice_free : (c d : ℕ) (now : State) (v : Voice) (a h l : Bool)
    → (let ms : List Msg = cond a [] ((cond h [] (Control c 0 v.high ∷ []) ++ cond l [] (Control c 32 v.low ∷ [])) ++ Program c v.program ∷ []) in
    let ns : List Msg = cond a [] ((cond h [] (Control d 0 v.high ∷ []) ++ cond l [] (Control d 32 v.low ∷ [])) ++ Program d v.program ∷ []) in
    (length ms ≡ length ns) × ((apply_all now ms).own.controls ≡ (apply_all now ns).own.controls))
voice_free c d now v true h l = (refl, refl)
voice_free c d now v false true true = (refl, refl)
voice_free c d now v false true false = (refl, refl)
voice_free c d now v false false true = (refl, refl)
voice_free c d now v false false false = (refl, refl)

parameter_free : (c d : ℕ) (b x y : Bool) (h l v w : ℕ)
    → (let p : Parameter = record { registered = b; high = h; low = l } in
    length (choose_parameter c p ++ (cond x [] (Control c 6 v ∷ []) ++ cond y [] (Control c 38 w ∷ []))) ≡ length (choose_parameter d p ++ (cond x [] (Control d 6 v ∷ []) ++ cond y [] (Control d 38 w ∷ []))))
parameter_free c d true true true h l v w = refl
parameter_free c d true true false h l v w = refl
parameter_free c d true false true h l v w = refl
parameter_free c d true false false h l v w = refl
parameter_free c d false true true h l v w = refl
parameter_free c d false true false h l v w = refl
parameter_free c d false false true h l v w = refl
parameter_free c d false false false h l v w = refl

each_free : (c d : ℕ) (now es : List Entry) → length (bring_each c now es) ≡ length (bring_each d now es)
each_free c d now [] = refl
each_free c d now (e ∷ es) =
    let v : ℕ × ℕ = value_of now e.parameter in
    let one =
    parameter_free c d e.parameter.registered (nat_eq v.0 e.value.0) (nat_eq v.1 e.value.1) e.parameter.high e.parameter.low e.value.0 e.value.1 in
    let a = length-append (bring_parameter c v e) (bring_each c now es) in
    let b = length-append (bring_parameter d v e) (bring_each d now es) in
    let rest = each_free c d now es in
    omega (arith, one, a, b, rest)

closed_free : (c d : ℕ) (ms ns : List Msg) → length ms ≡ length ns → length (closed c ms) ≡ length (closed d ns)
closed_free c d [] [] h = refl
closed_free c d [] (n ∷ ns) h = absurd (omega (arith, h))
closed_free c d (m ∷ ms) [] h = absurd (omega (arith, h))
closed_free c d (m ∷ ms) (n ∷ ns) h =
    let a = length-append (m ∷ ms) (Control c 101 127 ∷ Control c 100 127 ∷ []) in
    let b = length-append (n ∷ ns) (Control d 101 127 ∷ Control d 100 127 ∷ []) in
    omega (arith, a, b, h)

differs_free : (a b : ℕ) (m n : Msg) → length (where_differs a b m) ≡ length (where_differs a b n)
differs_free a b m n = pick (nat_eq a b)
  where
    pick : (d : Bool) → length (cond d [] (m ∷ [])) ≡ length (cond d [] (n ∷ []))
    pick true = refl
    pick false = refl

-- the length, by the lengths of the groups
length_groups : (v k p w b ks : List Msg)
    → length (((((v ++ k) ++ p) ++ w) ++ b) ++ ks) ≡ length v + (length k + (length p + (length w + (length b + length ks))))
length_groups v k p w b ks =
    let a1 = length-append v k in
    let a2 = length-append (v ++ k) p in
    let a3 = length-append ((v ++ k) ++ p) w in
    let a4 = length-append (((v ++ k) ++ p) ++ w) b in
    let a5 = length-append ((((v ++ k) ++ p) ++ w) ++ b) ks in
    omega (arith, a1, a2, a3, a4, a5)

pub as_many : (c d : ℕ) (now wanted : State) → length (bring c now wanted) ≡ length (bring d now wanted)
as_many c d now wanted =
    let vc : List Msg = bring_voice c now.own wanted.own.voice in
    let vd : List Msg = bring_voice d now.own wanted.own.voice in
    let xc : List ℕ = (apply_all now vc).own.controls in
    let xd : List ℕ = (apply_all now vd).own.controls in
    let es : List Entry = changed now wanted in
    let ps : List Entry = now.own.params in
    let free =
    voice_free c d now wanted.own.voice (voice_eq now.own.voice wanted.own.voice) (nat_eq (get_or now.own.controls 0 0) wanted.own.voice.high) (nat_eq (get_or now.own.controls 32 0) wanted.own.voice.low) in
    let k : length (bring_controls c 0 xc wanted.own.controls) ≡ length (bring_controls d 0 xd wanted.own.controls) =
    length_controls c 0 xc wanted.own.controls ∙ ap (λ x. differing x wanted.own.controls) free.1
    ∙ sym (length_controls d 0 xd wanted.own.controls) in
    let p = closed_free c d (bring_each c ps es) (bring_each d ps es) (each_free c d ps es) in
    let w = differs_free now.own.pressure wanted.own.pressure (Pressure c wanted.own.pressure) (Pressure d wanted.own.pressure) in
    let b = differs_free now.own.bend wanted.own.bend (Bend c wanted.own.bend) (Bend d wanted.own.bend) in
    let ks : length (bring_keys c 0 now.keys wanted.keys) ≡ length (bring_keys d 0 now.keys wanted.keys) =
    length_keys c 0 now.keys wanted.keys ∙ sym (length_keys d 0 now.keys wanted.keys) in
    let lc =
    length_groups vc (bring_controls c 0 xc wanted.own.controls) (closed c (bring_each c ps es)) (where_differs now.own.pressure wanted.own.pressure (Pressure c wanted.own.pressure)) (where_differs now.own.bend wanted.own.bend (Bend c wanted.own.bend)) (bring_keys c 0 now.keys wanted.keys) in
    let ld =
    length_groups vd (bring_controls d 0 xd wanted.own.controls) (closed d (bring_each d ps es)) (where_differs now.own.pressure wanted.own.pressure (Pressure d wanted.own.pressure)) (where_differs now.own.bend wanted.own.bend (Bend d wanted.own.bend)) (bring_keys d 0 now.keys wanted.keys) in
    let v = free.0 in
    omega (arith, lc, ld, v, k, p, w, b, ks)
