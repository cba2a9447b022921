-- What the messages are where the wanted state is the one after a single message.
use Rattle.std.proofs.Common.{◌≡◌, ◌≢◌, ◌⊎◌, inl, inr, ℕ, zero, suc, ◌+◌, ◌≤◌, ◌<◌, List, [], ◌∷◌, ◌++◌, Bool, true, false, cond, ◌||◌, nat_eq, refl, ap, sym, ◌∙◌, subst, arith, length, set, get_or}
use Rattle.std.proofs.lemmas.Bool.{cases_eq, cases_Bool, cases_lt, eq-eqb, ne_eqb, lt-leb, false≢true}
use Rattle.std.proofs.lemmas.List.{append-nil}
use Rattle.mt_base.specs.declared.event.Msg.{Msg}
use Rattle.mt_base.specs.declared.event.Msg.TheVariants.{KeyPressure, Control, Program, Pressure, Bend}
use Rattle.midi_model.specs.Params.{Parameter, Entry, rank, pair_eq, value_of, put}
use Rattle.midi_model.specs.ParameterLaws.{IsSmall}
use Rattle.midi_model.specs.Channel.{Channel, State, Selection, Voice, Role, Stored, EntryHigh, EntryLow, NrpnLow, NrpnHigh, RpnLow, RpnHigh, AllSoundOff, ResetControllers, AllNotesOff, Ignored, Value, role, target, controlled, reset_keys, control_of, apply_state}
use Rattle.midi_model.specs.WellFormed.{is_kept, is_stored, is_settable, IsEntered, IsWellFormed}
use Rattle.midi_model.specs.Bring.{apply_all, where_differs, voice_eq, bring_voice, bring_controls, choose_parameter, bring_each, closed, bring_keys, bring}
use Rattle.state_laws.specs.Single.{is_selecting}
use Rattle.state_laws.proofs.Laws.{Laws}
use Rattle.state_laws.proofs.Keeping.{Good, Fits, fits, value_bytes, entered_put}
use Rattle.state_laws.proofs.Values.{pair_eq-true, pair_eq-same, changes_set, changes_apart, value_by}
use Rattle.state_laws.proofs.Steps.{with_controls, at_params, stored_step, high_step, low_step}
use Rattle.state_laws.proofs.Setting.{changes, entered_changes}
use Rattle.state_laws.proofs.Differing.{changes_differ, none_changed, one_changed}

same_nat : (a : ℕ) → nat_eq a a ≡ true
same_nat a = eq-eqb a a refl

differs_none : (a : ℕ) (m : Msg) → where_differs a a m ≡ []
differs_none a m = ap (λ b. cond b [] (m ∷ [])) (same_nat a)

voice_same : (v : Voice) → voice_eq v v ≡ true
voice_same v = rw (same_nat v.high, same_nat v.low, same_nat v.program) refl

voice_none : (c : ℕ) (s : Channel) → bring_voice c s s.voice ≡ []
voice_none c s =
    ap (λ b. cond b [] ((where_differs (control_of s 0) s.voice.high (Control c 0 s.voice.high) ++ where_differs (control_of s 32) s.voice.low (Control c 32 s.voice.low)) ++ Program c s.voice.program ∷ [])) (voice_same s.voice)

controls_none : (c k : ℕ) (xs : List ℕ) → bring_controls c k xs xs ≡ []
controls_none c k [] = refl
controls_none c k (x ∷ xs) = ap (λ l. l ++ bring_controls c (k + 1) xs xs) (differs_none x (Control c k x)) ∙ controls_none c (k + 1) xs

keys_none : (c k : ℕ) (xs : List ℕ) → bring_keys c k xs xs ≡ []
keys_none c k [] = refl
keys_none c k (x ∷ xs) = ap (λ l. l ++ bring_keys c (k + 1) xs xs) (differs_none x (KeyPressure c k x)) ∙ keys_none c (k + 1) xs

controls_one : (c k j v : ℕ) (xs : List ℕ) → j < length xs
    → bring_controls c k xs (set xs j v) ≡ where_differs (get_or xs j 0) v (Control c (k + j) v)
controls_one c k j v [] h = absurd (omega (arith, h))
controls_one c k zero v (x ∷ xs) h =
    let e : k ≡ k + 0 = omega arith in
    ap (λ l. where_differs x v (Control c k v) ++ l) (controls_none c (k + 1) xs)
    ∙ append-nil (where_differs x v (Control c k v)) ∙ ap (λ i. where_differs x v (Control c i v)) e
controls_one c k (suc j) v (x ∷ xs) h =
    let e : (k + 1) + j ≡ k + suc j = omega arith in
    ap (λ l. l ++ bring_controls c (k + 1) xs (set xs j v)) (differs_none x (Control c k x))
    ∙ controls_one c (k + 1) j v xs (omega (arith, h)) ∙ ap (λ i. where_differs (get_or xs j 0) v (Control c i v)) e

keys_one : (c k j v : ℕ) (xs : List ℕ) → j < length xs
    → bring_keys c k xs (set xs j v) ≡ where_differs (get_or xs j 0) v (KeyPressure c (k + j) v)
keys_one c k j v [] h = absurd (omega (arith, h))
keys_one c k zero v (x ∷ xs) h =
    let e : k ≡ k + 0 = omega arith in
    ap (λ l. where_differs x v (KeyPressure c k v) ++ l) (keys_none c (k + 1) xs)
    ∙ append-nil (where_differs x v (KeyPressure c k v)) ∙ ap (λ i. where_differs x v (KeyPressure c i v)) e
keys_one c k (suc j) v (x ∷ xs) h =
    let e : (k + 1) + j ≡ k + suc j = omega arith in
    ap (λ l. l ++ bring_keys c (k + 1) xs (set xs j v)) (differs_none x (KeyPressure c k x))
    ∙ keys_one c (k + 1) j v xs (omega (arith, h)) ∙ ap (λ i. where_differs (get_or xs j 0) v (KeyPressure c i v)) e

params_none : (c : ℕ) (s : State) → IsWellFormed s → closed c (bring_each c s.own.params (changes s.own.params s.own.params)) ≡ []
params_none c s h = ap (λ es. closed c (bring_each c s.own.params es))
    (none_changed s.own.params s.own.params (changes s.own.params s.own.params) (changes_differ s.own.params s.own.params h.canonical h.canonical) (λ q. refl))

-- group by group
bring_by : (c : ℕ) (now wanted : State) (v k p w b ks : List Msg) → bring_voice c now.own wanted.own.voice ≡ v
    → bring_controls c 0 (apply_all now v).own.controls wanted.own.controls ≡ k
    → closed c (bring_each c now.own.params (changes now.own.params wanted.own.params)) ≡ p
    → where_differs now.own.pressure wanted.own.pressure (Pressure c wanted.own.pressure) ≡ w
    → where_differs now.own.bend wanted.own.bend (Bend c wanted.own.bend) ≡ b → bring_keys c 0 now.keys wanted.keys ≡ ks
    → bring c now wanted ≡ ((((v ++ k) ++ p) ++ w) ++ b) ++ ks
bring_by c now wanted v k p w b ks ev ek ep ew eb eks =
    let ps : List Msg = closed c (bring_each c now.own.params (changes now.own.params wanted.own.params)) in
    let ws : List Msg = where_differs now.own.pressure wanted.own.pressure (Pressure c wanted.own.pressure) in
    let bs : List Msg = where_differs now.own.bend wanted.own.bend (Bend c wanted.own.bend) in
    let kk : List Msg = bring_keys c 0 now.keys wanted.keys in
    ap (λ x. ((((x ++ bring_controls c 0 (apply_all now x).own.controls wanted.own.controls) ++ ps) ++ ws) ++ bs) ++ kk) ev
    ∙ ap (λ x. ((((v ++ x) ++ ps) ++ ws) ++ bs) ++ kk) ek
    ∙ ap (λ x. ((((v ++ k) ++ x) ++ ws) ++ bs) ++ kk) ep
    ∙ ap (λ x. ((((v ++ k) ++ p) ++ x) ++ bs) ++ kk) ew
    ∙ ap (λ x. ((((v ++ k) ++ p) ++ w) ++ x) ++ kk) eb
    ∙ ap (λ x. ((((v ++ k) ++ p) ++ w) ++ b) ++ x) eks

ends_once : (x : List Msg) → x ++ [] ≡ x
ends_once x = append-nil x

ends_twice : (x : List Msg) → (x ++ []) ++ [] ≡ x
ends_twice x = append-nil (x ++ []) ∙ append-nil x

ends_thrice : (x : List Msg) → ((x ++ []) ++ []) ++ [] ≡ x
ends_thrice x = append-nil ((x ++ []) ++ []) ∙ ends_twice x

ends_often : (x : List Msg) → (((x ++ []) ++ []) ++ []) ++ [] ≡ x
ends_often x = append-nil (((x ++ []) ++ []) ++ []) ∙ ends_thrice x

pub writes_nothing : (c : ℕ) (s : State) → IsWellFormed s → bring c s s ≡ []
writes_nothing c s h =
    bring_by c s s [] [] [] [] [] [] (voice_none c s.own) (controls_none c 0 s.own.controls) (params_none c s h) (differs_none s.own.pressure (Pressure c s.own.pressure)) (differs_none s.own.bend (Bend c s.own.bend)) (keys_none c 0 s.keys)

-- ---- controllers

-- a controller that is stored is below 120
kept_not : (a b d : Bool) → is_kept (cond a AllSoundOff (cond b ResetControllers (cond d AllNotesOff Ignored))) ≡ false
kept_not true b d = refl
kept_not false true d = refl
kept_not false false true = refl
kept_not false false false = refl

pub stored_low : (n : ℕ) → is_stored n ≡ true → n < 120
stored_low n e = elim (cases_lt n 120) [
  | inl h ↦ h
  | inr h ↦ absurd (false≢true (sym (high n h) ∙ e))
]
  where
    high : (n : ℕ) → 120 ≤ n → is_stored n ≡ false
    high n h =
        rw (
          ne_eqb n 6 (λ x. omega (arith, h, x)),
          ne_eqb n 38 (λ x. omega (arith, h, x)),
          ne_eqb n 96 (λ x. omega (arith, h, x)),
          ne_eqb n 97 (λ x. omega (arith, h, x)),
          ne_eqb n 98 (λ x. omega (arith, h, x)),
          ne_eqb n 99 (λ x. omega (arith, h, x)),
          ne_eqb n 100 (λ x. omega (arith, h, x)),
          ne_eqb n 101 (λ x. omega (arith, h, x)),
          lt-leb n 119 (omega (arith, h)),
        )
        (kept_not (nat_eq n 120) (nat_eq n 121) (nat_eq n 123 || (nat_eq n 124 || nat_eq n 127)))

pub writes_controller : (c n v : ℕ) (s : State) → IsWellFormed s → is_stored n ≡ true
    → bring c s (apply_state s (Control c n v)) ≡ where_differs (control_of s.own n) v (Control c n v)
writes_controller c n v s h e =
    let z : 0 + n ≡ n = omega arith in
    ap (bring c s) (stored_step s c n v e)
    ∙ bring_by c s (with_controls s (set s.own.controls n v)) [] (where_differs (control_of s.own n) v (Control c n v)) [] [] [] [] (voice_none c s.own)
    (controls_one c 0 n v s.own.controls (omega (arith, h.controls, stored_low n e)) ∙ ap (λ i. where_differs (control_of s.own n) v (Control c i v)) z)
    (params_none c s h) (differs_none s.own.pressure (Pressure c s.own.pressure)) (differs_none s.own.bend (Bend c s.own.bend)) (keys_none c 0 s.keys)
    ∙ ends_often (where_differs (control_of s.own n) v (Control c n v))

selected : (s : State) (n v : ℕ) (r : Role) → is_selecting r ≡ true
    → (sel : Selection) × ((let t : State = record { own = controlled s.own n v r; keys = reset_keys s.keys r } in t) ≡ at_params s sel s.own.params)
selected s n v NrpnLow e = (_, refl)
selected s n v NrpnHigh e = (_, refl)
selected s n v RpnLow e = (_, refl)
selected s n v RpnHigh e = (_, refl)
selected s n v Stored e = absurd (false≢true e)
selected s n v EntryHigh e = absurd (false≢true e)
selected s n v EntryLow e = absurd (false≢true e)
selected s n v AllSoundOff e = absurd (false≢true e)
selected s n v ResetControllers e = absurd (false≢true e)
selected s n v AllNotesOff e = absurd (false≢true e)
selected s n v Ignored e = absurd (false≢true e)

pub writes_no_number : (c n v : ℕ) (s : State) → IsWellFormed s → is_selecting (role n) ≡ true
    → bring c s (apply_state s (Control c n v)) ≡ []
writes_no_number c n v s h e = let t = selected s n v (role n) e in ap (bring c s) t.1 ∙ writes_nothing c s h

-- ---- data entry

bytes_by : (c : ℕ) (b : Bool) (h l v : ℕ) → (let p : Parameter = record { registered = b; high = h; low = l } in
    closed c ((choose_parameter c p ++ (Control c 6 v ∷ [] ++ [])) ++ []) ≡ choose_parameter c p ++ Control c 6 v ∷ Control c 101 127 ∷ Control c 100 127 ∷ [])
bytes_by c true h l v = refl
bytes_by c false h l v = refl

low_bytes_by : (c : ℕ) (b : Bool) (h l v : ℕ) → (let p : Parameter = record { registered = b; high = h; low = l } in
    closed c ((choose_parameter c p ++ ([] ++ Control c 38 v ∷ [])) ++ []) ≡ choose_parameter c p ++ Control c 38 v ∷ Control c 101 127 ∷ Control c 100 127 ∷ [])
low_bytes_by c true h l v = refl
low_bytes_by c false h l v = refl

-- a parameter that is given a value: nothing, or its one entry
put_changes : Laws → (ps : List Entry) (p : Parameter) (v : ℕ × ℕ) → Good ps
    → (let e : Entry = record { parameter = p; value = v } in IsEntered e)
    → ((value_of ps p ≡ v) × (changes ps (put p v ps) ≡ [])) ⊎ ((value_of ps p ≢ v) × (changes ps (put p v ps) ≡ record { parameter = p; value = v } ∷ []))
put_changes l ps p v g e =
    let qs : List Entry = put p v ps in
    let gc = l.form p v ps g.0 in
    let ge = entered_put p v ps e g.1 in
    let here : value_of qs p ≡ v = l.given p v ps g.0 in
    let d = changes_differ ps qs g.0 gc in
    let others : (q : Parameter) → rank q ≢ rank p → value_of ps q ≡ value_of qs q = λ q n. sym (l.others p q v ps n) in
    elim (cases_Bool (pair_eq (value_of ps p) v)) [
      | inl t ↦
          let x : value_of ps p ≡ v = pair_eq-true (value_of ps p) v t in
          let all : (q : Parameter) → value_of ps q ≡ value_of qs q = λ q. elim (cases_eq (rank q) (rank p)) [
            | inl r ↦ value_by ps q p r ∙ x ∙ sym here ∙ value_by qs p q (sym r)
            | inr r ↦ others q r
          ] in
          inl (x, none_changed ps qs (changes ps qs) d all)
      | inr t ↦
          let x : value_of ps p ≢ v = λ y. false≢true (sym t ∙ pair_eq-same (value_of ps p) v y) in
          inr (x, one_changed ps qs (changes ps qs) p e.small (entered_changes ps qs g.1 ge) (changes_apart ps qs g.0 gc) d others (changes_set ps qs p g.0 gc) (λ y. x (y ∙ here)) ∙ ap (λ y. record { parameter = p; value = y } ∷ []) here)
    ]

set_values : Laws → (c : ℕ) (s : State) (p : Parameter) (v : ℕ × ℕ) (ms : List Msg) → IsWellFormed s
    → closed c (bring_each c s.own.params (changes s.own.params (put p v s.own.params))) ≡ ms
    → bring c s (at_params s s.own.selection (put p v s.own.params)) ≡ ms
set_values l c s p v ms h e =
    bring_by c s (at_params s s.own.selection (put p v s.own.params)) [] [] ms [] [] [] (voice_none c s.own) (controls_none c 0 s.own.controls) e (differs_none s.own.pressure (Pressure c s.own.pressure)) (differs_none s.own.bend (Bend c s.own.bend)) (keys_none c 0 s.keys)
    ∙ ends_thrice ms

fits_value : (s : State) (p : Parameter) → IsWellFormed s → target s.own.selection ≡ Value p → IsSmall p × (is_settable p ≡ true)
fits_value s p h e = subst Fits e (fits s.own.selection ((h.rpn_high, h.rpn_low), (h.nrpn_high, h.nrpn_low)))

pub writes_high : Laws → (c v : ℕ) (s : State) (p : Parameter) → IsWellFormed s → v < 128 → target s.own.selection ≡ Value p
    → bring c s (apply_state s (Control c 6 v)) ≡ cond (nat_eq (value_of s.own.params p).0 v) [] (choose_parameter c p ++ Control c 6 v ∷ Control c 101 127 ∷ Control c 100 127 ∷ [])
writes_high l c v s p h low t =
    let ps : List Entry = s.own.params in
    let w : ℕ × ℕ = (v, (value_of ps p).1) in
    let f = fits_value s p h t in
    let r =
    put_changes l ps p w (h.canonical, h.entered) (record { small = f.0; settable = f.1; high = omega (arith, low); low = (value_bytes ps p h.entered).1 }) in
    ap (bring c s) (high_step s s.own.selection ps c v p t)
    ∙ set_values l c s p w (cond (nat_eq (value_of ps p).0 v) [] (choose_parameter c p ++ Control c 6 v ∷ Control c 101 127 ∷ Control c 100 127 ∷ [])) h (elim r [
      | inl k ↦ ap (λ es. closed c (bring_each c ps es)) k.1
          ∙ ap (λ b. cond b [] (choose_parameter c p ++ Control c 6 v ∷ Control c 101 127 ∷ Control c 100 127 ∷ [])) (sym (eq-eqb (value_of ps p).0 v (ap (λ x. x.0) k.0)))
      | inr k ↦
          let d : nat_eq (value_of ps p).0 v ≡ false = ne_eqb (value_of ps p).0 v (λ x. k.0 (ap (λ y. (y, (value_of ps p).1)) x)) in
          ap (λ es. closed c (bring_each c ps es)) k.1
          ∙ ap (λ b. closed c ((choose_parameter c p ++ (cond b [] (Control c 6 v ∷ []) ++ where_differs (value_of ps p).1 (value_of ps p).1 (Control c 38 (value_of ps p).1))) ++ [])) d
          ∙ ap (λ x. closed c ((choose_parameter c p ++ (Control c 6 v ∷ [] ++ x)) ++ [])) (differs_none (value_of ps p).1 (Control c 38 (value_of ps p).1))
          ∙ bytes_by c p.registered p.high p.low v
          ∙ ap (λ b. cond b [] (choose_parameter c p ++ Control c 6 v ∷ Control c 101 127 ∷ Control c 100 127 ∷ [])) (sym d)
    ])

pub writes_low : Laws → (c v : ℕ) (s : State) (p : Parameter) → IsWellFormed s → v < 128 → target s.own.selection ≡ Value p
    → bring c s (apply_state s (Control c 38 v)) ≡ cond (nat_eq (value_of s.own.params p).1 v) [] (choose_parameter c p ++ Control c 38 v ∷ Control c 101 127 ∷ Control c 100 127 ∷ [])
writes_low l c v s p h low t =
    let ps : List Entry = s.own.params in
    let w : ℕ × ℕ = ((value_of ps p).0, v) in
    let f = fits_value s p h t in
    let r =
    put_changes l ps p w (h.canonical, h.entered) (record { small = f.0; settable = f.1; high = (value_bytes ps p h.entered).0; low = omega (arith, low) }) in
    ap (bring c s) (low_step s s.own.selection ps c v p t)
    ∙ set_values l c s p w (cond (nat_eq (value_of ps p).1 v) [] (choose_parameter c p ++ Control c 38 v ∷ Control c 101 127 ∷ Control c 100 127 ∷ [])) h (elim r [
      | inl k ↦ ap (λ es. closed c (bring_each c ps es)) k.1
          ∙ ap (λ b. cond b [] (choose_parameter c p ++ Control c 38 v ∷ Control c 101 127 ∷ Control c 100 127 ∷ [])) (sym (eq-eqb (value_of ps p).1 v (ap (λ x. x.1) k.0)))
      | inr k ↦
          let d : nat_eq (value_of ps p).1 v ≡ false = ne_eqb (value_of ps p).1 v (λ x. k.0 (ap (λ y. ((value_of ps p).0, y)) x)) in
          ap (λ es. closed c (bring_each c ps es)) k.1
          ∙ ap (λ b. closed c ((choose_parameter c p ++ (where_differs (value_of ps p).0 (value_of ps p).0 (Control c 6 (value_of ps p).0) ++ cond b [] (Control c 38 v ∷ []))) ++ [])) d
          ∙ ap (λ x. closed c ((choose_parameter c p ++ (x ++ Control c 38 v ∷ [])) ++ [])) (differs_none (value_of ps p).0 (Control c 6 (value_of ps p).0))
          ∙ low_bytes_by c p.registered p.high p.low v
          ∙ ap (λ b. cond b [] (choose_parameter c p ++ Control c 38 v ∷ Control c 101 127 ∷ Control c 100 127 ∷ [])) (sym d)
    ])

-- ---- program, pressures and bend

pub writes_program : (c p : ℕ) (s : State) → IsWellFormed s
    → bring c s (apply_state s (Program c p)) ≡ cond (voice_eq s.own.voice (apply_state s (Program c p)).own.voice) [] (Program c p ∷ [])
writes_program c p s h =
    let w : Voice = record { high = control_of s.own 0; low = control_of s.own 32; program = p } in
    pick (voice_eq s.own.voice w) refl
  where
    pick : (b : Bool) → voice_eq s.own.voice (apply_state s (Program c p)).own.voice ≡ b
        → bring c s (apply_state s (Program c p)) ≡ cond b [] (Program c p ∷ [])
    pick true e =
        bring_by c s (apply_state s (Program c p)) [] [] [] [] [] []
        (ap (λ b. cond b [] ((where_differs (control_of s.own 0) (control_of s.own 0) (Control c 0 (control_of s.own 0)) ++ where_differs (control_of s.own 32) (control_of s.own 32) (Control c 32 (control_of s.own 32))) ++ Program c p ∷ [])) e)
        (controls_none c 0 s.own.controls) (params_none c s h) (differs_none s.own.pressure (Pressure c s.own.pressure)) (differs_none s.own.bend (Bend c s.own.bend)) (keys_none c 0 s.keys)
    pick false e =
        bring_by c s (apply_state s (Program c p)) (Program c p ∷ []) [] [] [] [] []
        (ap (λ b. cond b [] ((where_differs (control_of s.own 0) (control_of s.own 0) (Control c 0 (control_of s.own 0)) ++ where_differs (control_of s.own 32) (control_of s.own 32) (Control c 32 (control_of s.own 32))) ++ Program c p ∷ [])) e
        ∙ ap (λ x. (x ++ where_differs (control_of s.own 32) (control_of s.own 32) (Control c 32 (control_of s.own 32))) ++ Program c p ∷ []) (differs_none (control_of s.own 0) (Control c 0 (control_of s.own 0)))
        ∙ ap (λ x. x ++ Program c p ∷ []) (differs_none (control_of s.own 32) (Control c 32 (control_of s.own 32))))
        (controls_none c 0 s.own.controls) (params_none c s h) (differs_none s.own.pressure (Pressure c s.own.pressure)) (differs_none s.own.bend (Bend c s.own.bend)) (keys_none c 0 s.keys)

pub writes_pressure : (c v : ℕ) (s : State) → IsWellFormed s
    → bring c s (apply_state s (Pressure c v)) ≡ where_differs s.own.pressure v (Pressure c v)
writes_pressure c v s h =
    bring_by c s (apply_state s (Pressure c v)) [] [] [] (where_differs s.own.pressure v (Pressure c v)) [] [] (voice_none c s.own) (controls_none c 0 s.own.controls) (params_none c s h) refl (differs_none s.own.bend (Bend c s.own.bend)) (keys_none c 0 s.keys)
    ∙ ends_twice (where_differs s.own.pressure v (Pressure c v))

pub writes_bend : (c v : ℕ) (s : State) → IsWellFormed s
    → bring c s (apply_state s (Bend c v)) ≡ where_differs s.own.bend v (Bend c v)
writes_bend c v s h =
    bring_by c s (apply_state s (Bend c v)) [] [] [] [] (where_differs s.own.bend v (Bend c v)) [] (voice_none c s.own) (controls_none c 0 s.own.controls) (params_none c s h) (differs_none s.own.pressure (Pressure c s.own.pressure)) refl (keys_none c 0 s.keys)
    ∙ ends_once (where_differs s.own.bend v (Bend c v))

pub writes_key_pressure : (c k v : ℕ) (s : State) → IsWellFormed s → k < 128
    → bring c s (apply_state s (KeyPressure c k v)) ≡ where_differs (get_or s.keys k 0) v (KeyPressure c k v)
writes_key_pressure c k v s h low =
    let z : 0 + k ≡ k = omega arith in
    bring_by c s (apply_state s (KeyPressure c k v)) [] [] [] [] [] (where_differs (get_or s.keys k 0) v (KeyPressure c k v)) (voice_none c s.own) (controls_none c 0 s.own.controls) (params_none c s h) (differs_none s.own.pressure (Pressure c s.own.pressure)) (differs_none s.own.bend (Bend c s.own.bend))
    (keys_one c 0 k v s.keys (omega (arith, h.keys, low)) ∙ ap (λ i. where_differs (get_or s.keys k 0) v (KeyPressure c i v)) z)
