-- What each group of the messages makes of a state.
use Rattle.std.proofs.Common.{◌≡◌, ℕ, suc, ◌+◌, List, [], ◌∷◌, ◌++◌, Bool, true, false, cond, ◌&&◌, nat_eq, eqb, refl, ap, sym, ◌∙◌, arith, length, set, get_or}
use Rattle.std.proofs.lemmas.Bool.{eqb-true, and_parts, false≢true, true_from_ne_false}
use Rattle.std.proofs.lemmas.List.{get_or-set_same, get_or-set_other, length-set}
use Rattle.mt_base.specs.declared.event.Msg.{Msg}
use Rattle.mt_base.specs.declared.event.Msg.TheVariants.{KeyPressure, Control, Program}
use Rattle.midi_model.specs.Params.{Parameter, Entry, pair_eq, value_of, put}
use Rattle.midi_model.specs.Channel.{State, Selection, Voice, Role, Stored, Value, role, target_in, target, with_high, with_low, controlled, reset_keys, control_of, apply_state}
use Rattle.midi_model.specs.WellFormed.{is_kept, is_stored, is_value, is_settable, IsEntered, AreEntered}
use Rattle.midi_model.specs.Bring.{apply_all, where_differs, voice_eq, bring_voice, bring_controls, choose_parameter, bring_parameter, bring_each, closed, bring_keys}
use Rattle.state_laws.proofs.Keeping.{target_by}

pub apply_all-append : (s : State) (a b : List Msg) → apply_all s (a ++ b) ≡ apply_all (apply_all s a) b
apply_all-append s [] b = refl
apply_all-append s (m ∷ a) b = apply_all-append (apply_state s m) a b

-- one group, then the next
pub next : (s t : State) (a b : List Msg) → apply_all s a ≡ t → apply_all s (a ++ b) ≡ apply_all t b
next s t a b e = apply_all-append s a b ∙ ap (λ x. apply_all x b) e

-- ---- states that differ in a part

abbrev pub with_controls : State → List ℕ → State
with_controls s cs = record { own = record s.own { controls = cs }; keys = s.keys }

abbrev pub voiced : State → List ℕ → Voice → State
voiced s cs v = record { own = record s.own { controls = cs; voice = v }; keys = s.keys }

abbrev pub at_params : State → Selection → List Entry → State
at_params s sel ps = record { own = record s.own { selection = sel; params = ps }; keys = s.keys }

abbrev pub with_keys : State → List ℕ → State
with_keys s ks = record { own = s.own; keys = ks }

-- ---- the voice

abbrev pub high_bank : List ℕ → ℕ → List ℕ
high_bank cs v = cond (nat_eq (get_or cs 0 0) v) cs (set cs 0 v)

abbrev pub banks : List ℕ → Voice → List ℕ
banks cs v = cond (nat_eq (get_or cs 32 0) v.low) (high_bank cs v.high) (set (high_bank cs v.high) 32 v.low)

-- the controllers after a voice was chosen
abbrev pub voice_controls : List ℕ → Voice → Voice → List ℕ
voice_controls cs now v = cond (voice_eq now v) cs (banks cs v)

pub same_voice : (a b : Voice) → voice_eq a b ≡ true → a ≡ b
same_voice a b e =
    let t = and_parts (eqb a.high b.high) (eqb a.low b.low && eqb a.program b.program) e in
    let u = and_parts (eqb a.low b.low) (eqb a.program b.program) t.1 in
    let h : a.high ≡ b.high = eqb-true a.high b.high t.0 in
    let l : a.low ≡ b.low = eqb-true a.low b.low u.0 in
    let p : a.program ≡ b.program = eqb-true a.program b.program u.1 in
    ap (λ x. record a { high = x }) h ∙ ap (λ x. record a { high = b.high; low = x }) l ∙ ap (λ x. record b { program = x }) p

program_set : (s : State) (c : ℕ) (cs : List ℕ) (v : Voice) → get_or cs 0 0 ≡ v.high → get_or cs 32 0 ≡ v.low
    → apply_state (with_controls s cs) (Program c v.program) ≡ voiced s cs v
program_set s c cs v h l =
    ap (λ x. voiced s cs (record { high = x; low = get_or cs 32 0; program = v.program })) h ∙ ap (λ x. voiced s cs (record v { low = x })) l

voice_by : (s : State) (c : ℕ) (v : Voice) (high low : Bool) → length s.own.controls ≡ 120
    → nat_eq (get_or s.own.controls 0 0) v.high ≡ high → nat_eq (get_or s.own.controls 32 0) v.low ≡ low
    → (let cs : List ℕ = s.own.controls in let one : List ℕ = cond high cs (set cs 0 v.high) in let two : List ℕ = cond low one (set one 32 v.low) in
    apply_all s ((cond high [] (Control c 0 v.high ∷ []) ++ cond low [] (Control c 32 v.low ∷ [])) ++ Program c v.program ∷ []) ≡ voiced s two v)
voice_by s c v true true n h l =
    program_set s c s.own.controls v (eqb-true (get_or s.own.controls 0 0) v.high h) (eqb-true (get_or s.own.controls 32 0) v.low l)
voice_by s c v true false n h l =
    let cs : List ℕ = s.own.controls in
    program_set s c (set cs 32 v.low) v (get_or-set_other cs 32 0 v.low 0 (λ x. omega (arith, x)) ∙ eqb-true (get_or cs 0 0) v.high h) (get_or-set_same cs 32 v.low 0 (omega (arith, n)))
voice_by s c v false true n h l =
    let cs : List ℕ = s.own.controls in
    program_set s c (set cs 0 v.high) v (get_or-set_same cs 0 v.high 0 (omega (arith, n))) (get_or-set_other cs 0 32 v.high 0 (λ x. omega (arith, x)) ∙ eqb-true (get_or cs 32 0) v.low l)
voice_by s c v false false n h l =
    let cs : List ℕ = s.own.controls in
    let one : List ℕ = set cs 0 v.high in
    program_set s c (set one 32 v.low) v (get_or-set_other one 32 0 v.low 0 (λ x. omega (arith, x)) ∙ get_or-set_same cs 0 v.high 0 (omega (arith, n))) (get_or-set_same one 32 v.low 0 (omega (arith, n, length-set cs 0 v.high)))

pub voice_reach : (s : State) (c : ℕ) (v : Voice) → length s.own.controls ≡ 120
    → apply_all s (bring_voice c s.own v) ≡ voiced s (voice_controls s.own.controls s.own.voice v) v
voice_reach s c v n = pick (voice_eq s.own.voice v) refl
  where
    pick : (b : Bool) → voice_eq s.own.voice v ≡ b
        → apply_all s (cond b [] ((where_differs (control_of s.own 0) v.high (Control c 0 v.high) ++ where_differs (control_of s.own 32) v.low (Control c 32 v.low)) ++ Program c v.program ∷ []))
        ≡ voiced s (cond b s.own.controls (banks s.own.controls v)) v
    pick true e = ap (λ x. voiced s s.own.controls x) (same_voice s.own.voice v e)
    pick false e = voice_by s c v (nat_eq (get_or s.own.controls 0 0) v.high) (nat_eq (get_or s.own.controls 32 0) v.low) n refl refl

-- ---- the controllers

pub stored_role : (r : Role) → is_kept r ≡ true → r ≡ Stored
stored_role Stored e = refl
stored_role _ e = absurd cc

pub stored_step : (s : State) (c n v : ℕ) → is_stored n ≡ true
    → apply_state s (Control c n v) ≡ with_controls s (set s.own.controls n v)
stored_step s c n v e = ap (λ r. let t : State = record { own = controlled s.own n v r; keys = reset_keys s.keys r } in t) (stored_role (role n) e)

-- The lists stand at place n of a list, for which K stands.
pub controls_reach : (s : State) (c n : ℕ) (K : List ℕ → List ℕ)
    → ((l : List ℕ) (i y : ℕ) → set (K l) (n + i) y ≡ K (set l i y)) → (xs ys : List ℕ) → length xs ≡ length ys
    → ((i : ℕ) → is_stored (n + i) ≡ false → get_or xs i 0 ≡ get_or ys i 0)
    → apply_all (with_controls s (K xs)) (bring_controls c n xs ys) ≡ with_controls s (K ys)
controls_reach s c n K h [] [] e u = refl
controls_reach s c n K h [] (y ∷ ys) e u = absurd (omega (arith, e))
controls_reach s c n K h (x ∷ xs) [] e u = absurd (omega (arith, e))
controls_reach s c n K h (x ∷ xs) (y ∷ ys) e u =
    let first : n + 0 ≡ n = omega arith in
    let shift : (i : ℕ) → (n + 1) + i ≡ n + suc i = λ i. omega arith in
    let rest : apply_all (with_controls s (K (y ∷ xs))) (bring_controls c (n + 1) xs ys) ≡ with_controls s (K (y ∷ ys)) =
    controls_reach s c (n + 1) (λ l. K (y ∷ l)) (λ l i z. ap (λ j. set (K (y ∷ l)) j z) (shift i) ∙ h (y ∷ l) (suc i) z) xs ys (omega (arith, e)) (λ i t. u (suc i) (ap is_stored (sym (shift i)) ∙ t)) in
    pick (nat_eq x y) refl first rest
  where
    pick : (b : Bool) → nat_eq x y ≡ b → n + 0 ≡ n
        → apply_all (with_controls s (K (y ∷ xs))) (bring_controls c (n + 1) xs ys) ≡ with_controls s (K (y ∷ ys))
        → apply_all (with_controls s (K (x ∷ xs))) (cond b [] (Control c n y ∷ []) ++ bring_controls c (n + 1) xs ys) ≡ with_controls s (K (y ∷ ys))
    pick true t first rest = ap (λ z. apply_all (with_controls s (K (z ∷ xs))) (bring_controls c (n + 1) xs ys)) (eqb-true x y t) ∙ rest
    pick false t first rest =
        let stored : is_stored n ≡ true =
        true_from_ne_false (is_stored n) (λ f. false≢true (sym t ∙ ap (λ z. nat_eq z y) (u 0 (ap is_stored first ∙ f)) ∙ same y)) in
        ap (λ z. apply_all z (bring_controls c (n + 1) xs ys)) (stored_step (with_controls s (K (x ∷ xs))) c n y stored ∙ ap (λ l. with_controls s l) (ap (λ j. set (K (x ∷ xs)) j y) (sym first) ∙ h (x ∷ xs) 0 y))
        ∙ rest
      where
        same : (y : ℕ) → nat_eq y y ≡ true
        same y = grind arith

-- ---- the key pressures

pub keys_reach : (s : State) (c n : ℕ) (K : List ℕ → List ℕ) → ((l : List ℕ) (i y : ℕ) → set (K l) (n + i) y ≡ K (set l i y))
    → (xs ys : List ℕ) → length xs ≡ length ys
    → apply_all (with_keys s (K xs)) (bring_keys c n xs ys) ≡ with_keys s (K ys)
keys_reach s c n K h [] [] e = refl
keys_reach s c n K h [] (y ∷ ys) e = absurd (omega (arith, e))
keys_reach s c n K h (x ∷ xs) [] e = absurd (omega (arith, e))
keys_reach s c n K h (x ∷ xs) (y ∷ ys) e =
    let first : n + 0 ≡ n = omega arith in
    let shift : (i : ℕ) → (n + 1) + i ≡ n + suc i = λ i. omega arith in
    let rest : apply_all (with_keys s (K (y ∷ xs))) (bring_keys c (n + 1) xs ys) ≡ with_keys s (K (y ∷ ys)) =
    keys_reach s c (n + 1) (λ l. K (y ∷ l)) (λ l i z. ap (λ j. set (K (y ∷ l)) j z) (shift i) ∙ h (y ∷ l) (suc i) z) xs ys (omega (arith, e)) in
    pick (nat_eq x y) refl first rest
  where
    pick : (b : Bool) → nat_eq x y ≡ b → n + 0 ≡ n
        → apply_all (with_keys s (K (y ∷ xs))) (bring_keys c (n + 1) xs ys) ≡ with_keys s (K (y ∷ ys))
        → apply_all (with_keys s (K (x ∷ xs))) (cond b [] (KeyPressure c n y ∷ []) ++ bring_keys c (n + 1) xs ys) ≡ with_keys s (K (y ∷ ys))
    pick true t first rest = ap (λ z. apply_all (with_keys s (K (z ∷ xs))) (bring_keys c (n + 1) xs ys)) (eqb-true x y t) ∙ rest
    pick false t first rest =
        ap (λ l. apply_all (with_keys s l) (bring_keys c (n + 1) xs ys)) (ap (λ j. set (K (x ∷ xs)) j y) (sym first) ∙ h (x ∷ xs) 0 y) ∙ rest

-- ---- the parameters

-- the selection after a parameter was chosen
abbrev pub choose : Selection → Parameter → Selection
choose sel p =
    cond p.registered (record { registered = true; rpn = (p.high, p.low); nrpn = sel.nrpn }) (record { registered = false; rpn = sel.rpn; nrpn = (p.high, p.low) })

abbrev pub chosen_all : Selection → List Entry → Selection
chosen_all sel [] = sel
chosen_all sel (e ∷ es) = chosen_all (choose sel e.parameter) es

choose_by : (s : State) (sel : Selection) (ps : List Entry) (c : ℕ) (b : Bool) (h l : ℕ) → (let p : Parameter = record { registered = b; high = h; low = l } in apply_all (at_params s sel ps) (choose_parameter c p) ≡ at_params s (choose sel p) ps)
choose_by s sel ps c true h l = refl
choose_by s sel ps c false h l = refl

pub choose_reach : (s : State) (sel : Selection) (ps : List Entry) (c : ℕ) (p : Parameter)
    → apply_all (at_params s sel ps) (choose_parameter c p) ≡ at_params s (choose sel p) ps
choose_reach s sel ps c p = choose_by s sel ps c p.registered p.high p.low

value_by_tests : (p : Parameter) (r s t : Bool) → is_value (target_by p r s t) ≡ true → target_by p r s t ≡ Value p
value_by_tests p true s t e = absurd cc
value_by_tests p false true t e = absurd cc
value_by_tests p false false true e = absurd cc
value_by_tests p false false false e = refl

target_value : (p : Parameter) → is_settable p ≡ true → target_in p.registered (p.high, p.low) ≡ Value p
target_value p e =
    value_by_tests p (pair_eq (p.high, p.low) (127, 127)) (p.registered && pair_eq (p.high, p.low) (0, 3)) (p.registered && pair_eq (p.high, p.low) (0, 6)) e

choose_target_by : (sel : Selection) (b : Bool) (h l : ℕ) → (let p : Parameter = record { registered = b; high = h; low = l } in target (choose sel p) ≡ target_in b (h, l))
choose_target_by sel true h l = refl
choose_target_by sel false h l = refl

pub choose_target : (sel : Selection) (p : Parameter) → is_settable p ≡ true → target (choose sel p) ≡ Value p
choose_target sel p e = choose_target_by sel p.registered p.high p.low ∙ target_value p e

-- the list after the two bytes were entered where they differ
abbrev pub high_set : ℕ × ℕ → Entry → List Entry → List Entry
high_set v e ps = cond (nat_eq v.0 e.value.0) ps (put e.parameter (e.value.0, (value_of ps e.parameter).1) ps)

abbrev pub low_set : ℕ × ℕ → Entry → List Entry → List Entry
low_set v e ps = cond (nat_eq v.1 e.value.1) ps (put e.parameter ((value_of ps e.parameter).0, e.value.1) ps)

abbrev pub entered : ℕ × ℕ → Entry → List Entry → List Entry
entered v e ps = low_set v e (high_set v e ps)

abbrev pub entered_all : List Entry → List Entry → List Entry → List Entry
entered_all now [] ps = ps
entered_all now (e ∷ es) ps = entered_all now es (entered (value_of now e.parameter) e ps)

pub high_step : (s : State) (sel : Selection) (ps : List Entry) (c v : ℕ) (p : Parameter) → target sel ≡ Value p
    → apply_state (at_params s sel ps) (Control c 6 v) ≡ at_params s sel (put p (v, (value_of ps p).1) ps)
high_step s sel ps c v p e = ap (λ t. at_params s sel (with_high v t ps)) e

pub low_step : (s : State) (sel : Selection) (ps : List Entry) (c v : ℕ) (p : Parameter) → target sel ≡ Value p
    → apply_state (at_params s sel ps) (Control c 38 v) ≡ at_params s sel (put p ((value_of ps p).0, v) ps)
low_step s sel ps c v p e = ap (λ t. at_params s sel (with_low v t ps)) e

values_by : (s : State) (sel : Selection) (ps : List Entry) (c : ℕ) (e : Entry) (a b : Bool) → target sel ≡ Value e.parameter
    → (let one : List Entry = cond a ps (put e.parameter (e.value.0, (value_of ps e.parameter).1) ps) in
    apply_all (at_params s sel ps) (cond a [] (Control c 6 e.value.0 ∷ []) ++ cond b [] (Control c 38 e.value.1 ∷ [])) ≡ at_params s sel (cond b one (put e.parameter ((value_of one e.parameter).0, e.value.1) one)))
values_by s sel ps c e true true t = refl
values_by s sel ps c e true false t = low_step s sel ps c e.value.1 e.parameter t
values_by s sel ps c e false true t = high_step s sel ps c e.value.0 e.parameter t
values_by s sel ps c e false false t =
    let one : List Entry = put e.parameter (e.value.0, (value_of ps e.parameter).1) ps in
    ap (λ x. apply_state x (Control c 38 e.value.1)) (high_step s sel ps c e.value.0 e.parameter t) ∙ low_step s sel one c e.value.1 e.parameter t

pub parameter_reach : (s : State) (sel : Selection) (ps : List Entry) (c : ℕ) (v : ℕ × ℕ) (e : Entry) → IsEntered e
    → apply_all (at_params s sel ps) (bring_parameter c v e) ≡ at_params s (choose sel e.parameter) (entered v e ps)
parameter_reach s sel ps c v e h =
    next (at_params s sel ps) (at_params s (choose sel e.parameter) ps) (choose_parameter c e.parameter) (where_differs v.0 e.value.0 (Control c 6 e.value.0) ++ where_differs v.1 e.value.1 (Control c 38 e.value.1)) (choose_reach s sel ps c e.parameter)
    ∙ values_by s (choose sel e.parameter) ps c e (nat_eq v.0 e.value.0) (nat_eq v.1 e.value.1) (choose_target sel e.parameter h.settable)

pub each_reach : (s : State) (sel : Selection) (ps : List Entry) (c : ℕ) (now es : List Entry) → AreEntered es
    → apply_all (at_params s sel ps) (bring_each c now es) ≡ at_params s (chosen_all sel es) (entered_all now es ps)
each_reach s sel ps c now [] h = refl
each_reach s sel ps c now (e ∷ es) h =
    next (at_params s sel ps) (at_params s (choose sel e.parameter) (entered (value_of now e.parameter) e ps)) (bring_parameter c (value_of now e.parameter) e) (bring_each c now es) (parameter_reach s sel ps c (value_of now e.parameter) e h.0)
    ∙ each_reach s (choose sel e.parameter) (entered (value_of now e.parameter) e ps) c now es h.1

-- ---- the end of the parameters

abbrev pub shut : Selection → Selection
shut sel = record { registered = true; rpn = (127, 127); nrpn = sel.nrpn }

abbrev pub closing : ℕ → List Msg
closing c = Control c 101 127 ∷ Control c 100 127 ∷ []

abbrev pub selection_after : Selection → List Entry → Selection
selection_after sel [] = sel
selection_after sel (e ∷ es) = shut (chosen_all sel (e ∷ es))

closed_by : (c : ℕ) (b : Bool) (h l : ℕ) (x y : List Msg) → (let p : Parameter = record { registered = b; high = h; low = l } in closed c ((choose_parameter c p ++ x) ++ y) ≡ ((choose_parameter c p ++ x) ++ y) ++ closing c)
closed_by c true h l x y = refl
closed_by c false h l x y = refl

-- where parameters are set, the selection is closed
pub closed_each : (c : ℕ) (now : List Entry) (e : Entry) (es : List Entry)
    → closed c (bring_each c now (e ∷ es)) ≡ bring_each c now (e ∷ es) ++ closing c
closed_each c now e es = closed_by c e.parameter.registered e.parameter.high e.parameter.low _ (bring_each c now es)

pub closed_reach : (s : State) (sel : Selection) (ps : List Entry) (c : ℕ) (now es : List Entry) → AreEntered es
    → apply_all (at_params s sel ps) (closed c (bring_each c now es)) ≡ at_params s (selection_after sel es) (entered_all now es ps)
closed_reach s sel ps c now [] h = refl
closed_reach s sel ps c now (e ∷ es) h =
    ap (λ ms. apply_all (at_params s sel ps) ms) (closed_each c now e es)
    ∙ next (at_params s sel ps) (at_params s (chosen_all sel (e ∷ es)) (entered_all now (e ∷ es) ps)) (bring_each c now (e ∷ es)) (closing c) (each_reach s sel ps c now (e ∷ es) h)
