-- What the messages are, one by one, and how many parameters count after each.
use Rattle.std.proofs.Common.{◌≡◌, ◌≢◌, inl, inr, ℕ, zero, suc, ◌+◌, ◌≤◌, ◌<◌, List, [], ◌∷◌, ◌++◌, Bool, true, false, cond, ◌||◌, nat_eq, nat_lt, refl, ap, sym, ◌∙◌, subst, arith, length, get_or, take, append_assoc}
use Rattle.std.specs.List.{filter, AllByRecursion}
use Rattle.std.specs.Prelude.{map, max}
use Rattle.std.proofs.lemmas.Bool.{cases_order, cases_eq, cond_both, true_from_ne_false, false≢true}
use Rattle.mt_base.specs.Midi.{channel_of}
use Rattle.mt_base.specs.Valid.{IsValidMsg}
use Rattle.mt_base.specs.declared.event.Msg.{Msg}
use Rattle.mt_base.specs.declared.event.Msg.TheVariants.{KeyPressure, Control, Program, Pressure, Bend}
use Rattle.midi_model.specs.Params.{Parameter, Entry, rank, counts, default_value, value_of, put, IsAbove, IsCanonical}
use Rattle.midi_model.specs.Channel.{Channel, State, Selection, Voice, Role, Target, Value, role, target, with_high, with_low, controlled, counted, apply_state}
use Rattle.midi_model.specs.WellFormed.{is_stored, is_value, IsEntered, AreEntered, IsWellFormed}
use Rattle.midi_model.specs.Bring.{apply_all, where_differs, voice_eq, bring_voice, bring_controls, choose_parameter, bring_parameter, bring_each, closed, bring_keys, bring, made_default, to_default, to_other}
use Rattle.state_laws.specs.Reached.{changed}
use Rattle.state_laws.specs.Sent.{Along, only_sets, only_sets_by, OnlySets}
use Rattle.state_laws.proofs.Laws.{Laws}
use Rattle.state_laws.proofs.Keeping.{Good, value_bytes}
use Rattle.state_laws.proofs.Values.{skip, found, absent, default_by, value_by, not_default, wants_default, wants_other, defaults_set, entered_to_default, entered_to_other, apart_filter, apart_default}
use Rattle.state_laws.proofs.Steps.{next, stored_role, at_params, choose, choose_target, high_set, low_set, entered, entered_all, chosen_all, parameter_reach, each_reach, choose_reach, closing, closed_each, high_step}
use Rattle.state_laws.proofs.Setting.{all_set, fresh_same, changed_all, entered_changes}
use Rattle.state_laws.proofs.Reaching.{first_state, second_state, third_state, fourth_state, fifth_state, first_reach, second_reach, third_reach, pressed_reach, bent_reach, bring_is, sized_voice, sized}

-- ---- how many count

abbrev pub count : List Entry → ℕ
count es = length (filter counts es)

counts_by : (e f : Entry) → rank e.parameter ≡ rank f.parameter → counts e ≡ counts f
counts_by e f h = ap (λ n. nat_lt 6 n || nat_eq n 4) h

pub count_one : (e : Entry) (es : List Entry) → count (e ∷ es) ≡ cond (counts e) (suc (count es)) (count es)
count_one e es = pick (counts e)
  where
    pick : (b : Bool) → length (cond b (e ∷ filter counts es) (filter counts es)) ≡ cond b (suc (count es)) (count es)
    pick true = refl
    pick false = refl

count_more : (e : Entry) (es : List Entry) → count es ≤ count (e ∷ es)
count_more e es = pick (counts e)
  where
    pick : (b : Bool) → count es ≤ length (cond b (e ∷ filter counts es) (filter counts es))
    pick true = omega arith
    pick false = omega arith

-- every parameter that is away from its default is so in the second list too
abbrev pub Within : List Entry → List Entry → Type 0
Within a b = (q : Parameter) → value_of b q ≡ default_value q → value_of a q ≡ default_value q

first_in : (e : Entry) (es b : List Entry) → IsCanonical (e ∷ es) → Within (e ∷ es) b
    → value_of b e.parameter ≡ default_value e.parameter → ⊥
first_in e es b h w x = not_default e es h (sym (found e es e.parameter refl) ∙ w e.parameter x)

within_rest : (a : List Entry) (f : Entry) (fs : List Entry) → Within a (f ∷ fs) → IsAbove (rank f.parameter) a → Within a fs
within_rest a f fs w h q x = elim (cases_eq (rank f.parameter) (rank q)) [
  | inl y ↦ absent a q (rank f.parameter) h (omega (arith, y))
  | inr y ↦ w q (skip f fs q y ∙ x)
]

above_from : (n : ℕ) (e : Entry) (es : List Entry) → n < rank e.parameter → IsCanonical (e ∷ es) → IsAbove n (e ∷ es)
above_from n e es l h = (l, above_less es (rank e.parameter) n (omega (arith, l)) h.1)
  where
    above_less : (es : List Entry) (n k : ℕ) → k ≤ n → IsAbove n es → IsAbove k es
    above_less [] n k h a = tt
    above_less (e ∷ es) n k h a = (omega (arith, h, a.0), above_less es n k h a.1)

within_both : (e f : Entry) (es fs : List Entry) → rank e.parameter ≡ rank f.parameter → IsCanonical (e ∷ es)
    → Within (e ∷ es) (f ∷ fs) → Within es fs
within_both e f es fs r h w q x = elim (cases_eq (rank e.parameter) (rank q)) [
  | inl y ↦ absent es q (rank e.parameter) h.1 (omega (arith, y))
  | inr y ↦ sym (skip e es q y) ∙ w q (skip f fs q (λ z. y (r ∙ z)) ∙ x)
]

pub within_count : (a b : List Entry) → IsCanonical a → IsCanonical b → Within a b → count a ≤ count b
within_count [] b ha hb w = omega arith
within_count (e ∷ es) [] ha hb w = absurd (first_in e es [] ha w refl)
within_count (e ∷ es) (f ∷ fs) ha hb w = elim (cases_order (rank e.parameter) (rank f.parameter)) [
  | inl r ↦
      let ih : count es ≤ count fs = within_count es fs ha.2 hb.2 (within_both e f es fs r ha w) in
      rw (count_one e es, count_one f fs, counts_by e f r) (both (counts f) ih)
  | inr s ↦ elim s [
    | inl r ↦ absurd (first_in e es (f ∷ fs) ha w (skip f fs e.parameter (λ x. omega (arith, r, x)) ∙ absent fs e.parameter (rank f.parameter) hb.1 (omega (arith, r))))
    | inr r ↦
        let ih : count (e ∷ es) ≤ count fs =
        within_count (e ∷ es) fs ha hb.2 (within_rest (e ∷ es) f fs w (above_from (rank f.parameter) e es r ha)) in
        let more : count fs ≤ count (f ∷ fs) = count_more f fs in
        omega (arith, ih, more)
  ]
]
  where
    both : (b : Bool) → count es ≤ count fs → cond b (suc (count es)) (count es) ≤ cond b (suc (count fs)) (count fs)
    both true h = omega (arith, h)
    both false h = h

-- ---- one group of parameters: those that are away from their defaults are so in B

record Phase (b ps : List Entry) : Type 0 where
  canonical : IsCanonical ps
  within : Within ps b

phase_put : Laws → (b ps : List Entry) (p : Parameter) (v : ℕ × ℕ) → value_of b p ≢ default_value p → Phase b ps
    → Phase b (put p v ps)
phase_put l b ps p v d h = record {
  canonical = l.form p v ps h.canonical;
  within = λ q x. elim (cases_eq (rank q) (rank p)) [
    | inl y ↦ absurd (d (value_by b p q (sym y) ∙ x ∙ default_by q p y))
    | inr y ↦ l.others p q v ps y ∙ h.within q x
  ];
}

phase_count : (b ps : List Entry) → IsCanonical b → Phase b ps → count ps ≤ count b
phase_count b ps hb h = within_count ps b h.canonical hb h.within

phase_high : Laws → (b ps : List Entry) (e : Entry) (v : ℕ × ℕ) → value_of b e.parameter ≢ default_value e.parameter
    → Phase b ps → Phase b (high_set v e ps)
phase_high l b ps e v d h =
    cond_both (nat_eq v.0 e.value.0) ps (put e.parameter (e.value.0, (value_of ps e.parameter).1) ps) (Phase b) (λ _. h) (λ _. phase_put l b ps e.parameter (e.value.0, (value_of ps e.parameter).1) d h)

phase_low : Laws → (b ps : List Entry) (e : Entry) (v : ℕ × ℕ) → value_of b e.parameter ≢ default_value e.parameter
    → Phase b ps → Phase b (low_set v e ps)
phase_low l b ps e v d h =
    cond_both (nat_eq v.1 e.value.1) ps (put e.parameter ((value_of ps e.parameter).0, e.value.1) ps) (Phase b) (λ _. h) (λ _. phase_put l b ps e.parameter ((value_of ps e.parameter).0, e.value.1) d h)

phase_entered : Laws → (b ps : List Entry) (e : Entry) (v : ℕ × ℕ) → value_of b e.parameter ≢ default_value e.parameter
    → Phase b ps → Phase b (entered v e ps)
phase_entered l b ps e v d h = phase_low l b (high_set v e ps) e v d (phase_high l b ps e v d h)

-- the parameters to be set are away from their defaults in B
abbrev pub Sticks : List Entry → List Entry → Type 0
Sticks b [] = Unit {0}
Sticks b (e ∷ es) = (value_of b e.parameter ≢ default_value e.parameter) × Sticks b es

sticks_more : (e : Entry) (es fs : List Entry) → IsAbove (rank e.parameter) fs → Sticks es fs → Sticks (e ∷ es) fs
sticks_more e es [] a h = tt
sticks_more e es (f ∷ fs) a h = (λ x. h.0 (sym (skip e es f.parameter (λ y. omega (arith, a.0, y))) ∙ x), sticks_more e es fs a.1 h.1)

pub sticks_all : (es : List Entry) → IsCanonical es → Sticks es es
sticks_all [] h = tt
sticks_all (e ∷ es) h = (λ x. not_default e es h (sym (found e es e.parameter refl) ∙ x), sticks_more e es es h.1 (sticks_all es h.2))

sticks_filter : (b : List Entry) (p : Entry → Bool) (es : List Entry) → Sticks b es → Sticks b (filter p es)
sticks_filter b p [] h = tt
sticks_filter b p (e ∷ es) h =
    cond_both (p e) (e ∷ filter p es) (filter p es) (Sticks b) (λ _. (h.0, sticks_filter b p es h.1)) (λ _. sticks_filter b p es h.1)

sticks_default : (b es : List Entry) → Sticks b es → Sticks b (map made_default es)
sticks_default b [] h = tt
sticks_default b (e ∷ es) h = (h.0, sticks_default b es h.1)

-- ---- messages one by one

pub along_append : (P : State → Msg → Type 0) (s t : State) (a b : List Msg) → apply_all s a ≡ t → Along P s a → Along P t b
    → Along P s (a ++ b)
along_append P s t [] b e h k = subst (λ (x : State). Along P x b) (sym e) k
along_append P s t (m ∷ a) b e h k = (h.0, along_append P (apply_state s m) t a b e h.1 k)

-- a sets message to this channel, valid, after which at most n parameters count
pub record Careful (c n : ℕ) (s : State) (m : Msg) : Type 0 where
  pub channel : channel_of m ≡ c
  pub sets : only_sets s m ≡ true
  pub valid : IsValidMsg m
  pub room : counted (apply_state s m).own ≤ n

-- the voice
along_voice : (c n : ℕ) (s : State) (v : Voice) (a h l : Bool) → c ≤ 15 → v.high ≤ 127 → v.low ≤ 127 → v.program ≤ 127
    → counted s.own ≤ n
    → Along (Careful c n) s (cond a [] ((cond h [] (Control c 0 v.high ∷ []) ++ cond l [] (Control c 32 v.low ∷ [])) ++ Program c v.program ∷ []))
along_voice c n s v true h l ok vh vl vp r = tt
along_voice c n s v false true true ok vh vl vp r = (record { channel = refl; sets = refl; valid = (ok, vp); room = r }, tt)
along_voice c n s v false true false ok vh vl vp r =
    (record { channel = refl; sets = refl; valid = (ok, omega arith, vl); room = r }, (record { channel = refl; sets = refl; valid = (ok, vp); room = r }, tt))
along_voice c n s v false false true ok vh vl vp r =
    (record { channel = refl; sets = refl; valid = (ok, omega arith, vh); room = r }, (record { channel = refl; sets = refl; valid = (ok, vp); room = r }, tt))
along_voice c n s v false false false ok vh vl vp r =
    (record { channel = refl; sets = refl; valid = (ok, omega arith, vh); room = r }, (record { channel = refl; sets = refl; valid = (ok, omega arith, vl); room = r }, (record { channel = refl; sets = refl; valid = (ok, vp); room = r }, tt)))

-- the controllers
mild_stored : (sel : Selection) (n : ℕ) → is_stored n ≡ true → only_sets_by sel (role n) ≡ true
mild_stored sel n e = ap (only_sets_by sel) (stored_role (role n) e)

room_stored : (s : Channel) (n v m : ℕ) → is_stored n ≡ true → counted s ≤ m → counted (controlled s n v (role n)) ≤ m
room_stored s n v m e h = subst (λ (r : Role). counted (controlled s n v r) ≤ m) (sym (stored_role (role n) e)) h

along_controls : (c n m : ℕ) (s : State) (xs ys : List ℕ) → c ≤ 15 → counted s.own ≤ m → m + 0 ≡ m → n + length ys ≤ 128
    → ((i : ℕ) → get_or ys i 0 ≤ 127)
    → ((i : ℕ) → is_stored (n + i) ≡ false → get_or xs i 0 ≡ get_or ys i 0) → Along (Careful c m) s (bring_controls c n xs ys)
along_controls c n m s [] ys ok r z low b u = tt
along_controls c n m s (x ∷ xs) [] ok r z low b u = tt
along_controls c n m s (x ∷ xs) (y ∷ ys) ok r z low b u =
    let first : n + 0 ≡ n = omega arith in
    let shift : (i : ℕ) → (n + 1) + i ≡ n + suc i = λ i. omega arith in
    let rest : (t : State) → counted t.own ≤ m → Along (Careful c m) t (bring_controls c (n + 1) xs ys) =
    λ t k. along_controls c (n + 1) m t xs ys ok k z (omega (arith, low)) (λ i. b (suc i)) (λ i f. u (suc i) (ap is_stored (sym (shift i)) ∙ f)) in
    pick (nat_eq x y) refl (omega (arith, low)) first rest
  where
    same : (y : ℕ) → nat_eq y y ≡ true
    same y = grind arith

    pick : (d : Bool) → nat_eq x y ≡ d → n ≤ 127 → n + 0 ≡ n
        → ((t : State) → counted t.own ≤ m → Along (Careful c m) t (bring_controls c (n + 1) xs ys))
        → Along (Careful c m) s (cond d [] (Control c n y ∷ []) ++ bring_controls c (n + 1) xs ys)
    pick true t l first rest = rest s r
    pick false t l first rest =
        let stored : is_stored n ≡ true =
        true_from_ne_false (is_stored n) (λ f. false≢true (sym t ∙ ap (λ z. nat_eq z y) (u 0 (ap is_stored first ∙ f)) ∙ same y)) in
        let k : counted (apply_state s (Control c n y)).own ≤ m = room_stored s.own n y m stored r in
        (record { channel = refl; sets = mild_stored s.own.selection n stored; valid = (ok, l, b 0); room = k }, rest (apply_state s (Control c n y)) k)

-- one parameter
along_choose_by : (c n : ℕ) (s : State) (sel : Selection) (ps : List Entry) (b : Bool) (h l : ℕ) → c ≤ 15 → h < 128 → l < 128
    → count ps ≤ n
    → (let p : Parameter = record { registered = b; high = h; low = l } in Along (Careful c n) (at_params s sel ps) (choose_parameter c p))
along_choose_by c n s sel ps true h l ok a b r =
    (record { channel = refl; sets = refl; valid = (ok, omega arith, omega (arith, a)); room = r }, (record { channel = refl; sets = refl; valid = (ok, omega arith, omega (arith, b)); room = r }, tt))
along_choose_by c n s sel ps false h l ok a b r =
    (record { channel = refl; sets = refl; valid = (ok, omega arith, omega (arith, a)); room = r }, (record { channel = refl; sets = refl; valid = (ok, omega arith, omega (arith, b)); room = r }, tt))

room_high : (n v : ℕ) (t : Target) (p : Parameter) (ps : List Entry) → t ≡ Value p
    → count (put p (v, (value_of ps p).1) ps) ≤ n → count (with_high v t ps) ≤ n
room_high n v t p ps e h = subst (λ (x : Target). count (with_high v x ps) ≤ n) (sym e) h

room_low : (n v : ℕ) (t : Target) (p : Parameter) (ps : List Entry) → t ≡ Value p
    → count (put p ((value_of ps p).0, v) ps) ≤ n → count (with_low v t ps) ≤ n
room_low n v t p ps e h = subst (λ (x : Target). count (with_low v x ps) ≤ n) (sym e) h

along_high : Laws → (c n : ℕ) (s : State) (sel : Selection) (b ps : List Entry) (e : Entry) → c ≤ 15 → IsCanonical b
    → count b ≤ n → target sel ≡ Value e.parameter → IsEntered e
    → value_of b e.parameter ≢ default_value e.parameter → Phase b ps → Careful c n (at_params s sel ps) (Control c 6 e.value.0)
along_high l c n s sel b ps e ok hb low t h d f =
    let v : ℕ × ℕ = (e.value.0, (value_of ps e.parameter).1) in
    let k = phase_count b (put e.parameter v ps) hb (phase_put l b ps e.parameter v d f) in
    record { channel = refl; sets = ap is_value t; valid = (ok, omega arith, h.high); room = room_high n e.value.0 (target sel) e.parameter ps t (omega (arith, k, low)) }

along_low : Laws → (c n : ℕ) (s : State) (sel : Selection) (b ps : List Entry) (e : Entry) → c ≤ 15 → IsCanonical b
    → count b ≤ n → target sel ≡ Value e.parameter → IsEntered e
    → value_of b e.parameter ≢ default_value e.parameter → Phase b ps → Careful c n (at_params s sel ps) (Control c 38 e.value.1)
along_low l c n s sel b ps e ok hb low t h d f =
    let v : ℕ × ℕ = ((value_of ps e.parameter).0, e.value.1) in
    let k = phase_count b (put e.parameter v ps) hb (phase_put l b ps e.parameter v d f) in
    record { channel = refl; sets = ap is_value t; valid = (ok, omega arith, h.low); room = room_low n e.value.1 (target sel) e.parameter ps t (omega (arith, k, low)) }

along_values : Laws → (c n : ℕ) (s : State) (sel : Selection) (b ps : List Entry) (e : Entry) (x y : Bool) → c ≤ 15
    → IsCanonical b → count b ≤ n → target sel ≡ Value e.parameter → IsEntered e
    → value_of b e.parameter ≢ default_value e.parameter → Phase b ps
    → Along (Careful c n) (at_params s sel ps) (cond x [] (Control c 6 e.value.0 ∷ []) ++ cond y [] (Control c 38 e.value.1 ∷ []))
along_values l c n s sel b ps e true true ok hb low t h d f = tt
along_values l c n s sel b ps e false true ok hb low t h d f = (along_high l c n s sel b ps e ok hb low t h d f, tt)
along_values l c n s sel b ps e true false ok hb low t h d f = (along_low l c n s sel b ps e ok hb low t h d f, tt)
along_values l c n s sel b ps e false false ok hb low t h d f =
    let one : List Entry = put e.parameter (e.value.0, (value_of ps e.parameter).1) ps in
    let k = phase_put l b ps e.parameter (e.value.0, (value_of ps e.parameter).1) d f in (
      along_high l c n s sel b ps e ok hb low t h d f,
      (subst (λ (z : State). Careful c n z (Control c 38 e.value.1)) (sym (high_step s sel ps c e.value.0 e.parameter t)) (along_low l c n s sel b one e ok hb low t h d k), tt),
    )

along_parameter : Laws → (c n : ℕ) (s : State) (sel : Selection) (b ps : List Entry) (e : Entry) (v : ℕ × ℕ) → c ≤ 15
    → IsCanonical b → count b ≤ n → IsEntered e
    → value_of b e.parameter ≢ default_value e.parameter → Phase b ps
    → Along (Careful c n) (at_params s sel ps) (bring_parameter c v e)
along_parameter l c n s sel b ps e v ok hb low h d f =
    let k = phase_count b ps hb f in
    along_append (Careful c n) (at_params s sel ps) (at_params s (choose sel e.parameter) ps) (choose_parameter c e.parameter) (where_differs v.0 e.value.0 (Control c 6 e.value.0) ++ where_differs v.1 e.value.1 (Control c 38 e.value.1))
    (choose_reach s sel ps c e.parameter)
    (along_choose_by c n s sel ps e.parameter.registered e.parameter.high e.parameter.low ok h.small.high h.small.low (omega (arith, k, low)))
    (along_values l c n s (choose sel e.parameter) b ps e (nat_eq v.0 e.value.0) (nat_eq v.1 e.value.1) ok hb low (choose_target sel e.parameter h.settable) h d f)

along_each : Laws → (c n : ℕ) (s : State) (sel : Selection) (b now ps es : List Entry) → c ≤ 15 → IsCanonical b → count b ≤ n
    → AreEntered es → Sticks b es → Phase b ps → Along (Careful c n) (at_params s sel ps) (bring_each c now es)
along_each l c n s sel b now ps [] ok hb low h d f = tt
along_each l c n s sel b now ps (e ∷ es) ok hb low h d f =
    let v : ℕ × ℕ = value_of now e.parameter in
    along_append (Careful c n) (at_params s sel ps) (at_params s (choose sel e.parameter) (entered v e ps)) (bring_parameter c v e) (bring_each c now es)
    (parameter_reach s sel ps c v e h.0)
    (along_parameter l c n s sel b ps e v ok hb low h.0 d.0 f)
    (along_each l c n s (choose sel e.parameter) b now (entered v e ps) es ok hb low h.1 d.1 (phase_entered l b ps e v d.0 f))

-- all of them
each_append : (c : ℕ) (now a b : List Entry) → bring_each c now (a ++ b) ≡ bring_each c now a ++ bring_each c now b
each_append c now [] b = refl
each_append c now (e ∷ a) b =
    ap (λ r. bring_parameter c (value_of now e.parameter) e ++ r) (each_append c now a b)
    ∙ sym (append_assoc (bring_parameter c (value_of now e.parameter) e) (bring_each c now a) (bring_each c now b))

along_changes : Laws → (c n : ℕ) (s : State) (sel : Selection) (now wanted : List Entry) → c ≤ 15 → Good now → Good wanted
    → count now ≤ n → count wanted ≤ n
    → Along (Careful c n) (at_params s sel now) (bring_each c now (to_default now wanted ++ to_other now wanted))
along_changes l c n s sel now wanted ok gn gw ln lw =
    let a : List Entry = to_default now wanted in
    let b : List Entry = to_other now wanted in
    let mid : List Entry = entered_all now a now in
    let ea = entered_to_default now wanted gn.1 in
    let set =
    all_set l now a now (λ q. (value_bytes now q gn.1).1) gn ea (apart_default (filter (wants_default wanted) now) (apart_filter (wants_default wanted) now gn.0)) (fresh_same now a) in
    let start : Phase now now = record { canonical = gn.0; within = λ q x. x } in
    let then : Phase wanted mid = record { canonical = set.good.0; within = λ q x. set.values q ∙ defaults_set wanted now q x } in
    subst (λ (ms : List Msg). Along (Careful c n) (at_params s sel now) ms) (sym (each_append c now a b))
    (along_append (Careful c n) (at_params s sel now) (at_params s (chosen_all sel a) mid) (bring_each c now a) (bring_each c now b)
    (each_reach s sel now c now a ea)
    (along_each l c n s sel now now now a ok gn.0 ln ea (sticks_default now (filter (wants_default wanted) now) (sticks_filter now (wants_default wanted) now (sticks_all now gn.0))) start)
    (along_each l c n s (chosen_all sel a) wanted now mid b ok gw.0 lw (entered_to_other now wanted gw.1) (sticks_filter wanted (wants_other now) wanted (sticks_all wanted gw.0)) then))

along_closing : (c n : ℕ) (s : State) (sel : Selection) (ps : List Entry) → c ≤ 15 → count ps ≤ n
    → Along (Careful c n) (at_params s sel ps) (closing c)
along_closing c n s sel ps ok r =
    (record { channel = refl; sets = refl; valid = (ok, omega arith, omega arith); room = r }, (record { channel = refl; sets = refl; valid = (ok, omega arith, omega arith); room = r }, tt))

along_closed : (c n : ℕ) (s : State) (sel : Selection) (now es wanted : List Entry) → c ≤ 15 → AreEntered es
    → entered_all now es now ≡ wanted → count wanted ≤ n
    → Along (Careful c n) (at_params s sel now) (bring_each c now es)
    → Along (Careful c n) (at_params s sel now) (closed c (bring_each c now es))
along_closed c n s sel now [] wanted ok h e r a = tt
along_closed c n s sel now (x ∷ es) wanted ok h e r a =
    subst (λ (ms : List Msg). Along (Careful c n) (at_params s sel now) ms) (sym (closed_each c now x es))
    (along_append (Careful c n) (at_params s sel now) (at_params s (chosen_all sel (x ∷ es)) (entered_all now (x ∷ es) now)) (bring_each c now (x ∷ es)) (closing c)
    (each_reach s sel now c now (x ∷ es) h) a
    (along_closing c n s (chosen_all sel (x ∷ es)) (entered_all now (x ∷ es) now) ok (subst (λ (ps : List Entry). count ps ≤ n) (sym e) r)))

-- the pressures and the bend
along_pressure : (c n : ℕ) (s : State) (v : ℕ) (d : Bool) → c ≤ 15 → v ≤ 127 → counted s.own ≤ n
    → Along (Careful c n) s (cond d [] (Pressure c v ∷ []))
along_pressure c n s v true ok h r = tt
along_pressure c n s v false ok h r = (record { channel = refl; sets = refl; valid = (ok, h); room = r }, tt)

along_bend : (c n : ℕ) (s : State) (v : ℕ) (d : Bool) → c ≤ 15 → v ≤ 16383 → counted s.own ≤ n
    → Along (Careful c n) s (cond d [] (Bend c v ∷ []))
along_bend c n s v true ok h r = tt
along_bend c n s v false ok h r = (record { channel = refl; sets = refl; valid = (ok, h); room = r }, tt)

along_keys : (c k n : ℕ) (s : State) (xs ys : List ℕ) → c ≤ 15 → counted s.own ≤ n → k + length ys ≤ 128
    → ((i : ℕ) → get_or ys i 0 ≤ 127) → Along (Careful c n) s (bring_keys c k xs ys)
along_keys c k n s [] ys ok r low b = tt
along_keys c k n s (x ∷ xs) [] ok r low b = tt
along_keys c k n s (x ∷ xs) (y ∷ ys) ok r low b =
    pick (nat_eq x y) (omega (arith, low)) (b 0) (λ t h. along_keys c (k + 1) n t xs ys ok h (omega (arith, low)) (λ i. b (suc i)))
  where
    pick : (d : Bool) → k ≤ 127 → y ≤ 127 → ((t : State) → counted t.own ≤ n → Along (Careful c n) t (bring_keys c (k + 1) xs ys))
        → Along (Careful c n) s (cond d [] (KeyPressure c k y ∷ []) ++ bring_keys c (k + 1) xs ys)
    pick true l h rest = rest s r
    pick false l h rest = (record { channel = refl; sets = refl; valid = (ok, l, h); room = r }, rest (apply_state s (KeyPressure c k y)) r)

-- ---- the whole

pub along_bring : Laws → (c n : ℕ) (now wanted : State) → c ≤ 15 → IsWellFormed now → IsWellFormed wanted
    → counted now.own ≤ n → counted wanted.own ≤ n → Along (Careful c n) now (bring c now wanted)
along_bring l c n now wanted ok hn hw ln lw =
    let P : State → Msg → Type 0 = Careful c n in
    let gn : Good now.own.params = (hn.canonical, hn.entered) in
    let gw : Good wanted.own.params = (hw.canonical, hw.entered) in
    let v : List Msg = bring_voice c now.own wanted.own.voice in
    let k : List Msg = bring_controls c 0 (first_state now wanted).own.controls wanted.own.controls in
    let p : List Msg = closed c (bring_each c now.own.params (changed now wanted)) in
    let w : List Msg = where_differs now.own.pressure wanted.own.pressure (Pressure c wanted.own.pressure) in
    let b : List Msg = where_differs now.own.bend wanted.own.bend (Bend c wanted.own.bend) in
    let one = next now (first_state now wanted) v k (first_reach c now wanted hn) ∙ second_reach c now wanted hn hw in
    let two = next now (second_state now wanted) (v ++ k) p one ∙ third_reach l c now wanted hn hw in
    let three = next now (third_state now wanted) ((v ++ k) ++ p) w two ∙ pressed_reach (third_state now wanted) c wanted.own.pressure in
    let four = next now (fourth_state now wanted) (((v ++ k) ++ p) ++ w) b three ∙ bent_reach (fourth_state now wanted) c wanted.own.bend in
    let sz = sized_voice now.own.controls now.own.voice wanted.own.voice (sized now hn) in
    let e : (i : ℕ) → 0 + i ≡ i = λ i. omega arith in
    let av =
    along_voice c n now wanted.own.voice (voice_eq now.own.voice wanted.own.voice) (nat_eq (get_or now.own.controls 0 0) wanted.own.voice.high) (nat_eq (get_or now.own.controls 32 0) wanted.own.voice.low) ok hw.bank_high hw.bank_low hw.program ln in
    let ak = along_controls c 0 n (first_state now wanted) (first_state now wanted).own.controls wanted.own.controls ok ln (omega arith) (omega (arith, hw.controls)) hw.control_bytes
    (λ i u. let x : is_stored i ≡ false = ap is_stored (sym (e i)) ∙ u in sz.unstored i x ∙ sym (hw.unstored i x)) in
    let ap = along_closed c n (second_state now wanted) now.own.selection now.own.params (changed now wanted) wanted.own.params ok (entered_changes now.own.params wanted.own.params hn.entered hw.entered) (changed_all l now.own.params wanted.own.params gn gw) lw
    (along_changes l c n (second_state now wanted) now.own.selection now.own.params wanted.own.params ok gn gw ln lw) in
    let aw = along_pressure c n (third_state now wanted) wanted.own.pressure (nat_eq now.own.pressure wanted.own.pressure) ok hw.pressure lw in
    let ab = along_bend c n (fourth_state now wanted) wanted.own.bend (nat_eq now.own.bend wanted.own.bend) ok hw.bend lw in
    let at = along_keys c 0 n (fifth_state now wanted) now.keys wanted.keys ok lw (omega (arith, hw.keys)) hw.key_bytes in
    subst (λ (ms : List Msg). Along P now ms) (sym (bring_is c now wanted hn))
    (along_append P now (fifth_state now wanted) ((((v ++ k) ++ p) ++ w) ++ b) (bring_keys c 0 now.keys wanted.keys) four
    (along_append P now (fourth_state now wanted) (((v ++ k) ++ p) ++ w) b three
    (along_append P now (third_state now wanted) ((v ++ k) ++ p) w two
    (along_append P now (second_state now wanted) (v ++ k) p one
    (along_append P now (first_state now wanted) v k (first_reach c now wanted hn) av ak) ap) aw) ab) at)

-- what each message is; what holds of the states on the way
pub along_weaker : (P Q : State → Msg → Type 0) → ((s : State) (m : Msg) → P s m → Q s m) → (s : State) (ms : List Msg)
    → Along P s ms → Along Q s ms
along_weaker P Q f s [] h = tt
along_weaker P Q f s (m ∷ ms) h = (f s m h.0, along_weaker P Q f (apply_state s m) ms h.1)

pub along_valid : (c n : ℕ) (s : State) (ms : List Msg) → Along (Careful c n) s ms → AllByRecursion IsValidMsg ms
along_valid c n s [] h = tt
along_valid c n s (m ∷ ms) h = (h.0.valid, along_valid c n (apply_state s m) ms h.1)

pub along_room : (c n k : ℕ) (s : State) (ms : List Msg) → counted s.own ≤ n → Along (Careful c n) s ms
    → counted (apply_all s (take k ms)).own ≤ n
along_room c n zero s ms r h = r
along_room c n (suc k) s [] r h = r
along_room c n (suc k) s (m ∷ ms) r h = along_room c n k (apply_state s m) ms h.0.room h.1

pub only_settings : Laws → (c : ℕ) (now wanted : State) → c ≤ 15 → IsWellFormed now → IsWellFormed wanted
    → Along (OnlySets c) now (bring c now wanted)
only_settings l c now wanted ok hn hw =
    let n : ℕ = counted now.own + counted wanted.own in
    along_weaker (Careful c n) (OnlySets c) (λ s m h. record { channel = h.channel; sets = h.sets }) now (bring c now wanted) (along_bring l c n now wanted ok hn hw (omega arith) (omega arith))

pub valid_ones : Laws → (c : ℕ) (now wanted : State) → c ≤ 15 → IsWellFormed now → IsWellFormed wanted
    → AllByRecursion IsValidMsg (bring c now wanted)
valid_ones l c now wanted ok hn hw =
    let n : ℕ = counted now.own + counted wanted.own in
    along_valid c n now (bring c now wanted) (along_bring l c n now wanted ok hn hw (omega arith) (omega arith))

pub has_room : Laws → (c k : ℕ) (now wanted : State) → c ≤ 15 → IsWellFormed now → IsWellFormed wanted
    → counted (apply_all now (take k (bring c now wanted))).own ≤ max (counted now.own) (counted wanted.own)
has_room l c k now wanted ok hn hw =
    let n : ℕ = max (counted now.own) (counted wanted.own) in
    along_room c n k now (bring c now wanted) (omega arith) (along_bring l c n now wanted ok hn hw (omega arith) (omega arith))
