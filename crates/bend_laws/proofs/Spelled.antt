-- What the messages that bring a channel have in common: they are of five kinds, all of them on the channel.
use Rattle.std.proofs.Common.{◌+◌, ℕ, List, [], ◌∷◌, ◌++◌, nat_eq}
use Rattle.std.specs.List.{AllByRecursion}
use Rattle.std.proofs.lemmas.Bool.{cond_both}
use Rattle.mt_base.specs.declared.event.Msg.{Msg}
use Rattle.mt_base.specs.declared.event.Msg.TheVariants.{KeyPressure, Control, Program, Pressure, Bend}
use Rattle.midi_model.specs.Params.{Entry, value_of}
use Rattle.midi_model.specs.Channel.{Channel, State, Voice, control_of}
use Rattle.midi_model.specs.Bring.{bring, bring_voice, bring_controls, bring_each, bring_keys, where_differs, voice_eq, closed, choose_parameter, bring_parameter, apply_all, to_default, to_other}
use Rattle.bend_laws.proofs.Lists.{all_append}

-- what holds of each message of these kinds on a channel
pub record HoldsOn (c : ℕ) (P : Msg → Type 0) : Type 0 where
  pub control : (n v : ℕ) → P (Control c n v)
  pub program : (p : ℕ) → P (Program c p)
  pub pressure : (v : ℕ) → P (Pressure c v)
  pub bend : (v : ℕ) → P (Bend c v)
  pub key : (k v : ℕ) → P (KeyPressure c k v)

differs_all : (P : Msg → Type 0) (a b : ℕ) (m : Msg) → P m → AllByRecursion P (where_differs a b m)
differs_all P a b m h = cond_both (nat_eq a b) [] (m ∷ []) (AllByRecursion P) (λ e. tt) (λ e. (h, tt))

voice_all : (c : ℕ) (P : Msg → Type 0) → HoldsOn c P → (now : Channel) (v : Voice) → AllByRecursion P (bring_voice c now v)
voice_all c P h now v =
    let high : List Msg = where_differs (control_of now 0) v.high (Control c 0 v.high) in
    let low : List Msg = where_differs (control_of now 32) v.low (Control c 32 v.low) in
    cond_both (voice_eq now.voice v) [] ((high ++ low) ++ Program c v.program ∷ []) (AllByRecursion P) (λ e. tt)
    (λ e. all_append P (high ++ low) (Program c v.program ∷ [])
    (all_append P high low (differs_all P (control_of now 0) v.high (Control c 0 v.high) (h.control 0 v.high))
    (differs_all P (control_of now 32) v.low (Control c 32 v.low) (h.control 32 v.low))) (h.program v.program, tt))

controls_all : (c : ℕ) (P : Msg → Type 0) → HoldsOn c P → (n : ℕ) (xs ys : List ℕ) → AllByRecursion P (bring_controls c n xs ys)
controls_all c P h n [] ys = tt
controls_all c P h n (x ∷ xs) [] = tt
controls_all c P h n (x ∷ xs) (y ∷ ys) = all_append P (where_differs x y (Control c n y)) (bring_controls c (n + 1) xs ys)
    (differs_all P x y (Control c n y) (h.control n y)) (controls_all c P h (n + 1) xs ys)

parameter_all : (c : ℕ) (P : Msg → Type 0) → HoldsOn c P → (now : ℕ × ℕ) (e : Entry) → AllByRecursion P (bring_parameter c now e)
parameter_all c P h now e =
    let first : List Msg = where_differs now.0 e.value.0 (Control c 6 e.value.0) in
    let second : List Msg = where_differs now.1 e.value.1 (Control c 38 e.value.1) in
    all_append P (choose_parameter c e.parameter) (first ++ second)
    (cond_both e.parameter.registered (Control c 101 e.parameter.high ∷ Control c 100 e.parameter.low ∷ [])
    (Control c 99 e.parameter.high ∷ Control c 98 e.parameter.low ∷ []) (AllByRecursion P)
    (λ g. (h.control 101 e.parameter.high, (h.control 100 e.parameter.low, tt)))
    (λ g. (h.control 99 e.parameter.high, (h.control 98 e.parameter.low, tt))))
    (all_append P first second (differs_all P now.0 e.value.0 (Control c 6 e.value.0) (h.control 6 e.value.0))
    (differs_all P now.1 e.value.1 (Control c 38 e.value.1) (h.control 38 e.value.1)))

each_all : (c : ℕ) (P : Msg → Type 0) → HoldsOn c P → (now es : List Entry) → AllByRecursion P (bring_each c now es)
each_all c P h now [] = tt
each_all c P h now (e ∷ es) = all_append P (bring_parameter c (value_of now e.parameter) e) (bring_each c now es)
    (parameter_all c P h (value_of now e.parameter) e) (each_all c P h now es)

closed_all : (c : ℕ) (P : Msg → Type 0) → HoldsOn c P → (ms : List Msg) → AllByRecursion P ms → AllByRecursion P (closed c ms)
closed_all c P h [] g = tt
closed_all c P h (m ∷ ms) g = all_append P (m ∷ ms) (Control c 101 127 ∷ Control c 100 127 ∷ []) g (h.control 101 127, (h.control 100 127, tt))

keys_all : (c : ℕ) (P : Msg → Type 0) → HoldsOn c P → (k : ℕ) (xs ys : List ℕ) → AllByRecursion P (bring_keys c k xs ys)
keys_all c P h k [] ys = tt
keys_all c P h k (x ∷ xs) [] = tt
keys_all c P h k (x ∷ xs) (y ∷ ys) = all_append P (where_differs x y (KeyPressure c k y)) (bring_keys c (k + 1) xs ys)
    (differs_all P x y (KeyPressure c k y) (h.key k y)) (keys_all c P h (k + 1) xs ys)

pub bring_holds : (c : ℕ) (P : Msg → Type 0) → HoldsOn c P → (now wanted : State) → AllByRecursion P (bring c now wanted)
bring_holds c P h now wanted =
    let voice : List Msg = bring_voice c now.own wanted.own.voice in
    let controls : List Msg = bring_controls c 0 (apply_all now voice).own.controls wanted.own.controls in
    let each : List Msg = bring_each c now.own.params (to_default now.own.params wanted.own.params ++ to_other now.own.params wanted.own.params) in
    let pressure : List Msg = where_differs now.own.pressure wanted.own.pressure (Pressure c wanted.own.pressure) in
    let bend : List Msg = where_differs now.own.bend wanted.own.bend (Bend c wanted.own.bend) in
    let keys : List Msg = bring_keys c 0 now.keys wanted.keys in
    all_append P ((((voice ++ controls) ++ closed c each) ++ pressure) ++ bend) keys
    (all_append P (((voice ++ controls) ++ closed c each) ++ pressure) bend
    (all_append P ((voice ++ controls) ++ closed c each) pressure
    (all_append P (voice ++ controls) (closed c each) (all_append P voice controls (voice_all c P h now.own wanted.own.voice)
    (controls_all c P h 0 (apply_all now voice).own.controls wanted.own.controls))
    (closed_all c P h each (each_all c P h now.own.params
    (to_default now.own.params wanted.own.params ++ to_other now.own.params wanted.own.params))))
    (differs_all P now.own.pressure wanted.own.pressure (Pressure c wanted.own.pressure) (h.pressure wanted.own.pressure)))
    (differs_all P now.own.bend wanted.own.bend (Bend c wanted.own.bend) (h.bend wanted.own.bend)))
    (keys_all c P h 0 now.keys wanted.keys)
