-- Bringing a channel to a state reaches it.
use Rattle.std.proofs.Common.{◌≡◌, ◌≢◌, ℕ, ◌+◌, List, [], ◌∷◌, ◌++◌, Bool, true, false, cond, nat_eq, refl, ap, sym, ◌∙◌, subst, arith, length, set, get_or}
use Rattle.std.proofs.lemmas.Bool.{eqb-true, cond_both}
use Rattle.std.proofs.lemmas.List.{length-set}
use Rattle.mt_base.specs.declared.event.Msg.{Msg}
use Rattle.mt_base.specs.declared.event.Msg.TheVariants.{Control, Program, Pressure, Bend}
use Rattle.midi_model.specs.Params.{Entry}
use Rattle.midi_model.specs.Channel.{State, Selection, Voice}
use Rattle.midi_model.specs.WellFormed.{is_stored, IsWellFormed}
use Rattle.midi_model.specs.Bring.{apply_all, where_differs, voice_eq, bring_voice, bring_controls, bring_each, closed, bring_keys, bring}
use Rattle.state_laws.specs.Reached.{unselected, changed, IsClosed}
use Rattle.state_laws.proofs.Laws.{Laws}
use Rattle.state_laws.proofs.Keeping.{unstored_set}
use Rattle.state_laws.proofs.Steps.{next, voiced, at_params, high_bank, banks, voice_controls, voice_reach, controls_reach, keys_reach, selection_after, closed_reach}
use Rattle.state_laws.proofs.Setting.{entered_changes, changed_all}

-- ---- the controllers after the voice

-- what holds of the controllers from before and of each list after a bank was set holds after a voice was chosen
pub voice_controls-keep : (P : List ℕ → Type 0) (cs : List ℕ) (now v : Voice) → ((l : List ℕ) → P l → P (set l 0 v.high))
    → ((l : List ℕ) → P l → P (set l 32 v.low)) → P cs → P (voice_controls cs now v)
voice_controls-keep P cs now v h l p =
    let one : P (high_bank cs v.high) = cond_both (nat_eq (get_or cs 0 0) v.high) cs (set cs 0 v.high) P (λ _. p) (λ _. h cs p) in
    let two : P (banks cs v) =
    cond_both (nat_eq (get_or cs 32 0) v.low) (high_bank cs v.high) (set (high_bank cs v.high) 32 v.low) P (λ _. one) (λ _. l (high_bank cs v.high) one) in
    cond_both (voice_eq now v) cs (banks cs v) P (λ _. p) (λ _. two)

pub record Sized (cs : List ℕ) : Type 0 where
  pub length : length cs ≡ 120
  pub unstored : (n : ℕ) → is_stored n ≡ false → get_or cs n 0 ≡ 0

pub sized_set : (i v : ℕ) → is_stored i ≡ true → (cs : List ℕ) → Sized cs → Sized (set cs i v)
sized_set i v s cs h = record { length = length-set cs i v ∙ h.length; unstored = unstored_set cs i v s h.unstored }

pub sized_voice : (cs : List ℕ) (now v : Voice) → Sized cs → Sized (voice_controls cs now v)
sized_voice cs now v h = voice_controls-keep Sized cs now v (sized_set 0 v.high refl) (sized_set 32 v.low refl) h

pub sized : (s : State) → IsWellFormed s → Sized s.own.controls
sized s h = record { length = h.controls; unstored = h.unstored }

-- ---- the steps

pub pressed_reach : (s : State) (c v : ℕ)
    → apply_all s (where_differs s.own.pressure v (Pressure c v)) ≡ (let t : State = record { own = record s.own { pressure = v }; keys = s.keys } in t)
pressed_reach s c v = pick (nat_eq s.own.pressure v) refl
  where
    pick : (b : Bool) → nat_eq s.own.pressure v ≡ b
        → apply_all s (cond b [] (Pressure c v ∷ [])) ≡ (let t : State = record { own = record s.own { pressure = v }; keys = s.keys } in t)
    pick true e = ap (λ x. let t : State = record { own = record s.own { pressure = x }; keys = s.keys } in t) (eqb-true s.own.pressure v e)
    pick false e = refl

pub bent_reach : (s : State) (c v : ℕ)
    → apply_all s (where_differs s.own.bend v (Bend c v)) ≡ (let t : State = record { own = record s.own { bend = v }; keys = s.keys } in t)
bent_reach s c v = pick (nat_eq s.own.bend v) refl
  where
    pick : (b : Bool) → nat_eq s.own.bend v ≡ b
        → apply_all s (cond b [] (Bend c v ∷ [])) ≡ (let t : State = record { own = record s.own { bend = v }; keys = s.keys } in t)
    pick true e = ap (λ x. let t : State = record { own = record s.own { bend = x }; keys = s.keys } in t) (eqb-true s.own.bend v e)
    pick false e = refl

from_start : (l : List ℕ) (i y : ℕ) → set l (0 + i) y ≡ set l i y
from_start l i y = let e : 0 + i ≡ i = omega arith in ap (λ j. set l j y) e

-- the states on the way, and the last one
abbrev pub first_state : State → State → State
first_state now wanted = voiced now (voice_controls now.own.controls now.own.voice wanted.own.voice) wanted.own.voice

abbrev pub second_state : State → State → State
second_state now wanted = voiced now wanted.own.controls wanted.own.voice

abbrev pub selection_then : State → State → Selection
selection_then now wanted = selection_after now.own.selection (changed now wanted)

abbrev pub third_state : State → State → State
third_state now wanted = at_params (second_state now wanted) (selection_then now wanted) wanted.own.params

abbrev pub fourth_state : State → State → State
fourth_state now wanted = record { own = record (third_state now wanted).own { pressure = wanted.own.pressure }; keys = now.keys }

abbrev pub fifth_state : State → State → State
fifth_state now wanted = record { own = record wanted.own { selection = selection_then now wanted }; keys = now.keys }

abbrev pub last_state : State → State → State
last_state now wanted = record { own = record wanted.own { selection = selection_then now wanted }; keys = wanted.keys }

pub first_reach : (c : ℕ) (now wanted : State) → IsWellFormed now
    → apply_all now (bring_voice c now.own wanted.own.voice) ≡ first_state now wanted
first_reach c now wanted h = voice_reach now c wanted.own.voice h.controls

pub second_reach : (c : ℕ) (now wanted : State) → IsWellFormed now → IsWellFormed wanted
    → apply_all (first_state now wanted) (bring_controls c 0 (first_state now wanted).own.controls wanted.own.controls) ≡ second_state now wanted
second_reach c now wanted hn hw =
    let t : State = first_state now wanted in
    let s = sized_voice now.own.controls now.own.voice wanted.own.voice (sized now hn) in
    let e : (i : ℕ) → 0 + i ≡ i = λ i. omega arith in
    controls_reach t c 0 (λ l. l) from_start t.own.controls wanted.own.controls (s.length ∙ sym hw.controls)
    (λ i u. let v : is_stored i ≡ false = ap is_stored (sym (e i)) ∙ u in s.unstored i v ∙ sym (hw.unstored i v))

pub third_reach : Laws → (c : ℕ) (now wanted : State) → IsWellFormed now → IsWellFormed wanted
    → apply_all (second_state now wanted) (closed c (bring_each c now.own.params (changed now wanted))) ≡ third_state now wanted
third_reach l c now wanted hn hw =
    closed_reach (second_state now wanted) now.own.selection now.own.params c now.own.params (changed now wanted) (entered_changes now.own.params wanted.own.params hn.entered hw.entered)
    ∙ ap (λ ps. at_params (second_state now wanted) (selection_then now wanted) ps) (changed_all l now.own.params wanted.own.params (hn.canonical, hn.entered) (hw.canonical, hw.entered))

pub last_reach : (c : ℕ) (now wanted : State) → IsWellFormed now → IsWellFormed wanted
    → apply_all (fifth_state now wanted) (bring_keys c 0 now.keys wanted.keys) ≡ last_state now wanted
last_reach c now wanted hn hw = keys_reach (fifth_state now wanted) c 0 (λ l. l) from_start now.keys wanted.keys (hn.keys ∙ sym hw.keys)

-- the messages, with the controllers that the voice leaves
abbrev pub brought : ℕ → State → State → List Msg
brought c now wanted =
    ((((bring_voice c now.own wanted.own.voice ++ bring_controls c 0 (first_state now wanted).own.controls wanted.own.controls)
    ++ closed c (bring_each c now.own.params (changed now wanted)))
    ++ where_differs now.own.pressure wanted.own.pressure (Pressure c wanted.own.pressure))
    ++ where_differs now.own.bend wanted.own.bend (Bend c wanted.own.bend))
    ++ bring_keys c 0 now.keys wanted.keys

pub bring_is : (c : ℕ) (now wanted : State) → IsWellFormed now → bring c now wanted ≡ brought c now wanted
bring_is c now wanted h =
    ap (λ t.
    ((((bring_voice c now.own wanted.own.voice ++ bring_controls c 0 t.own.controls wanted.own.controls)
    ++ closed c (bring_each c now.own.params (changed now wanted)))
    ++ where_differs now.own.pressure wanted.own.pressure (Pressure c wanted.own.pressure))
    ++ where_differs now.own.bend wanted.own.bend (Bend c wanted.own.bend))
    ++ bring_keys c 0 now.keys wanted.keys) (first_reach c now wanted h)

pub bring_reach : Laws → (c : ℕ) (now wanted : State) → IsWellFormed now → IsWellFormed wanted
    → apply_all now (bring c now wanted) ≡ last_state now wanted
bring_reach l c now wanted hn hw =
    let v : List Msg = bring_voice c now.own wanted.own.voice in
    let k : List Msg = bring_controls c 0 (first_state now wanted).own.controls wanted.own.controls in
    let p : List Msg = closed c (bring_each c now.own.params (changed now wanted)) in
    let w : List Msg = where_differs now.own.pressure wanted.own.pressure (Pressure c wanted.own.pressure) in
    let b : List Msg = where_differs now.own.bend wanted.own.bend (Bend c wanted.own.bend) in
    let one = next now (first_state now wanted) v k (first_reach c now wanted hn) ∙ second_reach c now wanted hn hw in
    let two = next now (second_state now wanted) (v ++ k) p one ∙ third_reach l c now wanted hn hw in
    let three = next now (third_state now wanted) ((v ++ k) ++ p) w two ∙ pressed_reach (third_state now wanted) c wanted.own.pressure in
    let four = next now (fourth_state now wanted) (((v ++ k) ++ p) ++ w) b three ∙ bent_reach (fourth_state now wanted) c wanted.own.bend in
    ap (λ ms. apply_all now ms) (bring_is c now wanted hn)
    ∙ next now (fifth_state now wanted) ((((v ++ k) ++ p) ++ w) ++ b) (bring_keys c 0 now.keys wanted.keys) four ∙ last_reach c now wanted hn hw

pub reaches : Laws → (c : ℕ) (now wanted : State) → IsWellFormed now → IsWellFormed wanted
    → unselected (apply_all now (bring c now wanted)) ≡ unselected wanted
reaches l c now wanted hn hw = ap unselected (bring_reach l c now wanted hn hw)

pub kept_selection : Laws → (c : ℕ) (now wanted : State) → IsWellFormed now → IsWellFormed wanted → changed now wanted ≡ []
    → (apply_all now (bring c now wanted)).own.selection ≡ now.own.selection
kept_selection l c now wanted hn hw e =
    ap (λ t. t.own.selection) (bring_reach l c now wanted hn hw) ∙ ap (λ es. selection_after now.own.selection es) e

closed_after : (sel : Selection) (es : List Entry) → es ≢ [] → IsClosed (selection_after sel es)
closed_after sel [] h = absurd (h refl)
closed_after sel (e ∷ es) h = record { registered = refl; rpn = refl }

pub closed_selection : Laws → (c : ℕ) (now wanted : State) → IsWellFormed now → IsWellFormed wanted → changed now wanted ≢ []
    → IsClosed (apply_all now (bring c now wanted)).own.selection
closed_selection l c now wanted hn hw h =
    subst (λ (t : State). IsClosed t.own.selection) (sym (bring_reach l c now wanted hn hw)) (closed_after now.own.selection (changed now wanted) h)

free_by : (c : ℕ) (now : State) (v : Voice) (b h l : Bool)
    → (let ms : List Msg = cond b [] ((cond h [] (Control c 0 v.high ∷ []) ++ cond l [] (Control c 32 v.low ∷ [])) ++ Program c v.program ∷ []) in
    (apply_all (unselected now) ms).own.controls ≡ (apply_all now ms).own.controls)
free_by c now v true h l = refl
free_by c now v false true true = refl
free_by c now v false true false = refl
free_by c now v false false true = refl
free_by c now v false false false = refl

pub ignored : (c : ℕ) (now wanted : State) → bring c (unselected now) wanted ≡ bring c now wanted
ignored c now wanted =
    let v : Voice = wanted.own.voice in
    ap (λ cs.
    ((((bring_voice c now.own v ++ bring_controls c 0 cs wanted.own.controls)
    ++ closed c (bring_each c now.own.params (changed now wanted)))
    ++ where_differs now.own.pressure wanted.own.pressure (Pressure c wanted.own.pressure))
    ++ where_differs now.own.bend wanted.own.bend (Bend c wanted.own.bend))
    ++ bring_keys c 0 now.keys wanted.keys) (free_by c now v (voice_eq now.own.voice v) (nat_eq (get_or now.own.controls 0 0) v.high) (nat_eq (get_or now.own.controls 32 0) v.low))

pub ignored_both : (c : ℕ) (a b now wanted : State) → unselected a ≡ unselected now → unselected b ≡ unselected wanted
    → bring c a b ≡ bring c now wanted
ignored_both c a b now wanted h k = sym (ignored c a b) ∙ ap (λ x. bring c x b) h ∙ ignored c now b ∙ ap (λ x. bring c now x) k
