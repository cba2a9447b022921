-- The note whose key is down: as the parts tell of it, and on which channel it is.
use Rattle.std.proofs.Common.{◌≡◌, ◌≤◌, ◌+◌, ◌&&◌, ℕ, ℤ, pos, suc, Bool, true, false, cond, not, List, [], ◌∷◌, Option, Some, None, is_some, refl, ap, sym, ◌∙◌, subst, arith}
use Rattle.std.specs.List.{AllByRecursion}
use Rattle.std.proofs.lemmas.Bool.{and_parts}
use Rattle.mt_base.specs.declared.event.Msg.{Msg}
use Rattle.mt_base.specs.Midi.{MidiEvent}
use Rattle.midi_model.specs.Notes.{Note, sounds, is_at, sounding_on}
use Rattle.retune_model.specs.Table.{Bounds, BendTarget, bend_target}
use Rattle.retune_model.specs.Options.{Options, bends_notes}
use Rattle.retune_model.specs.PlaysTheSame.{bend_target_if}
use Rattle.retune_model.specs.Faults.{Targets, is_part, target_of}
use Rattle.retune_model.specs.Pairs.{Pair}
use Rattle.retune_model.specs.Rests.{steps_of}
use Rattle.channel_model.specs.BendOutput.{pair_with, pressed_note, note_released, off_at}
use Rattle.key_pitch.specs.declared.aim.Aim.TheVariants.{Bend as AimAt}
use Rattle.key_pitch.specs.Aims.{bend_aim, on_bend}
use Rattle.key_pitch.specs.Aims.{tuning_aim}
use Rattle.mt_base.specs.declared.pair.Part.{Part as PartOf}
use Rattle.lifetimes.specs.Told.{music_on, sounding_on as told_on, told_of, begun_as, number_of}
use Rattle.lifetimes.specs.declared.change.Begun.{Begun}
use Rattle.receiver.specs.Sounding.{sounding_from, sounding_at}

-- ---- the note of a key that is down is the one that sounds there, where its key is down

abbrev pub down_if : Bool → Note → Option Note
down_if true n = None
down_if false n = Some n

abbrev pub pressed_of : Option (ℕ × Note) → Option Note
pressed_of None = None
pressed_of (Some x) = down_if (is_some x.1.release) x.1

none_sounds : (c k : ℕ) (ns : List Note) → sounding_on c k ns ≡ 0 → pressed_note c k ns ≡ None
none_sounds c k [] h = refl
none_sounds c k (n ∷ ns) h = pick (is_at c k n) (sounds n) (is_some n.release) refl refl refl h (none_sounds c k ns)
  where
    pick : (a s r : Bool) → is_at c k n ≡ a → sounds n ≡ s → is_some n.release ≡ r → cond (a && s) 1 0 + sounding_on c k ns ≡ 0
        → (sounding_on c k ns ≡ 0 → pressed_note c k ns ≡ None) → cond (a && (s && not r)) (Some n) (pressed_note c k ns) ≡ None
    pick true true r e f g h rest = absurd (omega (arith, h))
    pick true false r e f g h rest = rest (omega (arith, h))
    pick false s r e f g h rest = rest (omega (arith, h))

pub pressed_is : (c k i : ℕ) (ns : List Note) → sounding_on c k ns ≤ 1 → pressed_note c k ns ≡ pressed_of (sounding_from i ns c k)
pressed_is c k i [] h = refl
pressed_is c k i (n ∷ ns) h = pick (is_at c k n) (sounds n) (is_some n.release) refl h (pressed_is c k (suc i) ns)
  where
    pick : (a s r : Bool) → is_some n.release ≡ r → cond (a && s) 1 0 + sounding_on c k ns ≤ 1
        → (sounding_on c k ns ≤ 1 → pressed_note c k ns ≡ pressed_of (sounding_from (suc i) ns c k))
        → cond (a && (s && not r)) (Some n) (pressed_note c k ns) ≡ pressed_of (cond (a && s) (Some (i, n)) (sounding_from (suc i) ns c k))
    pick true true true g h rest = none_sounds c k ns (omega (arith, h)) ∙ sym (ap (λ b. down_if b n) g)
    pick true true false g h rest = sym (ap (λ b. down_if b n) g)
    pick true false r g h rest = rest (omega (arith, h))
    pick false s r g h rest = rest (omega (arith, h))

-- ---- as the parts tell of it

-- the note that sounds on a key
pub record IsFound (P : Note → Type 0) (c k : ℕ) (x : Note) : Type 0 where
  pub holds : P x
  pub at : is_at c k x ≡ true
  pub sounds : sounds x ≡ true

pub at_found : (P : Note → Type 0) (c k i : ℕ) (ns : List Note) (x : ℕ × Note) → sounding_from i ns c k ≡ Some x → AllByRecursion P ns →
    IsFound P c k x.1
at_found P c k i [] x h all = absurd cc
at_found P c k i (n ∷ ns) x h all = pick (is_at c k n && sounds n) refl h (λ g. at_found P c k (suc i) ns x g all.1)
  where
    pick : (b : Bool) → (is_at c k n && sounds n) ≡ b → cond b (Some (i, n)) (sounding_from (suc i) ns c k) ≡ Some x
        → (sounding_from (suc i) ns c k ≡ Some x → IsFound P c k x.1) → IsFound P c k x.1
    pick true e g rest =
        let same : n ≡ x.1 = (let whole : Some (i, n) ≡ Some x = g in let p : (i, n) ≡ x = cc in ap (λ (y : ℕ × Note). y.1) p) in
        let both = and_parts (is_at c k n) (sounds n) e in
        subst (IsFound P c k) same (record { holds = all.0; at = both.0; sounds = both.1 })
    pick false e g rest = rest g

-- the target of a bend
pub aim_told : (range : ℕ) (b : Option Bounds) (key : ℕ) (steps : ℤ) → bend_aim range b ≡ AimAt key steps →
    bend_target_if range b ≡ Some (record { key = key; steps = steps })
aim_told range None key steps h = absurd cc
aim_told range (Some b) key steps h = pick (bend_target range b) h
  where
    pick : (x : Option BendTarget) → on_bend x ≡ AimAt key steps → x ≡ Some (record { key = key; steps = steps })
    pick None h = absurd cc
    pick (Some t) h =
        let same_key : t.key ≡ key = cc in
        let same_steps : t.steps ≡ steps = cc in
        ap (λ n. let y : BendTarget = record { key = n; steps = t.steps } in Some y) same_key
        ∙ ap (λ n. let y : BendTarget = record { key = key; steps = n } in Some y) same_steps

pub aim_none : (range : ℕ) (b : Option Bounds) → ((key : ℕ) (steps : ℤ) → bend_aim range b ≡ AimAt key steps → ⊥) → bend_target_if range b ≡ None
aim_none range None h = refl
aim_none range (Some b) h = pick (bend_target range b) h
  where
    pick : (x : Option BendTarget) → ((key : ℕ) (steps : ℤ) → on_bend x ≡ AimAt key steps → ⊥) → x ≡ None
    pick None h = refl
    pick (Some t) h = absurd (h t.key t.steps refl)

module _ (o : Options) (table : Targets) (es : List MidiEvent) (z c key : ℕ) (bends : bends_notes o.route ≡ true) (part : is_part o c ≡ true)
    (one : sounding_on c key (music_on z es).notes ≤ 1) where
  abbrev pub note_part : PartOf
  note_part = record { port = z; channel = c }

  abbrev pub ns : List Note
  ns = (music_on z es).notes

  is_pressed : pressed_note c key ns ≡ pressed_of (sounding_at ns c key)
  is_pressed = pressed_is c key 1 ns one

  is_told : told_on o table es note_part key ≡ told_of o table es note_part key (sounding_at ns c key)
  is_told = ap (λ b. cond b (told_of o table es note_part key (sounding_at ns c key)) None) part

  pub none_told : told_on o table es note_part key ≡ None → pressed_note c key ns ≡ None
  none_told h = is_pressed ∙ pick (sounding_at ns c key) (sym is_told ∙ h)
    where
      pick : (x : Option (ℕ × Note)) → told_of o table es note_part key x ≡ None → pressed_of x ≡ None
      pick None g = refl
      pick (Some x) g = absurd cc

  pub up_told : (b : Begun) → told_on o table es note_part key ≡ Some (b, false) → pressed_note c key ns ≡ None
  up_told b h = is_pressed ∙ pick (sounding_at ns c key) (sym is_told ∙ h)
    where
      pick : (x : Option (ℕ × Note)) → told_of o table es note_part key x ≡ Some (b, false) → pressed_of x ≡ None
      pick None g = absurd cc
      pick (Some x) g =
          let pair : (begun_as o table note_part (number_of o note_part key es) x.1, not (is_some x.1.release)) ≡ (b, false) = cc in
          let up : not (is_some x.1.release) ≡ false = ap (λ (y : Begun × Bool). y.1) pair in
          ap (λ r. down_if r x.1) (turned (is_some x.1.release) up)
        where
          turned : (r : Bool) → not r ≡ false → r ≡ true
          turned true e = refl
          turned false e = absurd cc

  -- the note whose key is down
  pub record IsDown (P : Note → Type 0) (b : Begun) : Type 0 where
    pub note : Note
    pub pressed : pressed_note c key ns ≡ Some note
    pub found : IsFound P c key note
    pub steps : b.pair.steps ≡ steps_of (target_of o table note)
    pub target : b.target ≡ bend_aim o.range (table note.key note.onset)

  pub down_told : (P : Note → Type 0) → AllByRecursion P ns → (b : Begun) → told_on o table es note_part key ≡ Some (b, true) → IsDown P b
  down_told P all b h = pick (sounding_at ns c key) refl (sym is_told ∙ h)
    where
      pick : (x : Option (ℕ × Note)) → sounding_at ns c key ≡ x → told_of o table es note_part key x ≡ Some (b, true) → IsDown P b
      pick None e g = absurd cc
      pick (Some x) e g =
          let pair : (begun_as o table note_part (number_of o note_part key es) x.1, not (is_some x.1.release)) ≡ (b, true) = cc in
          let down : not (is_some x.1.release) ≡ true = ap (λ (y : Begun × Bool). y.1) pair in
          let begun : begun_as o table note_part (number_of o note_part key es) x.1 ≡ b = ap (λ (y : Begun × Bool). y.0) pair in
          record {
            note = x.1;
            pressed = is_pressed ∙ ap pressed_of e ∙ ap (λ r. down_if r x.1) (turned (is_some x.1.release) down);
            found = at_found P c key 1 ns x e all;
            steps = ap (λ (y : Begun). y.pair.steps) (sym begun) ∙ ap (λ r. cond r (steps_of (target_of o table x.1)) (pos 0)) bends;
            target = ap (λ (y : Begun). y.target) (sym begun)
                ∙ ap (λ r. cond r (bend_aim o.range (table x.1.key x.1.onset)) (tuning_aim (table x.1.key x.1.onset))) bends;
          }
        where
          turned : (r : Bool) → not r ≡ true → r ≡ false
          turned true e = absurd cc
          turned false e = refl

-- ---- what is released

-- where there is no note, or it has no target, nothing is sent
pub nothing_released : (z : ℕ) (o : Options) (table : Targets) (place : Pair → ℕ) (off : ℕ → ℕ → Msg) (c : ℕ) (x : Option Note) → x ≡ None →
    note_released z o table place off c x ≡ []
nothing_released z o table place off c x h = ap (note_released z o table place off c) h

pub unaimed_released : (z : ℕ) (o : Options) (table : Targets) (place : Pair → ℕ) (off : ℕ → ℕ → Msg) (c : ℕ) (x : Option Note) (n : Note) →
    x ≡ Some n →
    target_of o table n ≡ None → note_released z o table place off c x ≡ []
unaimed_released z o table place off c x n h aim = ap (note_released z o table place off c) h ∙ ap (off_at z place off c) aim

pub aimed_released : (z : ℕ) (o : Options) (table : Targets) (place : Pair → ℕ) (off : ℕ → ℕ → Msg) (c : ℕ) (x : Option Note) (n : Note)
    (t : BendTarget)
    → x ≡ Some n → target_of o table n ≡ Some t → note_released z o table place off c x ≡ off (place (pair_with z c t)) t.key ∷ []
aimed_released z o table place off c x n t h aim = ap (note_released z o table place off c) h ∙ ap (off_at z place off c) aim
