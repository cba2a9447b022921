-- The note that an event releases: the one whose key is down.
use Rattle.std.proofs.Common.{◌≡◌, ◌≤◌, ◌+◌, ◌&&◌, ℕ, suc, Bool, true, false, not, cond, if◌then◌else◌, List, [], ◌∷◌, Option, Some, None, is_some, refl, sym, ap, ◌∙◌, arith}
use Rattle.midi_model.specs.Notes.{Note, sounds, is_at, sounding_on}
use Rattle.channel_model.specs.BendOutput.{pressed_note}
use Rattle.receiver.specs.Sounding.{sounding_from}

-- the note that sounds on a key, where the key is down
abbrev pub pressed_by : Option (ℕ × Note) → Option Note
pressed_by None = None
pressed_by (Some x) = if not (is_some x.1.release) then Some x.1 else None

none_pressed : (c k : ℕ) (ns : List Note) → sounding_on c k ns ≤ 0 → pressed_note c k ns ≡ None
none_pressed c k [] h = refl
none_pressed c k (n ∷ ns) h = pick (is_at c k n) (sounds n) h (none_pressed c k ns)
  where
    pick : (a s : Bool) → cond (a && s) 1 0 + sounding_on c k ns ≤ 0 → (sounding_on c k ns ≤ 0 → pressed_note c k ns ≡ None)
        → cond (a && (s && not (is_some n.release))) (Some n) (pressed_note c k ns) ≡ None
    pick true true g later = absurd (omega (arith, g))
    pick true false g later = later (omega (arith, g))
    pick false s g later = later (omega (arith, g))

pub pressed_is : (c k i : ℕ) (ns : List Note) → sounding_on c k ns ≤ 1 → pressed_note c k ns ≡ pressed_by (sounding_from i ns c k)
pressed_is c k i [] h = refl
pressed_is c k i (n ∷ ns) h = pick (is_at c k n) (sounds n) (not (is_some n.release)) refl h (pressed_is c k (suc i) ns)
  where
    pick : (a s d : Bool) → not (is_some n.release) ≡ d → cond (a && s) 1 0 + sounding_on c k ns ≤ 1
        → (sounding_on c k ns ≤ 1 → pressed_note c k ns ≡ pressed_by (sounding_from (suc i) ns c k))
        → cond (a && (s && d)) (Some n) (pressed_note c k ns) ≡ pressed_by (cond (a && s) (Some (i, n)) (sounding_from (suc i) ns c k))
    pick true true true e g later = sym (ap (λ b. cond b (Some n) None) e)
    pick true true false e g later = none_pressed c k ns (omega (arith, g)) ∙ sym (ap (λ b. cond b (Some n) None) e)
    pick true false d e g later = later (omega (arith, g))
    pick false s d e g later = later (omega (arith, g))
