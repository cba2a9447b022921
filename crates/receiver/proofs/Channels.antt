-- One channel out of all.
use Rattle.std.proofs.Common.{◌≡◌, ℕ, zero, suc, ◌<◌, List, [], ◌∷◌, map, length, get_or, replicate, slice_index, Option, Some, None, is_some, refl, ap, sym, ◌∙◌}
use Rattle.std.specs.List.{AllByRecursion}
use Rattle.std.proofs.lemmas.List.{get_or-map}
use Rattle.receiver.specs.declared.playing.Playing.{Playing}
use Rattle.receiver.specs.Notes.{Told, note_of}
use Rattle.receiver.specs.Heard.{heard_by, heard}
use Rattle.receiver.specs.State.{own_of}
use Rattle.receiver.specs.Turns.{pressure_in}
use Rattle.midi_model.specs.Channel.{default_channel}

pub heard_at : (xs : List Playing) (c k : ℕ) (d : Playing) → c < length xs → get_or (map (λ s. heard c s k) xs) c None ≡ heard c (get_or xs c d) k
heard_at xs c k d below = get_or-map (λ s. heard c s k) xs c d None below

-- whether something sounds, and with which pressure
pub sounds_there : (c k p : ℕ) (o : Option Told) → is_some (heard_by c k p o) ≡ is_some o
sounds_there c k p None = refl
sounds_there c k p (Some n) = refl

pub pressure_there : (c k : ℕ) (s : Playing) → k < 128 → pressure_in (heard c s k) ≡ slice_index s.state.keys.items k
pressure_there c k s below = pick (note_of s.keys k) refl
  where
    pick : (o : Option Told) → note_of s.keys k ≡ o → pressure_in (heard_by c k (slice_index s.state.keys.items k) o) ≡ slice_index s.state.keys.items k
    pick None e = sym (s.calm k below e)
    pick (Some n) e = refl

pub own_at : (xs : List Playing) (c : ℕ) (d : Playing) → c < length xs → get_or (map (λ s. own_of s.state) xs) c default_channel ≡ own_of (get_or xs c d).state
own_at xs c d below = get_or-map (λ s. own_of s.state) xs c d default_channel below

-- ---- channels at their defaults, on which nothing sounds
pub record IsFresh (s : Playing) : Type 0 where
  pub heard : (c k : ℕ) → k < 128 → heard c s k ≡ None
  pub own : own_of s.state ≡ default_channel
  pub tuning : s.state.tuning ≡ None

pub record AreFresh (xs : List Playing) : Type 0 where
  pub each : AllByRecursion IsFresh xs

infixr 20 ◌also◌
pub ◌also◌ : {x : Playing} {xs : List Playing} → IsFresh x → AreFresh xs → AreFresh (x ∷ xs)
h also k = record { each = (h, k.each) }

pub fresh_states : (xs : List Playing) → AllByRecursion IsFresh xs → map (λ s. own_of s.state) xs ≡ replicate (length xs) default_channel
fresh_states [] h = refl
fresh_states (x ∷ xs) h = ap (λ s. s ∷ map (λ t. own_of t.state) xs) h.0.own ∙ ap (λ ss. default_channel ∷ ss) (fresh_states xs h.1)

pub fresh_selected : (xs : List Playing) → AllByRecursion IsFresh xs → map (λ s. s.state.tuning) xs ≡ replicate (length xs) None
fresh_selected [] h = refl
fresh_selected (x ∷ xs) h = ap (λ o. o ∷ map (λ t. t.state.tuning) xs) h.0.tuning ∙ ap (λ os. None ∷ os) (fresh_selected xs h.1)

pub fresh_slot : (xs : List Playing) (c k i : ℕ) → k < 128 → AllByRecursion IsFresh xs → get_or (map (λ s. heard c s k) xs) i None ≡ None
fresh_slot [] c k i below h = refl
fresh_slot (x ∷ xs) c k zero below h = h.0.heard c k below
fresh_slot (x ∷ xs) c k (suc i) below h = fresh_slot xs c k i below h.1
