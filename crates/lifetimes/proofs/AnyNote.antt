-- Of some note, by places in lists.
use Rattle.std.proofs.Common.{◌≡◌, ◌<◌, ◌≤◌, ◌∙◌, ℕ, zero, suc, ◌+◌, ◌-◌, List, [], ◌∷◌, Bool, true, false, cond, ◌&&◌, ◌||◌, length, get_or, drop, refl, sym, ap, arith}
use Rattle.std.specs.Prelude.{filter}
use Rattle.std.proofs.lemmas.List.{get_or-drop, length-drop}
use Rattle.std.proofs.lemmas.Bool.{or_right}
use Rattle.midi_model.specs.Notes.{Note}
use Rattle.retune_model.specs.Faults.{any_note}
use Rattle.retune_model.specs.Rests.{nobody}

pub both : (a b : Bool) → (a ≡ true → b ≡ true) → (b ≡ true → a ≡ true) → a ≡ b
both true b f g = sym (f refl)
both false true f g = g refl
both false false f g = refl

pub parts : (a b : Bool) → (a && b) ≡ true → (a ≡ true) × (b ≡ true)
parts true true e = (refl, refl)
parts true false e = absurd cc
parts false b e = absurd cc

pub joined : (a b : Bool) → a ≡ true → b ≡ true → (a && b) ≡ true
joined true true e f = refl
joined true false e f = absurd cc
joined false b e f = absurd cc

pub note_at : (f : Note → Bool) (ns : List Note) (i : ℕ) → i < length ns → f (get_or ns i nobody) ≡ true → any_note f ns ≡ true
note_at f [] i low h = absurd (omega (arith, low))
note_at f (n ∷ ns) zero low h = ap (λ b. b || any_note f ns) h
note_at f (n ∷ ns) (suc i) low h = or_right (f n) (any_note f ns) (note_at f ns i (omega (arith, low)) h)

pub place_of : (f : Note → Bool) (ns : List Note) → any_note f ns ≡ true → (i : ℕ) × (i < length ns) × (f (get_or ns i nobody) ≡ true)
place_of f [] h = absurd cc
place_of f (n ∷ ns) h = pick (f n) refl h (place_of f ns)
  where
    pick : (b : Bool) → f n ≡ b → (b || any_note f ns) ≡ true → (any_note f ns ≡ true → (i : ℕ) × (i < length ns) × (f (get_or ns i nobody) ≡ true))
        → (i : ℕ) × (i < length (n ∷ ns)) × (f (get_or (n ∷ ns) i nobody) ≡ true)
    pick true e h later = (0, omega arith, e)
    pick false e h later = (let r = later h in (suc r.0, (let low = r.1 in omega (arith, low)), r.2))

pub any_filter : (f g : Note → Bool) (ns : List Note) → any_note f (filter g ns) ≡ any_note (λ n. g n && f n) ns
any_filter f g [] = refl
any_filter f g (n ∷ ns) = pick (g n) (any_filter f g ns)
  where
    pick : (b : Bool) → any_note f (filter g ns) ≡ any_note (λ n. g n && f n) ns
        → any_note f (cond b (n ∷ filter g ns) (filter g ns)) ≡ ((b && f n) || any_note (λ n. g n && f n) ns)
    pick true e = ap (λ b. f n || b) e
    pick false e = e

-- ---- behind a place

pub note_behind : (f : Note → Bool) (p : ℕ) (ns : List Note) (i : ℕ) → p ≤ i → i < length ns → f (get_or ns i nobody) ≡ true
    → any_note f (drop p ns) ≡ true
note_behind f p ns i le low h =
    note_at f (drop p ns) (i - p) (let l = length-drop p ns in omega (arith, l, low, le))
    (ap f (get_or-drop p ns (i - p) nobody ∙ ap (λ j. get_or ns j nobody) (let e : p + (i - p) ≡ i = omega (arith, le) in e)) ∙ h)

pub place_behind : (f : Note → Bool) (p : ℕ) (ns : List Note) → any_note f (drop p ns) ≡ true
    → (i : ℕ) × (p ≤ i) × (i < length ns) × (f (get_or ns i nobody) ≡ true)
place_behind f p ns h =
    let r = place_of f (drop p ns) h in
    (p + r.0, omega arith, (let low = r.1 in let l = length-drop p ns in omega (arith, l, low)), sym (ap f (get_or-drop p ns r.0 nobody)) ∙ r.2)

-- where it holds of none before, those can be left out
pub any_drop : (f : Note → Bool) (p : ℕ) (ns : List Note) → ((i : ℕ) → i < length ns → f (get_or ns i nobody) ≡ true → p ≤ i)
    → any_note f (drop p ns) ≡ any_note f ns
any_drop f p ns late = both (any_note f (drop p ns)) (any_note f ns)
    (λ h. let r = place_behind f p ns h in note_at f ns r.0 r.2 r.3)
    (λ h. let r = place_of f ns h in note_behind f p ns r.0 (late r.0 r.1 r.2) r.1 r.2)
