-- Which event may stand before which, and the laws of the merged order, which `merged_order` states, as premises.
use Rattle.std.proofs.Common.{◌≡◌, ℕ, ◌<◌, ◌≤◌, ◌⊎◌, List, [], ◌∷◌, ◌++◌, map, get_or, Bool, true, false, cond, leb, ltb, subst, ◌∙◌, inl, inr, arith}
use Rattle.std.specs.List.{AllByRecursion}
use Rattle.std.proofs.lemmas.Bool.{cases_order, le-leb, lt-ltb, ltb-true, leb-true, ne_eqb, eq-eqb}
use Rattle.mt_base.specs.Midi.{MidiEvent, placed}
use Rattle.midi_model.specs.FileText.{MidiFile}
use Rattle.midi_model.specs.Merged.{precedes, sorted, merged, InOrder, of_track}

-- an event is taken first where none of those of earlier tracks may stand before it, and it may stand before all others
abbrev pub FirstIsTaken : Type 0
FirstIsTaken = (xs : List MidiEvent) (e : MidiEvent) (ys : List MidiEvent) → AllByRecursion (λ x. precedes x e ≡ false) xs
    → AllByRecursion (λ y. precedes e y ≡ true) ys → sorted (xs ++ e ∷ ys) ≡ e ∷ sorted (xs ++ ys)

-- the events of a track that is in order keep their order
abbrev pub TrackIsKept : Type 0
TrackIsKept = (t : ℕ) (file : MidiFile) → InOrder (map (placed t) (get_or file.tracks t []))
    → of_track t (merged file) ≡ map (placed t) (get_or file.tracks t [])

-- ---- two events

abbrev pub Before : MidiEvent → MidiEvent → Type 0
Before e f = (e.tick < f.tick) ⊎ ((e.tick ≡ f.tick) × (e.track ≤ f.track))

by_tick : MidiEvent → MidiEvent → Bool → Type 0
by_tick e f same = cond same (leb e.track f.track) (ltb e.tick f.tick) ≡ true

pub before : (e f : MidiEvent) → precedes e f ≡ true → Before e f
unfolding by_tick
before e f h = elim (cases_order e.tick f.tick) [
  | inl same ↦ inr (same, leb-true e.track f.track (subst (by_tick e f) (eq-eqb e.tick f.tick same) h))
  | inr (inl low) ↦ inl low
  | inr (inr high) ↦ inl (ltb-true e.tick f.tick (subst (by_tick e f) (ne_eqb e.tick f.tick (λ z. omega (arith, z, high))) h))
]

pub is_before : (e f : MidiEvent) → Before e f → precedes e f ≡ true
is_before e f (inl low) = rw (ne_eqb e.tick f.tick (λ z. omega (arith, z, low))) (lt-ltb e.tick f.tick low)
is_before e f (inr (same, low)) = rw (eq-eqb e.tick f.tick same) (le-leb e.track f.track low)

goes_on : (e f g : MidiEvent) → Before e f → Before f g → Before e g
goes_on e f g (inl low) (inl lower) = inl (omega (arith, low, lower))
goes_on e f g (inl low) (inr (same, _)) = inl (omega (arith, low, same))
goes_on e f g (inr (same, _)) (inl lower) = inl (omega (arith, same, lower))
goes_on e f g (inr (same, low)) (inr (same2, low2)) = inr (same ∙ same2, omega (arith, low, low2))

pub goes_through : (e f g : MidiEvent) → precedes e f ≡ true → precedes f g ≡ true → precedes e g ≡ true
goes_through e f g h k = is_before e g (goes_on e f g (before e f h) (before f g k))

-- ---- a fact of each event

pub each_cond : (P : MidiEvent → Type 0) (b : Bool) (xs ys : List MidiEvent) → AllByRecursion P xs → AllByRecursion P ys → AllByRecursion P (cond b xs ys)
each_cond P true xs ys h k = h
each_cond P false xs ys h k = k

pub each_weaker : (P Q : MidiEvent → Type 0) (es : List MidiEvent) → ((e : MidiEvent) → P e → Q e) → AllByRecursion P es → AllByRecursion Q es
each_weaker P Q [] f h = h
each_weaker P Q (e ∷ es) f h = (f e h.0, each_weaker P Q es f h.1)

pub each_append : (P : MidiEvent → Type 0) (xs ys : List MidiEvent) → AllByRecursion P xs → AllByRecursion P ys → AllByRecursion P (xs ++ ys)
each_append P [] ys h k = k
each_append P (x ∷ xs) ys h k = (h.0, each_append P xs ys h.1 k)
