-- Taking the first of what is left of each track.
use Rattle.std.proofs.Common.{◌≡◌, ℕ, zero, suc, ◌+◌, ◌*◌, ◌<◌, ◌≤◌, ◌⊎◌, List, [], ◌∷◌, ◌++◌, length, map, set, get_or, true, false, refl, sym, ap, subst, ◌∙◌, inl, inr, arith, append_assoc}
use Rattle.std.specs.List.{AllByRecursion}
use Rattle.std.proofs.lemmas.Bool.{le-ltb, ne_eqb, cases_order}
use Rattle.mt_base.specs.Midi.{Timed, MidiEvent, placed}
use Rattle.midi_model.specs.Merged.{precedes, sorted, one_by_one, merged_tracks, InOrder}
use Rattle.event_stream.specs.Keys.{key_of, keys_of, AreInOrder}
use Rattle.event_stream.proofs.Ordering.{FirstIsTaken, Before, before, is_before, goes_through, each_weaker, each_append}

-- an event comes before what is left of a track, or is its first
abbrev pub ComesBefore : MidiEvent → ℕ → List Timed → Type 0
ComesBefore e n [] = Unit {0}
ComesBefore e n (f ∷ fs) = Before e (placed n f)

-- .. of each track
abbrev pub IsFirst : MidiEvent → ℕ → List (List Timed) → Type 0
IsFirst e n [] = Unit {0}
IsFirst e n (es ∷ ts) = ComesBefore e n es × IsFirst e (suc n) ts

not_before : (e f : MidiEvent) → f.tick < e.tick → precedes e f ≡ false
not_before e f l = rw (ne_eqb e.tick f.tick (λ z. omega (arith, z, l))) (let m : f.tick ≤ e.tick = omega (arith, l) in le-ltb e.tick f.tick m)

pub no_earlier : (e f : MidiEvent) → Before e f → e.tick ≤ f.tick
no_earlier e f (inl l) = omega (arith, l)
no_earlier e f (inr l) = omega (arith, l.0)

-- what is left of the event's own track or a later one
follows : (e : MidiEvent) (n : ℕ) (es : List Timed) → ComesBefore e n es → InOrder (map (placed n) es) → AllByRecursion (λ y. precedes e y ≡ true) (map (placed n) es)
follows e n [] h k = tt
follows e n (f ∷ fs) h k =
    let first = is_before e (placed n f) h in
    (first, each_weaker _ _ (map (placed n) fs) (λ y p. goes_through e (placed n f) y first p) k.0)

all_follow : (e : MidiEvent) (n : ℕ) (ts : List (List Timed)) → IsFirst e n ts → AreInOrder n ts → AllByRecursion (λ y. precedes e y ≡ true) (one_by_one n ts)
all_follow e n [] h k = tt
all_follow e n (es ∷ ts) h k = each_append _ (map (placed n) es) (one_by_one (suc n) ts) (follows e n es h.0 k.0) (all_follow e (suc n) ts h.1 k.1)

-- .. of an earlier track
strictly : (e f : MidiEvent) → f.track < e.track → Before e f → e.tick < f.tick
strictly e f lt (inl l) = l
strictly e f lt (inr l) = absurd (omega (arith, lt, l.1))

later : (e : MidiEvent) (n : ℕ) (es : List Timed) → n < e.track → ComesBefore e n es → InOrder (map (placed n) es) → AllByRecursion (λ x. precedes x e ≡ false) (map (placed n) es)
later e n [] lt h k = tt
later e n (f ∷ fs) lt h k =
    let low = strictly e (placed n f) lt h in
    (not_before (placed n f) e low, each_weaker _ _ (map (placed n) fs) (λ y p. let high = no_earlier (placed n f) y (before (placed n f) y p) in not_before y e (omega (arith, low, high))) k.0)

-- the events of the tracks, parted at the one that is taken
pub record Parted (n i : ℕ) (e : MidiEvent) (es : List Timed) (ts : List (List Timed)) : Type 0 where
  pub front : List MidiEvent
  pub back : List MidiEvent
  pub whole : one_by_one n ts ≡ front ++ e ∷ back
  pub without : one_by_one n (set ts i es) ≡ front ++ back
  pub front_later : AllByRecursion (λ x. precedes x e ≡ false) front
  pub back_follows : AllByRecursion (λ y. precedes e y ≡ true) back

in_front_of : (n i : ℕ) (e : MidiEvent) (es fs : List Timed) (ts : List (List Timed)) → n < e.track → ComesBefore e n fs → InOrder (map (placed n) fs) → Parted (suc n) i e es ts → Parted n (suc i) e es (fs ∷ ts)
in_front_of n i e es fs ts lt h k p = record {
  front = map (placed n) fs ++ p.front;
  back = p.back;
  whole = ap (λ l. map (placed n) fs ++ l) p.whole ∙ sym (append_assoc (map (placed n) fs) p.front (e ∷ p.back));
  without = ap (λ l. map (placed n) fs ++ l) p.without ∙ sym (append_assoc (map (placed n) fs) p.front p.back);
  front_later = each_append _ (map (placed n) fs) p.front (later e n fs lt h k) p.front_later;
  back_follows = p.back_follows;
}

at_front : (n : ℕ) (e : Timed) (es : List Timed) (ts : List (List Timed)) → IsFirst (placed n e) n ((e ∷ es) ∷ ts) → AreInOrder n ((e ∷ es) ∷ ts) → Parted n 0 (placed n e) es ((e ∷ es) ∷ ts)
at_front n e es ts h k = record {
  front = [];
  back = map (placed n) es ++ one_by_one (suc n) ts;
  whole = refl;
  without = refl;
  front_later = tt;
  back_follows = each_append _ (map (placed n) es) (one_by_one (suc n) ts) k.0.0 (all_follow (placed n e) (suc n) ts h.1 k.1);
}

here : (n t : ℕ) (e : Timed) (es fs : List Timed) (ts : List (List Timed)) → n ≡ t → fs ≡ e ∷ es → IsFirst (placed t e) n (fs ∷ ts) → AreInOrder n (fs ∷ ts) → Parted n 0 (placed t e) es (fs ∷ ts)
here n t e es fs ts same head =
    subst (λ m. IsFirst (placed m e) n (fs ∷ ts) → AreInOrder n (fs ∷ ts) → Parted n 0 (placed m e) es (fs ∷ ts)) same
    (subst (λ gs. IsFirst (placed n e) n (gs ∷ ts) → AreInOrder n (gs ∷ ts) → Parted n 0 (placed n e) es (gs ∷ ts)) (sym head) (at_front n e es ts))

pub parted : (n i t : ℕ) (e : Timed) (es : List Timed) (ts : List (List Timed)) → t ≡ n + i → i < length ts → get_or ts i [] ≡ e ∷ es → IsFirst (placed t e) n ts → AreInOrder n ts → Parted n i (placed t e) es ts
parted n i t e es [] is lt head h k = absurd (omega (arith, lt))
parted n zero t e es (fs ∷ ts) is lt head h k = here n t e es fs ts (omega (arith, is)) head h k
parted n (suc i) t e es (fs ∷ ts) is lt head h k =
    in_front_of n i (placed t e) es fs ts (omega (arith, is)) h.0 k.0 (parted (suc n) i t e es ts (omega (arith, is)) (omega (arith, lt)) head h.1 k.1)

-- The merged order begins with the first of what is left of each track, and goes on without it.
pub takes : FirstIsTaken → (i : ℕ) (e : Timed) (es : List Timed) (ts : List (List Timed)) → i < length ts → get_or ts i [] ≡ e ∷ es → IsFirst (placed i e) 0 ts → AreInOrder 0 ts
    → merged_tracks ts ≡ placed i e ∷ merged_tracks (set ts i es)
takes taken i e es ts lt head h k =
    let p = parted 0 i i e es ts (omega arith) lt head h k in
    ap sorted p.whole ∙ taken p.front (placed i e) p.back p.front_later p.back_follows ∙ ap (λ l. placed i e ∷ sorted l) (sym p.without)

-- ---- what is left stays in order

pub one_fewer : (n i : ℕ) (e : Timed) (es : List Timed) (ts : List (List Timed)) → get_or ts i [] ≡ e ∷ es → AreInOrder n ts → AreInOrder n (set ts i es)
one_fewer n i e es [] head h = tt
one_fewer n zero e es (fs ∷ ts) head h = ((subst (λ gs. InOrder (map (placed n) gs)) head h.0).1, h.1)
one_fewer n (suc i) e es (fs ∷ ts) head h = (h.0, one_fewer (suc n) i e es ts head h.1)

-- ---- nothing is left

empty_from : (n : ℕ) (ts : List (List Timed)) → AllByRecursion (λ es. es ≡ []) ts → one_by_one n ts ≡ []
empty_from n [] h = refl
empty_from n (es ∷ ts) h = rw (h.0, empty_from (suc n) ts h.1) refl

pub merged_empty : (ts : List (List Timed)) → AllByRecursion (λ es. es ≡ []) ts → merged_tracks ts ≡ []
merged_empty ts h = ap sorted (empty_from 0 ts h)

-- ---- by keys

first_of_two : (d a f n : ℕ) → n < 65536 → d * 65536 + a ≤ f * 65536 + n → (d < f) ⊎ ((d ≡ f) × (a ≤ n))
first_of_two d a f n few h = elim (cases_order d f) [
  | inl same ↦ inr (same, omega (arith, same, h))
  | inr (inl low) ↦ inl low
  | inr (inr high) ↦ absurd (omega (arith, high, few, h))
]

comes_before : (e : MidiEvent) (n : ℕ) (es : List Timed) → n < 65536 → e.tick * 65536 + e.track ≤ key_of n es → ComesBefore e n es
comes_before e n [] few h = tt
comes_before e n (f ∷ fs) few h = first_of_two e.tick e.track f.tick n few h

pub first_by_key : (e : MidiEvent) (n : ℕ) (ts : List (List Timed)) → n + length ts ≤ 65536 → AllByRecursion (λ k. e.tick * 65536 + e.track ≤ k) (keys_of n ts) → IsFirst e n ts
first_by_key e n [] few h = tt
first_by_key e n (es ∷ ts) few h = (comes_before e n es (omega (arith, few)) h.0, first_by_key e (suc n) ts (omega (arith, few)) h.1)
