-- Dealing events out to their tracks, and merging the tracks.
use Rattle.std.proofs.Common.{◌≡◌, ℕ, zero, suc, ◌+◌, ◌<◌, List, [], ◌∷◌, ◌++◌, length, map, filter, set, get_or, Bool, true, false, cond, eqb, refl, sym, ap, subst, ◌∙◌, inl, inr, arith}
use Rattle.std.specs.List.{AllByRecursion}
use Rattle.std.proofs.lemmas.Bool.{cases_Bool, eqb-true, eq-eqb, ne_eqb}
use Rattle.std.proofs.lemmas.List.{append-nil, map-append, ext_get_or}
use Rattle.std.proofs.lemmas.List.Elements.{filter-append}
use Rattle.mt_base.specs.Midi.{Timed, MidiEvent, placed}
use Rattle.midi_model.specs.Merged.{merged_tracks, InOrder, of_track, timed}
use Rattle.event_stream.specs.Distributed.{events_in, distributed_from, distributed}
use Rattle.event_stream.specs.Keys.{AreInOrder}
use Rattle.event_stream.proofs.Ordering.{FirstIsTaken, TrackIsKept, Before, before, each_weaker, each_cond}
use Rattle.event_stream.proofs.Taking.{ComesBefore, IsFirst, takes, merged_empty}

-- ---- the events of one track

pub is_in : (t : ℕ) (e : MidiEvent) (es : List MidiEvent) → e.track ≡ t → events_in t (e ∷ es) ≡ timed e ∷ events_in t es
is_in t e es is = rw (eq-eqb e.track t is) refl

pub not_in : (t : ℕ) (e : MidiEvent) (es : List MidiEvent) → (e.track ≡ t → ⊥) → events_in t (e ∷ es) ≡ events_in t es
not_in t e es not = rw (ne_eqb e.track t not) refl

pub back_in_place : (t : ℕ) (e : MidiEvent) → e.track ≡ t → placed t (timed e) ≡ e
back_in_place t e is = let made : ℕ → MidiEvent = λ m. record { tick = e.tick; track = m; what = e.what } in ap made (sym is)

placed_timed : (t : ℕ) (es : List MidiEvent) → map (placed t) (events_in t es) ≡ of_track t es
placed_timed t [] = refl
placed_timed t (e ∷ es) = elim (cases_Bool (eqb e.track t)) [
  | inl same ↦ rw same (ap (λ x. x ∷ map (placed t) (events_in t es)) (back_in_place t e (eqb-true e.track t same)) ∙ ap (λ l. e ∷ l) (placed_timed t es))
  | inr other ↦ rw other (placed_timed t es)
]

pub timed_placed : (t : ℕ) (es : List Timed) → map timed (map (placed t) es) ≡ es
timed_placed t [] = refl
timed_placed t (e ∷ es) = ap (λ l. e ∷ l) (timed_placed t es)

pub each_picked : (p : MidiEvent → Bool) (P : MidiEvent → Type 0) (es : List MidiEvent) → AllByRecursion P es → AllByRecursion P (filter p es)
each_picked p P [] h = tt
each_picked p P (e ∷ es) h = each_cond P (p e) _ _ (h.0, each_picked p P es h.1) (each_picked p P es h.1)

in_order_cond : (b : Bool) (xs ys : List MidiEvent) → InOrder xs → InOrder ys → InOrder (cond b xs ys)
in_order_cond true xs ys h k = h
in_order_cond false xs ys h k = k

picked_in_order : (p : MidiEvent → Bool) (es : List MidiEvent) → InOrder es → InOrder (filter p es)
picked_in_order p [] h = tt
picked_in_order p (e ∷ es) h = in_order_cond (p e) _ _ (each_picked p _ es h.0, picked_in_order p es h.1) (picked_in_order p es h.1)

-- ---- all tracks

pub length_dealt : (n m : ℕ) (es : List MidiEvent) → length (distributed_from n m es) ≡ m
length_dealt n zero es = refl
length_dealt n (suc m) es = ap suc (length_dealt (suc n) m es)

pub get_dealt : (n m i t : ℕ) (es : List MidiEvent) → t ≡ n + i → i < m → get_or (distributed_from n m es) i [] ≡ events_in t es
get_dealt n zero i t es is lt = absurd (omega (arith, lt))
get_dealt n (suc m) zero t es is lt = let e : n ≡ t = omega (arith, is) in ap (λ k. events_in k es) e
get_dealt n (suc m) (suc i) t es is lt = get_dealt (suc n) m i t es (omega (arith, is)) (omega (arith, lt))

later_same : (n m : ℕ) (e : MidiEvent) (es : List MidiEvent) → e.track < n → distributed_from n m (e ∷ es) ≡ distributed_from n m es
later_same n zero e es lt = refl
later_same n (suc m) e es lt = rw (not_in n e es (λ z. omega (arith, z, lt)), later_same (suc n) m e es (omega (arith, lt))) refl

without_first : (n m i : ℕ) (e : MidiEvent) (es : List MidiEvent) → e.track ≡ n + i → i < m → set (distributed_from n m (e ∷ es)) i (events_in e.track es) ≡ distributed_from n m es
without_first n zero i e es is lt = absurd (omega (arith, lt))
without_first n (suc m) zero e es is lt =
    let t : e.track ≡ n = omega (arith, is) in
    ap (λ l. events_in e.track es ∷ l) (later_same (suc n) m e es (omega (arith, t))) ∙ ap (λ k. events_in k es ∷ distributed_from (suc n) m es) t
without_first n (suc m) (suc i) e es is lt =
    ap (λ l. l ∷ set (distributed_from (suc n) m (e ∷ es)) i (events_in e.track es)) (not_in n e es (λ z. omega (arith, z, is)))
    ∙ ap (λ l. events_in n es ∷ l) (without_first (suc n) m i e es (omega (arith, is)) (omega (arith, lt)))

comes_before : (e : MidiEvent) (n : ℕ) (es : List MidiEvent) → AllByRecursion (Before e) es → ComesBefore e n (events_in n es)
comes_before e n [] h = tt
comes_before e n (f ∷ fs) h = elim (cases_Bool (eqb f.track n)) [
  | inl same ↦
      let is = eqb-true f.track n same in
      subst (ComesBefore e n) (sym (is_in n f fs is)) (subst (Before e) (sym (back_in_place n f is)) h.0)
  | inr other ↦ rw other (comes_before e n fs h.1)
]

is_first : (e : MidiEvent) (n m : ℕ) (es : List MidiEvent) → AllByRecursion (Before e) es → IsFirst e n (distributed_from n m es)
is_first e n zero es h = tt
is_first e n (suc m) es h = (comes_before e n es h, is_first e (suc n) m es h)

dealt_in_order : (n m : ℕ) (es : List MidiEvent) → InOrder es → AreInOrder n (distributed_from n m es)
dealt_in_order n zero es h = tt
dealt_in_order n (suc m) es h = (subst InOrder (sym (placed_timed n es)) (picked_in_order _ es h), dealt_in_order (suc n) m es h)

none_dealt : (n m : ℕ) → AllByRecursion (λ es. es ≡ []) (distributed_from n m [])
none_dealt n zero = tt
none_dealt n (suc m) = (refl, none_dealt (suc n) m)

-- What was dealt out, merged, is the list again.
pub merged_again : FirstIsTaken → (n : ℕ) (es : List MidiEvent) → InOrder es → AllByRecursion (λ e. e.track < n) es → merged_tracks (distributed n es) ≡ es
merged_again taken n [] h k = merged_empty (distributed n []) (none_dealt 0 n)
merged_again taken n (e ∷ es) h k =
    let ts = distributed n (e ∷ es) in
    let len = length_dealt 0 n (e ∷ es) in
    let head = get_dealt 0 n e.track e.track (e ∷ es) (omega arith) k.0 ∙ is_in e.track e es refl in
    let first = is_first e 0 n (e ∷ es) (inr (refl, omega arith), each_weaker _ _ es (before e) h.0) in
    takes taken e.track (timed e) (events_in e.track es) ts (omega (arith, len, k.0)) head first (dealt_in_order 0 n (e ∷ es) h)
    ∙ ap (λ l. e ∷ merged_tracks l) (without_first 0 n e.track e es (omega arith) k.0)
    ∙ ap (λ l. e ∷ l) (merged_again taken n es h.1 k.1)

in_order_at : (n i t : ℕ) (ts : List (List Timed)) → t ≡ n + i → AreInOrder n ts → InOrder (map (placed t) (get_or ts i []))
in_order_at n i t [] is h = tt
in_order_at n zero t (es ∷ ts) is h = let e : n ≡ t = omega (arith, is) in subst (λ m. InOrder (map (placed m) es)) e h.0
in_order_at n (suc i) t (es ∷ ts) is h = in_order_at (suc n) i t ts (omega (arith, is)) h.1

-- What was merged, dealt out, is the tracks again.
pub dealt_again : TrackIsKept → (ts : List (List Timed)) → AreInOrder 0 ts → distributed (length ts) (merged_tracks ts) ≡ ts
dealt_again kept ts h =
    let len = length_dealt 0 (length ts) (merged_tracks ts) in
    ext_get_or [] (distributed (length ts) (merged_tracks ts)) ts len (λ i lt.
    get_dealt 0 (length ts) i i (merged_tracks ts) (omega arith) (omega (arith, lt, len))
    ∙ ap (map timed) (kept i (record { format = 0; division = 0; tracks = ts }) (in_order_at 0 i i ts (omega arith) h))
    ∙ timed_placed i (get_or ts i []))

-- ---- an event at the end

one_more : (t : ℕ) (e : MidiEvent) (es : List MidiEvent) → e.track ≡ t → events_in t (es ++ e ∷ []) ≡ events_in t es ++ timed e ∷ []
one_more t e es is =
    ap (map timed) (filter-append (λ (f : MidiEvent). eqb f.track t) es (e ∷ []))
    ∙ map-append timed (of_track t es) (of_track t (e ∷ []))
    ∙ ap (λ l. events_in t es ++ l) (is_in t e [] is)

none_more : (t : ℕ) (e : MidiEvent) (es : List MidiEvent) → (e.track ≡ t → ⊥) → events_in t (es ++ e ∷ []) ≡ events_in t es
none_more t e es not =
    ap (map timed) (filter-append (λ (f : MidiEvent). eqb f.track t) es (e ∷ []))
    ∙ map-append timed (of_track t es) (of_track t (e ∷ []))
    ∙ ap (λ l. events_in t es ++ l) (not_in t e [] not)
    ∙ append-nil (events_in t es)

later_kept : (n m : ℕ) (e : MidiEvent) (es : List MidiEvent) → e.track < n → distributed_from n m (es ++ e ∷ []) ≡ distributed_from n m es
later_kept n zero e es lt = refl
later_kept n (suc m) e es lt = rw (none_more n e es (λ z. omega (arith, z, lt)), later_kept (suc n) m e es (omega (arith, lt))) refl

-- an event more, in its track
pub with_last : (n m i : ℕ) (e : MidiEvent) (es : List MidiEvent) → e.track ≡ n + i → i < m
    → distributed_from n m (es ++ e ∷ []) ≡ set (distributed_from n m es) i (events_in e.track es ++ timed e ∷ [])
with_last n zero i e es is lt = absurd (omega (arith, lt))
with_last n (suc m) zero e es is lt =
    let t : e.track ≡ n = omega (arith, is) in
    rw (one_more n e es t, later_kept (suc n) m e es (omega (arith, t))) (ap (λ k. (events_in k es ++ timed e ∷ []) ∷ distributed_from (suc n) m es) (sym t))
with_last n (suc m) (suc i) e es is lt =
    rw (none_more n e es (λ z. omega (arith, z, is)), with_last (suc n) m i e es (omega (arith, is)) (omega (arith, lt))) refl
