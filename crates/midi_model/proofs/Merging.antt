-- What sorting events gives.
use Rattle.std.proofs.Common.{◌≡◌, ℕ, zero, suc, ◌+◌, ◌<◌, ◌≤◌, ◌⊎◌, List, [], ◌∷◌, ◌++◌, length, map, filter, get_or, Bool, true, false, cond, eqb, leb, ltb, refl, sym, ap, subst, ◌∙◌, inl, inr, arith}
use Rattle.std.specs.Prelude.{IsPermutation}
use Rattle.std.specs.List.{AllByRecursion}
use Rattle.std.proofs.lemmas.Bool.{cases_Bool, cases_order, le-leb, lt-ltb, ltb-true, leb-true, leb-false, ne_eqb, eq-eqb}
use Rattle.std.proofs.lemmas.List.{append-nil}
use Rattle.std.proofs.lemmas.List.Elements.{filter-append}
use Rattle.std.proofs.lemmas.List.Sorted.{IsPermutation-refl, IsPermutation-trans, IsPermutation-cons, IsPermutation-middle}
use Rattle.mt_base.specs.Midi.{Timed, MidiEvent, placed}
use Rattle.mt_base.specs.Valid.{IsValidEvent}
use Rattle.midi_model.specs.Merged.{precedes, put_in, sorted, one_by_one, merged_tracks, InOrder, EndsOnce, of_track, IsTrackOf, AreTracksOf, IsPlayable}

abbrev pub Before : MidiEvent → MidiEvent → Type 0
Before e f = (e.tick < f.tick) ⊎ ((e.tick ≡ f.tick) × (e.track ≤ f.track))

pub before : (e f : MidiEvent) → precedes e f ≡ true → Before e f
before e f h = elim (cases_order e.tick f.tick) [
  | inl same ↦ inr (same, leb-true e.track f.track (subst (λ t. cond t (leb e.track f.track) (ltb e.tick f.tick) ≡ true) (eq-eqb e.tick f.tick same) h))
  | inr other ↦ inl (ltb-true e.tick f.tick (subst (λ t. cond t (leb e.track f.track) (ltb e.tick f.tick) ≡ true) (ne_eqb e.tick f.tick (λ z. elim other [ inl l ↦ omega (arith, z, l) | inr l ↦ omega (arith, z, l) ])) h))
]

pub is_before : (e f : MidiEvent) → Before e f → precedes e f ≡ true
is_before e f (inl l) = rw (ne_eqb e.tick f.tick (λ z. omega (arith, z, l))) (lt-ltb e.tick f.tick l)
is_before e f (inr (same, l)) = rw (eq-eqb e.tick f.tick same) (le-leb e.track f.track l)

-- of two events one may stand before the other
pub after : (e f : MidiEvent) → precedes e f ≡ false → precedes f e ≡ true
after e f h = is_before f e (elim (cases_order e.tick f.tick) [
  | inl same ↦ elim (cases_Bool (leb e.track f.track)) [
    | inl low ↦ absurd (let on : precedes e f ≡ true = is_before e f (inr (same, leb-true _ _ low)) in cc)
    | inr high ↦ let l = leb-false e.track f.track high in inr (sym same, omega (arith, l))
  ]
  | inr (inl low) ↦ absurd (let on : precedes e f ≡ true = is_before e f (inl low) in cc)
  | inr (inr high) ↦ inl high
])

pub goes_through : (e f g : MidiEvent) → precedes e f ≡ true → precedes f g ≡ true → precedes e g ≡ true
goes_through e f g h k = is_before e g (elim (before e f h) [
  | inl l ↦ elim (before f g k) [
    | inl m ↦ inl (omega (arith, l, m))
    | inr m ↦ inl (omega (arith, l, m.0))
  ]
  | inr l ↦ elim (before f g k) [
    | inl m ↦ inl (omega (arith, l.0, m))
    | inr m ↦ inr (l.0 ∙ m.0, omega (arith, l.1, m.1))
  ]
])

-- ---- a fact of each element

pub each_cond : (P : MidiEvent → Type 0) (b : Bool) (xs ys : List MidiEvent) → (b ≡ true → AllByRecursion P xs) → (b ≡ false → AllByRecursion P ys) → AllByRecursion P (cond b xs ys)
each_cond P true xs ys h k = h refl
each_cond P false xs ys h k = k refl

pub each_put_in : (P : MidiEvent → Type 0) (e : MidiEvent) (es : List MidiEvent) → P e → AllByRecursion P es → AllByRecursion P (put_in e es)
each_put_in P e [] p h = (p, h)
each_put_in P e (f ∷ fs) p h = each_cond P (precedes e f) _ _ (λ _. (p, h)) (λ _. (h.0, each_put_in P e fs p h.1))

pub each_sorted : (P : MidiEvent → Type 0) (es : List MidiEvent) → AllByRecursion P es → AllByRecursion P (sorted es)
each_sorted P [] h = h
each_sorted P (e ∷ es) h = each_put_in P e (sorted es) h.0 (each_sorted P es h.1)

pub each_weaker : (P Q : MidiEvent → Type 0) (es : List MidiEvent) → ((e : MidiEvent) → P e → Q e) → AllByRecursion P es → AllByRecursion Q es
each_weaker P Q [] f h = h
each_weaker P Q (e ∷ es) f h = (f e h.0, each_weaker P Q es f h.1)

pub each_append : (P : MidiEvent → Type 0) (xs ys : List MidiEvent) → AllByRecursion P xs → AllByRecursion P ys → AllByRecursion P (xs ++ ys)
each_append P [] ys h k = k
each_append P (x ∷ xs) ys h k = (h.0, each_append P xs ys h.1 k)

-- ---- in order

in_order_cond : (b : Bool) (xs ys : List MidiEvent) → (b ≡ true → InOrder xs) → (b ≡ false → InOrder ys) → InOrder (cond b xs ys)
in_order_cond true xs ys h k = h refl
in_order_cond false xs ys h k = k refl

pub put_in_order : (e : MidiEvent) (es : List MidiEvent) → InOrder es → InOrder (put_in e es)
put_in_order e [] h = (tt, tt)
put_in_order e (f ∷ fs) h = in_order_cond (precedes e f) _ _
    (λ yes. ((yes, each_weaker _ _ fs (λ g. goes_through e f g yes) h.0), h))
    (λ no. (each_put_in _ e fs (after e f no) h.0, put_in_order e fs h.1))

pub sorted_in_order : (es : List MidiEvent) → InOrder (sorted es)
sorted_in_order [] = tt
sorted_in_order (e ∷ es) = put_in_order e (sorted es) (sorted_in_order es)

-- ---- the same events

permuted_cond : (b : Bool) (xs ys zs : List MidiEvent) → IsPermutation xs ys → IsPermutation xs zs → IsPermutation xs (cond b ys zs)
permuted_cond true xs ys zs h k = h
permuted_cond false xs ys zs h k = k

put_in_permutes : (e : MidiEvent) (es : List MidiEvent) → IsPermutation (e ∷ es) (put_in e es)
put_in_permutes e [] = IsPermutation-refl (e ∷ [])
put_in_permutes e (f ∷ fs) = permuted_cond (precedes e f) _ _ _ (IsPermutation-refl (e ∷ f ∷ fs))
    (IsPermutation-trans _ (f ∷ e ∷ fs) _ (IsPermutation-middle (e ∷ []) f fs) (IsPermutation-cons f _ _ (put_in_permutes e fs)))

pub sorted_permutes : (es : List MidiEvent) → IsPermutation es (sorted es)
sorted_permutes [] = IsPermutation-refl []
sorted_permutes (e ∷ es) = IsPermutation-trans _ _ _ (IsPermutation-cons e _ _ (sorted_permutes es)) (put_in_permutes e (sorted es))

length_cond : (b : Bool) (xs ys : List MidiEvent) (n : ℕ) → length xs ≡ n → length ys ≡ n → length (cond b xs ys) ≡ n
length_cond true xs ys n h k = h
length_cond false xs ys n h k = k

put_in_length : (e : MidiEvent) (es : List MidiEvent) → length (put_in e es) ≡ suc (length es)
put_in_length e [] = refl
put_in_length e (f ∷ fs) = length_cond (precedes e f) _ _ _ refl (ap suc (put_in_length e fs))

pub sorted_length : (es : List MidiEvent) → length (sorted es) ≡ length es
sorted_length [] = refl
sorted_length (e ∷ es) = put_in_length e (sorted es) ∙ ap suc (sorted_length es)

-- ---- the first of all

put_in_first : (e : MidiEvent) (es : List MidiEvent) → AllByRecursion (λ f. precedes e f ≡ true) es → put_in e es ≡ e ∷ es
put_in_first e [] h = refl
put_in_first e (f ∷ fs) h = rw h.0 refl

-- An event that none before it may stand before, and that may stand before all after it, is the first.
pub takes_first : (xs : List MidiEvent) (e : MidiEvent) (ys : List MidiEvent) → AllByRecursion (λ x. precedes x e ≡ false) xs → AllByRecursion (λ y. precedes e y ≡ true) ys
    → sorted (xs ++ e ∷ ys) ≡ e ∷ sorted (xs ++ ys)
takes_first [] e ys h k = put_in_first e (sorted ys) (each_sorted _ ys k)
takes_first (x ∷ xs) e ys h k = ap (put_in x) (takes_first xs e ys h.1 k) ∙ rw h.0 refl

-- what is in order stays as it is
pub sorted_same : (es : List MidiEvent) → InOrder es → sorted es ≡ es
sorted_same [] h = refl
sorted_same (e ∷ es) h = ap (put_in e) (sorted_same es h.1) ∙ put_in_first e es h.0

-- ---- what a test picks keeps its order

each_filter : (p : MidiEvent → Bool) (P : MidiEvent → Type 0) (es : List MidiEvent) → AllByRecursion P es → AllByRecursion P (filter p es)
each_filter p P [] h = tt
each_filter p P (e ∷ es) h = each_cond P (p e) _ _ (λ _. (h.0, each_filter p P es h.1)) (λ _. each_filter p P es h.1)

in_order_filter : (p : MidiEvent → Bool) (es : List MidiEvent) → InOrder es → InOrder (filter p es)
in_order_filter p [] h = tt
in_order_filter p (e ∷ es) h = in_order_cond (p e) _ _ (λ _. (each_filter p _ es h.0, in_order_filter p es h.1)) (λ _. in_order_filter p es h.1)

filter_first : (p : MidiEvent → Bool) (e : MidiEvent) (es : List MidiEvent) → AllByRecursion (λ f. precedes e f ≡ true) es
    → filter p (e ∷ es) ≡ cond (p e) (put_in e (filter p es)) (filter p es)
filter_first p e es h = ap (λ l. cond (p e) l (filter p es)) (sym (put_in_first e (filter p es) (each_filter p _ es h)))

-- the event that is put in is behind one that is picked, or that isn't
passes_by : (a b : Bool) (e f : MidiEvent) (rest : List MidiEvent) → precedes e f ≡ false
    → cond b (f ∷ cond a (put_in e rest) rest) (cond a (put_in e rest) rest) ≡ cond a (put_in e (cond b (f ∷ rest) rest)) (cond b (f ∷ rest) rest)
passes_by true true e f rest h = rw h refl
passes_by true false e f rest h = refl
passes_by false true e f rest h = refl
passes_by false false e f rest h = refl

filter_cond : (p : MidiEvent → Bool) (b : Bool) (xs ys zs : List MidiEvent) → (b ≡ true → filter p xs ≡ zs) → (b ≡ false → filter p ys ≡ zs) → filter p (cond b xs ys) ≡ zs
filter_cond p true xs ys zs h k = h refl
filter_cond p false xs ys zs h k = k refl

filter_put_in : (p : MidiEvent → Bool) (e : MidiEvent) (es : List MidiEvent) → InOrder es → filter p (put_in e es) ≡ cond (p e) (put_in e (filter p es)) (filter p es)
filter_put_in p e [] h = refl
filter_put_in p e (f ∷ fs) h = filter_cond p (precedes e f) _ _ _
    (λ yes. filter_first p e (f ∷ fs) (yes, each_weaker _ _ fs (λ g. goes_through e f g yes) h.0))
    (λ no. ap (λ l. cond (p f) (f ∷ l) l) (filter_put_in p e fs h.1) ∙ passes_by (p e) (p f) e f (filter p fs) no)

put_in_cond : (b : Bool) (e : MidiEvent) (es : List MidiEvent) → cond b (put_in e (sorted es)) (sorted es) ≡ sorted (cond b (e ∷ es) es)
put_in_cond true e es = refl
put_in_cond false e es = refl

pub filter_sorted : (p : MidiEvent → Bool) (es : List MidiEvent) → filter p (sorted es) ≡ sorted (filter p es)
filter_sorted p [] = refl
filter_sorted p (e ∷ es) =
    filter_put_in p e (sorted es) (sorted_in_order es) ∙ ap (λ l. cond (p e) (put_in e l) l) (filter_sorted p es) ∙ put_in_cond (p e) e (filter p es)

-- ---- tracks

one_track : (t : ℕ) (es : List Timed) → of_track t (map (placed t) es) ≡ map (placed t) es
one_track t [] = refl
one_track t (e ∷ es) = rw (eq-eqb t t refl) (ap (λ l. placed t e ∷ l) (one_track t es))

same_track : (t n : ℕ) (es : List Timed) → n ≡ t → of_track t (map (placed n) es) ≡ map (placed t) es
same_track t n es is = subst (λ m. of_track t (map (placed m) es) ≡ map (placed t) es) (sym is) (one_track t es)

other_track : (t n : ℕ) (es : List Timed) → (n ≡ t → ⊥) → of_track t (map (placed n) es) ≡ []
other_track t n [] not = refl
other_track t n (e ∷ es) not = rw (ne_eqb n t not) (other_track t n es not)

later_tracks : (t n : ℕ) (ts : List (List Timed)) → t < n → of_track t (one_by_one n ts) ≡ []
later_tracks t n [] lt = refl
later_tracks t n (es ∷ ts) lt =
    filter-append (λ (e : MidiEvent). eqb e.track t) (map (placed n) es) (one_by_one (suc n) ts)
    ∙ rw (other_track t n es (λ z. omega (arith, z, lt)), later_tracks t (suc n) ts (omega (arith, lt))) refl

track_picked : (t n i : ℕ) (ts : List (List Timed)) → t ≡ n + i → of_track t (one_by_one n ts) ≡ map (placed t) (get_or ts i [])
track_picked t n i [] is = refl
track_picked t n zero (es ∷ ts) is =
    filter-append (λ (e : MidiEvent). eqb e.track t) (map (placed n) es) (one_by_one (suc n) ts)
    ∙ rw (same_track t n es (omega (arith, is)), later_tracks t (suc n) ts (omega (arith, is))) (append-nil _)
track_picked t n (suc i) (es ∷ ts) is =
    filter-append (λ (e : MidiEvent). eqb e.track t) (map (placed n) es) (one_by_one (suc n) ts)
    ∙ rw (other_track t n es (λ z. omega (arith, z, is))) (track_picked t (suc n) i ts (omega (arith, is)))

-- each track's events keep their order, where they are in order
pub of_track_merged : (t : ℕ) (ts : List (List Timed)) → InOrder (map (placed t) (get_or ts t [])) → of_track t (merged_tracks ts) ≡ map (placed t) (get_or ts t [])
of_track_merged t ts h =
    filter_sorted (λ e. eqb e.track t) (one_by_one 0 ts) ∙ ap sorted (track_picked t 0 t ts (omega arith)) ∙ sorted_same _ h

-- ---- playable

track_at : (n i : ℕ) (ts : List (List Timed)) → AreTracksOf n ts → i < length ts → IsTrackOf (n + i) (map (placed (n + i)) (get_or ts i []))
track_at n i [] h lt = absurd (omega (arith, lt))
track_at n zero (es ∷ ts) h lt = let e : n ≡ n + 0 = omega arith in subst (λ m. IsTrackOf m (map (placed m) es)) e h.0
track_at n (suc i) (es ∷ ts) h lt =
    let e : suc n + i ≡ n + suc i = omega arith in
    subst (λ m. IsTrackOf m (map (placed m) (get_or ts i []))) e (track_at (suc n) i ts h.1 (omega (arith, lt)))

all_valid : (n : ℕ) (ts : List (List Timed)) → AreTracksOf n ts → AllByRecursion (λ e. IsValidEvent e) (one_by_one n ts)
all_valid n [] h = tt
all_valid n (es ∷ ts) h = each_append _ _ _ h.0.valid (all_valid (suc n) ts h.1)

all_in_tracks : (n total : ℕ) (ts : List (List Timed)) → n + length ts ≡ total → AreTracksOf n ts → AllByRecursion (λ e. e.track < total) (one_by_one n ts)
all_in_tracks n total [] is h = tt
all_in_tracks n total (es ∷ ts) is h =
    each_append _ _ _ (each_weaker _ _ _ (λ e (t : e.track ≡ n). omega (arith, t, is)) h.0.in_track) (all_in_tracks (suc n) total ts (omega (arith, is)) h.1)

pub track_in_place : (t : ℕ) (ts : List (List Timed)) → AreTracksOf 0 ts → t < length ts → IsTrackOf t (map (placed t) (get_or ts t []))
track_in_place t ts h lt = let e : 0 + t ≡ t = omega arith in subst (λ m. IsTrackOf m (map (placed m) (get_or ts t []))) e (track_at 0 t ts h lt)

pub is_playable : (ts : List (List Timed)) → AreTracksOf 0 ts → IsPlayable (length ts) (merged_tracks ts)
is_playable ts h = record {
  valid = each_sorted _ _ (all_valid 0 ts h);
  in_order = sorted_in_order (one_by_one 0 ts);
  in_tracks = each_sorted _ _ (all_in_tracks 0 (length ts) ts (omega arith) h);
  ended = λ t lt. let one = track_in_place t ts h lt in subst EndsOnce (sym (of_track_merged t ts one.in_order)) one.ended;
}
