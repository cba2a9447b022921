-- Where what is written stands beside the source's events, the output is playable like its source.
use Rattle.std.proofs.Common.{◌≡◌, ℕ, ◌<◌, ◌≤◌, ◌⊎◌, List, [], ◌∷◌, ◌++◌, Bool, true, false, cond, eqb, refl, sym, ap, subst, ◌∙◌, inl, inr, filter, arith}
use Rattle.std.specs.List.{AllByRecursion}
use Rattle.std.proofs.lemmas.Bool.{cases_Bool, eq-eqb, ne_eqb, le-leb, lt-ltb}
use Rattle.std.proofs.lemmas.List.Elements.{filter-append}
use Rattle.mt_base.specs.Midi.{MidiEvent, is_end}
use Rattle.mt_base.specs.Valid.{IsValidEvent}
use Rattle.midi_model.specs.Merged.{precedes, InOrder, EndsOnce, of_track, IsPlayable}
use Rattle.retune_model.specs.Blocks.{Block, all_events, written}
use Rattle.retune_model.specs.Routes.{translated}
use Rattle.retune_model.proofs.Fronts.{all_weaker, all_append}

-- an event that was put beside another: at its tick, in its track, valid and no end of track
pub record Beside (e x : MidiEvent) : Type 0 where
  pub tick : x.tick ≡ e.tick
  pub track : x.track ≡ e.track
  pub not_end : is_end x.what ≡ false
  pub valid : IsValidEvent x

-- a block around this event, in which all else stands beside it, and nothing comes after an end of track
pub record Stands (e : MidiEvent) (b : Block) : Type 0 where
  pub event : b.event ≡ e
  pub before : AllByRecursion (λ x. Beside e x) (all_events b.before)
  pub behind : AllByRecursion (λ x. Beside e x) (all_events b.behind)
  pub last : is_end e.what ≡ true → all_events b.behind ≡ []

abbrev pub StandAll : {S : Type 0} → (S → MidiEvent → Block) → Type 0
StandAll {S} block = (s : S) (e : MidiEvent) → IsValidEvent e → Stands e (block s e)

-- the events of one block
abbrev around : List MidiEvent → MidiEvent → List MidiEvent → List MidiEvent
around before e behind = before ++ e ∷ behind

same_written : (e : MidiEvent) (b : Block) → b.event ≡ e → written b ≡ around (all_events b.before) e (all_events b.behind)
same_written e b h = ap (λ x. all_events b.before ++ x ∷ all_events b.behind) h

each_beside : (P : ℕ → ℕ → Type 0) (e : MidiEvent) (xs : List MidiEvent) → P e.tick e.track → AllByRecursion (λ x. Beside e x) xs → AllByRecursion (λ x. P x.tick x.track) xs
each_beside P e xs p h = all_weaker (λ x. Beside e x) (λ x. P x.tick x.track) (λ x b. subst (λ t. P t x.track) (sym b.tick) (subst (λ t. P e.tick t) (sym b.track) p)) xs h

-- what each source event has by its tick and track, all that is written has
pub each_written : {S : Type 0} (block : S → MidiEvent → Block) (next : S → MidiEvent → S) (P : ℕ → ℕ → Type 0) → StandAll block
    → (s : S) (es : List MidiEvent) → AllByRecursion (λ e. IsValidEvent e) es → AllByRecursion (λ e. P e.tick e.track) es → AllByRecursion (λ e. P e.tick e.track) (translated block next s es)
each_written block next P stand s [] v h = tt
each_written block next P stand s (e ∷ es) v h =
    let k : Stands e (block s e) = stand s e v.0 in
    let Q : List MidiEvent → Type 0 = λ l. AllByRecursion (λ x. P x.tick x.track) (l ++ translated block next (next s e) es) in
    subst Q (sym (same_written e (block s e) k.event))
    (all_append (λ x. P x.tick x.track) (around (all_events (block s e).before) e (all_events (block s e).behind)) (translated block next (next s e) es)
    (all_append (λ x. P x.tick x.track) (all_events (block s e).before) (e ∷ all_events (block s e).behind)
    (each_beside P e (all_events (block s e).before) h.0 k.before)
    (h.0, each_beside P e (all_events (block s e).behind) h.0 k.behind))
    (each_written block next P stand (next s e) es v.1 h.1))

-- all is valid
valid_beside : (e : MidiEvent) (xs : List MidiEvent) → AllByRecursion (λ x. Beside e x) xs → AllByRecursion (λ x. IsValidEvent x) xs
valid_beside e xs h = all_weaker (λ x. Beside e x) (λ x. IsValidEvent x) (λ x b. b.valid) xs h

valid_written : {S : Type 0} (block : S → MidiEvent → Block) (next : S → MidiEvent → S) → StandAll block
    → (s : S) (es : List MidiEvent) → AllByRecursion (λ e. IsValidEvent e) es → AllByRecursion (λ e. IsValidEvent e) (translated block next s es)
valid_written block next stand s [] v = tt
valid_written block next stand s (e ∷ es) v =
    let k : Stands e (block s e) = stand s e v.0 in
    let Q : List MidiEvent → Type 0 = λ l. AllByRecursion (λ x. IsValidEvent x) (l ++ translated block next (next s e) es) in
    subst Q (sym (same_written e (block s e) k.event))
    (all_append (λ x. IsValidEvent x) (around (all_events (block s e).before) e (all_events (block s e).behind)) (translated block next (next s e) es)
    (all_append (λ x. IsValidEvent x) (all_events (block s e).before) (e ∷ all_events (block s e).behind)
    (valid_beside e (all_events (block s e).before) k.before)
    (v.0, valid_beside e (all_events (block s e).behind) k.behind))
    (valid_written block next stand (next s e) es v.1))

-- in order
abbrev at : ℕ → ℕ → MidiEvent → MidiEvent
at t track e = record e { tick = t; track = track }

-- an event at an earlier tick, or at the same one and in no later track, may stand before another
is_before : (e f : MidiEvent) → (e.tick < f.tick) ⊎ ((e.tick ≡ f.tick) × (e.track ≤ f.track)) → precedes e f ≡ true
is_before e f (inl l) = rw (ne_eqb e.tick f.tick (λ z. omega (arith, z, l))) (lt-ltb e.tick f.tick l)
is_before e f (inr (same, l)) = rw (eq-eqb e.tick f.tick same) (le-leb e.track f.track l)

itself : (e : MidiEvent) → precedes e e ≡ true
itself e = is_before e e (inr (refl, omega arith))

-- what stands beside an event, before a list that it precedes
order_beside : (e : MidiEvent) (xs ys : List MidiEvent) → AllByRecursion (λ x. Beside e x) xs → AllByRecursion (λ y. precedes e y ≡ true) ys → InOrder ys → InOrder (xs ++ ys)
order_beside e [] ys h p o = o
order_beside e (x ∷ xs) ys h p o =
    let P : ℕ → ℕ → Type 0 = λ t track. (y : MidiEvent) → precedes (at t track e) y ≡ precedes e y in
    let same : (y : MidiEvent) → precedes x y ≡ precedes e y = subst (λ t. (y : MidiEvent) → precedes (at t x.track e) y ≡ precedes e y) (sym h.0.tick) (subst (λ t. (y : MidiEvent) → precedes (at e.tick t e) y ≡ precedes e y) (sym h.0.track) (λ y. refl)) in
    let all : AllByRecursion (λ y. precedes e y ≡ true) (xs ++ ys) = all_append (λ y. precedes e y ≡ true) xs ys (each_beside (λ t track. precedes e (at t track e) ≡ true) e xs (itself e) h.1) p in
    (all_weaker (λ y. precedes e y ≡ true) (λ y. precedes x y ≡ true) (λ y q. same y ∙ q) (xs ++ ys) all, order_beside e xs ys h.1 p o)

order_written : {S : Type 0} (block : S → MidiEvent → Block) (next : S → MidiEvent → S) → StandAll block
    → (s : S) (es : List MidiEvent) → AllByRecursion (λ e. IsValidEvent e) es → InOrder es → InOrder (translated block next s es)
order_written block next stand s [] v o = tt
order_written block next stand s (e ∷ es) v o =
    let k : Stands e (block s e) = stand s e v.0 in
    let before : List MidiEvent = all_events (block s e).before in
    let behind : List MidiEvent = all_events (block s e).behind in
    let rest : List MidiEvent = translated block next (next s e) es in
    let later : AllByRecursion (λ y. precedes e y ≡ true) rest = each_written block next (λ t track. precedes e (at t track e) ≡ true) stand (next s e) es v.1 o.0 in
    let in_group : AllByRecursion (λ y. precedes e y ≡ true) (behind ++ rest) = all_append (λ y. precedes e y ≡ true) behind rest (each_beside (λ t track. precedes e (at t track e) ≡ true) e behind (itself e) k.behind) later in
    let from_event : InOrder (e ∷ (behind ++ rest)) = (in_group, order_beside e behind rest k.behind later (order_written block next stand (next s e) es v.1 o.1)) in
    let whole : InOrder (before ++ (e ∷ (behind ++ rest))) = order_beside e before (e ∷ (behind ++ rest)) k.before (itself e, in_group) from_event in
    let Q : List MidiEvent → Type 0 = λ l. InOrder l in
    subst Q (sym (ap (λ l. l ++ rest) (same_written e (block s e) k.event) ∙ regroup before e behind rest)) whole
  where
    regroup : (before : List MidiEvent) (e : MidiEvent) (behind rest : List MidiEvent) → (before ++ e ∷ behind) ++ rest ≡ before ++ (e ∷ (behind ++ rest))
    regroup [] e behind rest = refl
    regroup (x ∷ xs) e behind rest = ap (λ l. x ∷ l) (regroup xs e behind rest)

-- ended once
ends_cons : (x : MidiEvent) (ys : List MidiEvent) → is_end x.what ≡ false → EndsOnce ys → EndsOnce (x ∷ ys)
ends_cons x [] h k = absurd k
ends_cons x (y ∷ ys) h k = (h, k)

ends_append : (xs ys : List MidiEvent) → AllByRecursion (λ x. is_end x.what ≡ false) xs → EndsOnce ys → EndsOnce (xs ++ ys)
ends_append [] ys h k = k
ends_append (x ∷ xs) ys h k = ends_cons x (xs ++ ys) h.0 (ends_append xs ys h.1 k)

each_if : {A : Type 0} (P : A → Type 0) (b : Bool) (x : A) (xs : List A) → P x → AllByRecursion P xs → AllByRecursion P (cond b (x ∷ xs) xs)
each_if P true x xs h k = (h, k)
each_if P false x xs h k = k

pub filter_each : {A : Type 0} (p : A → Bool) (P : A → Type 0) (xs : List A) → AllByRecursion P xs → AllByRecursion P (filter p xs)
filter_each p P [] h = tt
filter_each p P (x ∷ xs) h = each_if P (p x) x (filter p xs) h.0 (filter_each p P xs h.1)

abbrev elsewhere : ℕ → List MidiEvent → Type 0
elsewhere t es = AllByRecursion (λ e. eqb e.track t ≡ false) es

none_first : (b : Bool) (e : MidiEvent) (es : List MidiEvent) → cond b (e ∷ es) es ≡ [] → (b ≡ false) × (es ≡ [])
none_first true e es h = absurd cc
none_first false e es h = (refl, h)

is_elsewhere : (t : ℕ) (es : List MidiEvent) → of_track t es ≡ [] → elsewhere t es
is_elsewhere t [] h = tt
is_elsewhere t (e ∷ es) h =
    let k = none_first (eqb e.track t) e (of_track t es) h in
    (k.0, is_elsewhere t es k.1)

none_there : (t : ℕ) (es : List MidiEvent) → elsewhere t es → of_track t es ≡ []
none_there t [] h = refl
none_there t (e ∷ es) h = ap (λ b. cond b (e ∷ of_track t es) (of_track t es)) h.0 ∙ none_there t es h.1

not_ends : (t : ℕ) (e : MidiEvent) (xs : List MidiEvent) → AllByRecursion (λ x. Beside e x) xs → AllByRecursion (λ x. is_end x.what ≡ false) (of_track t xs)
not_ends t e xs h = filter_each (λ (x : MidiEvent). eqb x.track t) (λ x. is_end x.what ≡ false) xs (all_weaker (λ x. Beside e x) (λ x. is_end x.what ≡ false) (λ x b. b.not_end) xs h)

one_more : (b : Bool) (x : MidiEvent) (whole front back : List MidiEvent) → whole ≡ front ++ back → cond b (x ∷ whole) whole ≡ cond b (x ∷ front) front ++ back
one_more true x whole front back h = ap (λ l. x ∷ l) h
one_more false x whole front back h = h

-- the events of one track in a block and what follows
track_split : (t : ℕ) (before : List MidiEvent) (e : MidiEvent) (behind rest : List MidiEvent)
    → of_track t ((before ++ e ∷ behind) ++ rest) ≡ of_track t before ++ cond (eqb e.track t) (e ∷ (of_track t behind ++ of_track t rest)) (of_track t behind ++ of_track t rest)
track_split t [] e behind rest = ap (λ l. cond (eqb e.track t) (e ∷ l) l) (filter-append (λ (x : MidiEvent). eqb x.track t) behind rest)
track_split t (x ∷ xs) e behind rest =
    one_more (eqb x.track t) x (of_track t ((xs ++ e ∷ behind) ++ rest)) (of_track t xs)
    (cond (eqb e.track t) (e ∷ (of_track t behind ++ of_track t rest)) (of_track t behind ++ of_track t rest)) (track_split t xs e behind rest)

-- a track's end is the last in it
nothing_after : (e : MidiEvent) (es : List MidiEvent) → is_end e.what ≡ true → EndsOnce (e ∷ es) → es ≡ []
nothing_after e [] h k = refl
nothing_after e (f ∷ es) h k = absurd (let is : is_end e.what ≡ false = k.0 in cc)

goes_on : (e : MidiEvent) (es : List MidiEvent) → is_end e.what ≡ false → EndsOnce (e ∷ es) → EndsOnce es
goes_on e [] h k = absurd (let is : is_end e.what ≡ true = k in cc)
goes_on e (f ∷ es) h k = k.1

-- an event in its track, before what ends it, or what follows where it is no end itself
ends_here : (b : Bool) (e : MidiEvent) (source out : List MidiEvent) → (is_end e.what ≡ true → source ≡ [] → out ≡ []) → (EndsOnce source → EndsOnce out)
    → EndsOnce (cond b (e ∷ source) source) → EndsOnce (cond b (e ∷ out) out)
ends_here false e source out none later h = later h
ends_here true e source out none later h = elim (cases_Bool (is_end e.what)) [
  | inl is ↦ subst (λ l. EndsOnce (e ∷ l)) (sym (none is (nothing_after e source is h))) is
  | inr not ↦ ends_cons e out not (later (goes_on e source not h))
]

ends_written : {S : Type 0} (block : S → MidiEvent → Block) (next : S → MidiEvent → S) → StandAll block
    → (t : ℕ) (s : S) (es : List MidiEvent) → AllByRecursion (λ e. IsValidEvent e) es → EndsOnce (of_track t es) → EndsOnce (of_track t (translated block next s es))
ends_written block next stand t s [] v h = h
ends_written block next stand t s (e ∷ es) v h =
    let k : Stands e (block s e) = stand s e v.0 in
    let before : List MidiEvent = all_events (block s e).before in
    let behind : List MidiEvent = all_events (block s e).behind in
    let rest : List MidiEvent = translated block next (next s e) es in
    let out : List MidiEvent = of_track t behind ++ of_track t rest in
    let later : EndsOnce (of_track t es) → EndsOnce out = λ g. ends_append (of_track t behind) (of_track t rest) (not_ends t e behind k.behind) (ends_written block next stand t (next s e) es v.1 g) in
    let none : is_end e.what ≡ true → of_track t es ≡ [] → out ≡ [] = λ is g.
    ap (λ l. of_track t l ++ of_track t rest) (k.last is) ∙ none_there t rest (each_written block next (λ x track. eqb track t ≡ false) stand (next s e) es v.1 (is_elsewhere t es g)) in
    subst (λ l. EndsOnce l) (sym (ap (λ l. of_track t (l ++ rest)) (same_written e (block s e) k.event) ∙ track_split t before e behind rest))
    (ends_append (of_track t before) (cond (eqb e.track t) (e ∷ out) out) (not_ends t e before k.before) (ends_here (eqb e.track t) e (of_track t es) out none later h))

pub written_playable : {S : Type 0} (block : S → MidiEvent → Block) (next : S → MidiEvent → S) → StandAll block
    → (tracks : ℕ) (s : S) (es : List MidiEvent) → IsPlayable tracks es → IsPlayable tracks (translated block next s es)
written_playable block next stand tracks s es h = record {
  valid = valid_written block next stand s es h.valid;
  in_order = order_written block next stand s es h.valid h.in_order;
  in_tracks = each_written block next (λ t track. track < tracks) stand s es h.valid h.in_tracks;
  ended = λ t low. ends_written block next stand t s es h.valid (h.ended t low);
}
