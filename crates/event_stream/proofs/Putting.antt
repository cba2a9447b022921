-- Putting events into tracks.
use Rattle.std.proofs.Common.{◌≡◌, ℕ, zero, suc, ◌+◌, ◌<◌, ◌≤◌, List, [], ◌∷◌, ◌++◌, length, map, set, get_or, replicate, Bool, true, false, eqb, refl, sym, ap, subst, ◌∙◌, arith}
use Rattle.std.specs.Prelude.{All}
use Rattle.std.specs.List.{AllByRecursion}
use Rattle.std.proofs.lemmas.Bool.{eq-eqb}
use Rattle.std.proofs.lemmas.List.{map-set, get_or-map, length-map}
use Rattle.std.proofs.lemmas.List.Elements.{All-from_get_or, filter-append}
use Rattle.mt_base.specs.Midi.{MidiEvent, is_end}
use Rattle.mt_base.specs.Valid.{IsValidEvent}
use Rattle.midi_model.specs.Merged.{precedes, InOrder, EndsOnce, of_track, IsPlayable, timed}
use Rattle.midi_model.specs.Writing.{Written, written, with_event, last_tick, is_ended}
use Rattle.midi_model.specs.WritingLaws.{EventIsAppended}
use Rattle.event_stream.specs.Distributed.{events_in, distributed_from, distributed, MayPut, all_bytes}
use Rattle.event_stream.proofs.Ordering.{before}
use Rattle.event_stream.proofs.Taking.{no_earlier}
use Rattle.event_stream.proofs.Dealing.{length_dealt, get_dealt, with_last, each_picked}

-- ---- a new set

pub none_put : (n m : ℕ) → map written (distributed_from n m []) ≡ replicate m (written [])
none_put n zero = refl
none_put n (suc m) = ap (λ l. written [] ∷ l) (none_put (suc n) m)

-- ---- an event more

track_text : (n t : ℕ) (es : List MidiEvent) → t < n → get_or (map written (distributed n es)) t (written []) ≡ written (events_in t es)
track_text n t es lt =
    get_or-map written (distributed n es) t [] (written []) (omega (arith, length_dealt 0 n es, lt)) ∙ ap written (get_dealt 0 n t t es (omega arith) lt)

-- the text of an event's track, where the set stands for a list
pub text_of : (n : ℕ) (es : List MidiEvent) (e : MidiEvent) (before : List Written) (got : Written) → before ≡ map written (distributed n es) → e.track < length before
    → got ≡ get_or before e.track (written []) → got ≡ written (events_in e.track es)
text_of n es e before got is lt read =
    let low : e.track < n = omega (arith, lt, ap length is, length-map (distributed n es) written, length_dealt 0 n es) in
    read ∙ ap (λ w. get_or w e.track (written [])) is ∙ track_text n e.track es low

pub put_stands : (n : ℕ) (es : List MidiEvent) (e : MidiEvent) (before : List Written) (text : Written) → before ≡ map written (distributed n es) → e.track < length before
    → text ≡ written (events_in e.track es ++ timed e ∷ []) → set before e.track text ≡ map written (distributed n (es ++ e ∷ []))
put_stands n es e before text is lt put =
    let low : e.track < n = omega (arith, lt, ap length is, length-map (distributed n es) written, length_dealt 0 n es) in
    ap (λ w. set w e.track text) is
    ∙ ap (set (map written (distributed n es)) e.track) put
    ∙ sym (map-set written (distributed n es) e.track (events_in e.track es ++ timed e ∷ []))
    ∙ ap (map written) (sym (with_last 0 n e.track e es (omega arith) low))

-- by the law that an event more is written at the end
pub put_last : EventIsAppended → (n : ℕ) (es : List MidiEvent) (e : MidiEvent) (before : List Written) → before ≡ map written (distributed n es) → e.track < length before
    → set before e.track (with_event (get_or before e.track (written [])) (timed e)) ≡ map written (distributed n (es ++ e ∷ []))
put_last appended n es e before is lt =
    let text = text_of n es e before (get_or before e.track (written [])) is lt refl in
    put_stands n es e before (with_event (get_or before e.track (written [])) (timed e)) is lt (ap (λ w. with_event w (timed e)) text ∙ appended (events_in e.track es) (timed e))

-- ---- a playable list

ended_last : (b : Bool) (es : List MidiEvent) → EndsOnce es → is_ended b (map timed es) ≡ true
unfolding is_ended
ended_last b [] h = absurd h
ended_last b (e ∷ []) h = h
ended_last b (e ∷ f ∷ es) h = ended_last (is_end e.what) (f ∷ es) h.1

pub all_ended : (n : ℕ) (es : List MidiEvent) (texts : List Written) → texts ≡ map written (distributed n es) → IsPlayable n es → All (λ (t : Written). t.ended ≡ true) texts
all_ended n es texts is h = subst (All (λ (t : Written). t.ended ≡ true)) (sym is)
    (All-from_get_or (λ (t : Written). t.ended ≡ true) (map written (distributed n es)) (written []) (λ i lt.
    let low : i < n = omega (arith, lt, length-map (distributed n es) written, length_dealt 0 n es) in
    subst (λ (w : Written). w.ended ≡ true) (sym (track_text n i es low)) (ended_last false (of_track i es) (h.ended i low))))

-- ---- what may be put

not_ended : (xs : List MidiEvent) (e : MidiEvent) (ys : List MidiEvent) → EndsOnce (xs ++ e ∷ ys) → AllByRecursion (λ x. is_end x.what ≡ false) xs
not_ended [] e ys h = tt
not_ended (x ∷ []) e ys h = (h.0, tt)
not_ended (x ∷ z ∷ xs) e ys h = (h.0, not_ended (z ∷ xs) e ys h.1)

is_open : (b : Bool) (xs : List MidiEvent) → b ≡ false → AllByRecursion (λ x. is_end x.what ≡ false) xs → is_ended b (map timed xs) ≡ false
unfolding is_ended
is_open b [] h k = h
is_open b (x ∷ xs) h k = is_open (is_end x.what) xs k.0 k.1

last_of : (before tick : ℕ) (xs : List MidiEvent) → before ≤ tick → AllByRecursion (λ x. x.tick ≤ tick) xs → last_tick before (map timed xs) ≤ tick
unfolding last_tick
last_of before tick [] h k = h
last_of before tick (x ∷ xs) h k = last_of x.tick tick xs k.0 k.1

at_middle : (P : MidiEvent → Type 0) (es : List MidiEvent) (e : MidiEvent) (more : List MidiEvent) → AllByRecursion P (es ++ e ∷ more) → P e
at_middle P [] e more h = h.0
at_middle P (x ∷ es) e more h = at_middle P es e more h.1

all_before : (es : List MidiEvent) (e : MidiEvent) (more : List MidiEvent) → InOrder (es ++ e ∷ more) → AllByRecursion (λ x. x.tick ≤ e.tick) es
all_before [] e more h = tt
all_before (x ∷ es) e more h = (no_earlier x e (before x e (at_middle (λ f. precedes x f ≡ true) es e more h.0)), all_before es e more h.1)

parted : (t : ℕ) (es : List MidiEvent) (e : MidiEvent) (more : List MidiEvent) → e.track ≡ t → of_track t (es ++ e ∷ more) ≡ of_track t es ++ e ∷ of_track t more
parted t es e more is = filter-append (λ (f : MidiEvent). eqb f.track t) es (e ∷ more) ∙ rw (eq-eqb e.track t is) refl

pub may_put : (n : ℕ) (es : List MidiEvent) (e : MidiEvent) (more : List MidiEvent) → IsPlayable n (es ++ e ∷ more) → MayPut (map written (distributed n es)) e
may_put n es e more h =
    let low = at_middle (λ x. x.track < n) es e more h.in_tracks in
    let text = track_text n e.track es low in
    record {
      valid = at_middle (λ x. IsValidEvent x) es e more h.valid;
      exists = omega (arith, low, length-map (distributed n es) written, length_dealt 0 n es);
      open_still = subst (λ (w : Written). w.ended ≡ false) (sym text)
          (is_open false (of_track e.track es) refl (not_ended (of_track e.track es) e (of_track e.track more) (subst EndsOnce (parted e.track es e more refl) (h.ended e.track low))));
      in_order = subst (λ (w : Written). w.tick ≤ e.tick) (sym text) (last_of 0 e.tick (of_track e.track es) (omega arith) (each_picked _ _ es (all_before es e more h.in_order)));
    }

-- ---- how many bytes there are

pub no_bytes : (m : ℕ) (t : Written) → length t.bytes ≡ 0 → all_bytes (replicate m t) ≡ 0
no_bytes zero t h = refl
no_bytes (suc m) t h = omega (arith, h, no_bytes m t h)

pub bytes_set : (ts : List Written) (i more : ℕ) (t d : Written) → length t.bytes ≤ length (get_or ts i d).bytes + more → i < length ts → all_bytes (set ts i t) ≤ all_bytes ts + more
bytes_set [] i more t d h lt = absurd (omega (arith, lt))
bytes_set (x ∷ ts) zero more t d h lt = omega (arith, h)
bytes_set (x ∷ ts) (suc i) more t d h lt = omega (arith, bytes_set ts i more t d h (omega (arith, lt)))

each_short : (ts : List Written) (i : ℕ) (d : Written) → i < length ts → length (get_or ts i d).bytes ≤ all_bytes ts
each_short [] i d lt = absurd (omega (arith, lt))
each_short (x ∷ ts) zero d lt = omega arith
each_short (x ∷ ts) (suc i) d lt = omega (arith, each_short ts i d (omega (arith, lt)))

pub all_short : (ts : List Written) → All (λ (t : Written). length t.bytes ≤ all_bytes ts) ts
all_short ts i d lt = each_short ts i d lt
