-- The pairs of a port: which sound and which hold, by notes and by last ends.
use Rattle.std.proofs.Common.{◌≡◌, ◌≤◌, ◌∙◌, ℕ, ◌+◌, max, List, [], ◌∷◌, Bool, true, false, cond, ◌&&◌, ◌||◌, Option, Some, None, length, get_or, drop, take, nat_lt, nat_le, refl, sym, ap, arith, inl, inr}
use Rattle.std.proofs.lemmas.Bool.{cases_lt, ltb-true, lt-ltb, leb-true}
use Rattle.mt_base.specs.Midi.{MidiEvent}
use Rattle.midi_model.specs.Notes.{Note, sounds}
use Rattle.midi_model.specs.Order.{AreInOrder}
use Rattle.midi_model.specs.Music.{Music, quiet, play}
use Rattle.midi_model.specs.Receiver.{start}
use Rattle.retune_model.specs.Options.{Options}
use Rattle.retune_model.specs.Ports.{PortEvents, AreTimed, of_port, events_on, unnumbered, music_at, port_at, tick_to}
use Rattle.retune_model.specs.PortLaws.{MusicAtAPosition, PortsAreTimed}
use Rattle.retune_model.specs.Faults.{Targets, is_part, any_note}
use Rattle.retune_model.specs.Pairs.{Pair}
use Rattle.retune_model.specs.LastEnds.{later_end}
use Rattle.retune_model.specs.Rests.{notes_at, nobody, past_at, is_within_tail, lasts, SoundsAt}
use Rattle.retune_model.specs.RestLaws.{NotesHoldAsWritten}
use Rattle.lifetimes.specs.Told.{music_on, is_of_pair, pair_sounds, pair_holds}
use Rattle.lifetimes.specs.Stands.{latest_of, end_of_pair}
use Rattle.lifetimes.proofs.AnyNote.{parts, any_filter, any_drop}
use Rattle.lifetimes.proofs.KeysAndNotes.{any_note_same}
use Rattle.lifetimes.proofs.NotesKept.{music_all}

-- ---- the latest end

absorbed : (a b : Bool) → (a ≡ true → b ≡ true) → b ≡ (a || b)
absorbed true b f = f refl
absorbed false b f = refl

absorbs : (a b : Bool) → (b ≡ true → a ≡ true) → a ≡ (a || b)
absorbs true b f = refl
absorbs false true f = f refl
absorbs false false f = refl

or_false : (b : Bool) → b ≡ (b || false)
or_false true = refl
or_false false = refl

-- the later of two ends is within a tail where one of them is
within_either : (tail t : ℕ) (a b : Option ℕ) → is_within_tail tail t (later_end a b) ≡ (is_within_tail tail t a || is_within_tail tail t b)
within_either tail t None b = refl
within_either tail t (Some x) None = or_false (nat_lt t (x + tail))
within_either tail t (Some x) (Some y) = elim (cases_lt x y) [
  | inl l ↦ ap (λ m. nat_lt t (m + tail)) (let e : max x y ≡ y = omega (arith, l) in e)
      ∙ absorbed (nat_lt t (x + tail)) (nat_lt t (y + tail)) (λ h. lt-ltb t (y + tail) (let g = ltb-true t (x + tail) h in omega (arith, l, g)))
  | inr l ↦ ap (λ m. nat_lt t (m + tail)) (let e : max x y ≡ x = omega (arith, l) in e)
      ∙ absorbs (nat_lt t (x + tail)) (nat_lt t (y + tail)) (λ h. lt-ltb t (x + tail) (let g = ltb-true t (y + tail) h in omega (arith, l, g)))
]

latest_tells : (o : Options) (table : Targets) (p : Pair) (tail t : ℕ) (ns : List Note)
    → any_note (λ n. is_within_tail tail t n.ended && is_of_pair o table p n) ns ≡ is_within_tail tail t (latest_of o table p ns)
latest_tells o table p tail t [] = refl
latest_tells o table p tail t (n ∷ ns) = pick (is_of_pair o table p n) (latest_tells o table p tail t ns)
  where
    true_right : (b : Bool) → (b && true) ≡ b
    true_right true = refl
    true_right false = refl

    false_right : (b : Bool) → (b && false) ≡ false
    false_right true = refl
    false_right false = refl

    pick : (b : Bool) → any_note (λ n. is_within_tail tail t n.ended && is_of_pair o table p n) ns ≡ is_within_tail tail t (latest_of o table p ns)
        → ((is_within_tail tail t n.ended && b) || any_note (λ n. is_within_tail tail t n.ended && is_of_pair o table p n) ns)
        ≡ is_within_tail tail t (cond b (later_end n.ended (latest_of o table p ns)) (latest_of o table p ns))
    pick true e = ap (λ b. b || any_note (λ n. is_within_tail tail t n.ended && is_of_pair o table p n) ns) (true_right (is_within_tail tail t n.ended))
        ∙ (ap (λ b. is_within_tail tail t n.ended || b) e ∙ sym (within_either tail t n.ended (latest_of o table p ns)))
    pick false e = ap (λ b. b || any_note (λ n. is_within_tail tail t n.ended && is_of_pair o table p n) ns) (false_right (is_within_tail tail t n.ended)) ∙ e

-- ---- some note sounds or rests

split : (f g h : Note → Bool) (ns : List Note)
    → any_note (λ n. (f n || g n) && h n) ns ≡ (any_note (λ n. f n && h n) ns || any_note (λ n. g n && h n) ns)
split f g h [] = refl
split f g h (n ∷ ns) = ap (λ b. ((f n || g n) && h n) || b) (split f g h ns) ∙ pick (f n) (g n) (h n) (any_note (λ n. f n && h n) ns) (any_note (λ n. g n && h n) ns)
  where
    pick : (f g h a b : Bool) → (((f || g) && h) || (a || b)) ≡ (((f && h) || a) || ((g && h) || b))
    pick true true true a b = refl
    pick true true false a b = refl
    pick true false true a b = refl
    pick true false false a b = refl
    pick false true true true b = refl
    pick false true true false b = refl
    pick false true false a b = refl
    pick false false h a b = refl

-- the music at the last position
pub music_last : MusicAtAPosition → (z : ℕ) (es : List MidiEvent) → music_at (of_port z es) (length es) ≡ music_on z es
music_last at z es = at z es (length es) ∙ (ap (λ xs. play quiet (unnumbered (of_port z xs))) (take_all es) ∙ sym (music_all start (events_on z es)))
  where
    take_all : (xs : List MidiEvent) → take (length xs) xs ≡ xs
    take_all [] = refl
    take_all (x ∷ xs) = ap (λ ys. x ∷ ys) (take_all xs)

-- a pair sounds where a retuned note of it does
pub sounds_among : MusicAtAPosition → (o : Options) (table : Targets) (es : List MidiEvent) (p : Pair)
    → any_note (λ n. sounds n && is_of_pair o table p n) (notes_at (is_part o) (port_at es p.part.port).events (length es)) ≡ pair_sounds o table es p
sounds_among at o table es p =
    any_filter (λ n. sounds n && is_of_pair o table p n) (λ n. is_part o n.channel) (music_at (of_port p.part.port es) (length es)).notes
    ∙ (ap (λ (m : Music). any_note (λ n. is_part o n.channel && (sounds n && is_of_pair o table p n)) m.notes) (music_last at p.part.port es)
    ∙ any_note_same (λ n. is_part o n.channel && (sounds n && is_of_pair o table p n)) (λ n. (is_part o n.channel && sounds n) && is_of_pair o table p n) (music_on p.part.port es).notes
    (λ n. turned (is_part o n.channel) (sounds n) (is_of_pair o table p n)))
  where
    turned : (a b c : Bool) → (a && (b && c)) ≡ ((a && b) && c)
    turned true b c = refl
    turned false b c = refl

-- a note that sounds is none of those from before the last reset
late : NotesHoldAsWritten → (part : ℕ → Bool) (port : PortEvents) → AreTimed port → (k i : ℕ) → SoundsAt part port k i
    → past_at part port.events k ≤ i
late written part port timed k i s = leb-true (past_at part port.events k) i
    (parts (nat_le (past_at part port.events k) i) (nat_lt i (length (notes_at part port.events k)) && lasts 0 (port.tick k) (get_or (notes_at part port.events k) i nobody))
    ((written part 0 port timed k i).1 (inl s))).0

-- a pair holds where it sounds or its last end is less than a tail ago
pub holds_or_rests : MusicAtAPosition → PortsAreTimed → NotesHoldAsWritten → (o : Options) (table : Targets) (es : List MidiEvent) (p : Pair)
    → AreInOrder 0 es
    → pair_holds o table es p ≡ (pair_sounds o table es p || is_within_tail o.tail (tick_to es (length es)) (end_of_pair o table es p))
holds_or_rests at timed written o table es p order =
    let port = port_at es p.part.port in
    let k = length es in
    let t = tick_to es k in
    let ns = notes_at (is_part o) port.events k in
    let past = past_at (is_part o) port.events k in
    let kept = drop past ns in
    any_filter (is_of_pair o table p) (lasts o.tail t) kept
    ∙ (split sounds (λ n. is_within_tail o.tail t n.ended) (is_of_pair o table p) kept
    ∙ (ap (λ b. b || any_note (λ n. is_within_tail o.tail t n.ended && is_of_pair o table p n) kept)
    (any_drop (λ n. sounds n && is_of_pair o table p n) past ns (λ i low h. late written (is_part o) port (timed p.part.port es order) k i (low, (parts (sounds (get_or ns i nobody)) (is_of_pair o table p (get_or ns i nobody)) h).0))
    ∙ sounds_among at o table es p)
    ∙ ap (λ b. pair_sounds o table es p || b) (latest_tells o table p o.tail t kept)))
