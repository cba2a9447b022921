-- What a route gives can be written as a file, and its bytes spell it.
use Rattle.std.proofs.Common.{◌≡◌, ℕ, ◌+◌, ◌*◌, ◌^◌, ◌<◌, ◌≤◌, List, [], ◌∷◌, ◌++◌, length, map, filter, Bool, refl, sym, subst, ◌∙◌, inl, inr, arith}
use Rattle.std.specs.Prelude.{All}
use Rattle.std.specs.List.{AllByRecursion}
use Rattle.std.specs.Int.{w16, from_be_bytes}
use Rattle.std.proofs.lemmas.Bool.{cases_Bool}
use Rattle.std.proofs.lemmas.List.{get_or-map, length-map}
use Rattle.std.proofs.lemmas.List.Elements.{All-from_get_or}
use Rattle.mt_base.specs.Midi.{Timed, MidiEvent}
use Rattle.mt_base.specs.Valid.{IsValidEvent}
use Rattle.midi_model.specs.FileText.{MidiFile}
use Rattle.midi_model.specs.Merged.{InOrder, EndsOnce, of_track, IsPlayable, timed}
use Rattle.midi_model.specs.Spelling.{Spells}
use Rattle.midi_model.specs.Writing.{Written, written, track_bytes, IsWritable, IsWritableFile}
use Rattle.event_stream.specs.Distributed.{events_in, distributed}
use Rattle.mtune_core.specs.Output.{with_events, HasShortTracks}
use Rattle.mtune_core.proofs.Dealt.{length_dealt, get_dealt, each_weaker, each_picked, no_earlier}

-- ---- the tracks of a playable list

picked_in_order : (p : MidiEvent → Bool) (es : List MidiEvent) → InOrder es → InOrder (filter p es)
picked_in_order p [] h = tt
picked_in_order p (e ∷ es) h = elim (cases_Bool (p e)) [
  | inl picked ↦ rw picked (each_picked p _ es h.0, picked_in_order p es h.1)
  | inr left ↦ rw left (picked_in_order p es h.1)
]

from_start : (es : List MidiEvent) → AllByRecursion (λ e. 0 ≤ e.tick) es
from_start [] = tt
from_start (e ∷ es) = (omega arith, from_start es)

writable_from : (tick : ℕ) (es : List MidiEvent) → AllByRecursion (λ e. IsValidEvent e) es → InOrder es → EndsOnce es
    → AllByRecursion (λ e. tick ≤ e.tick) es
    → IsWritable tick (map timed es)
writable_from tick [] valid order ended late = absurd ended
writable_from tick (e ∷ []) valid order ended late = (late.0, valid.0.tick, valid.0.what, inl (ended, refl))
writable_from tick (e ∷ f ∷ es) valid order ended late =
    let later = each_weaker _ (λ g. e.tick ≤ g.tick) (f ∷ es) (λ g p. no_earlier e g p) order.0 in
    (late.0, valid.0.tick, valid.0.what, inr (ended.0, writable_from e.tick (f ∷ es) valid.1 order.1 ended.1 later))

pub writable_track : (n t : ℕ) (es : List MidiEvent) → IsPlayable n es → t < n → IsWritable 0 (events_in t es)
writable_track n t es h lt = writable_from 0 (of_track t es) (each_picked _ _ es h.valid) (picked_in_order _ es h.in_order) (h.ended t lt)
    (from_start (of_track t es))

pub all_writable : (n : ℕ) (es : List MidiEvent) → IsPlayable n es → All (IsWritable 0) (distributed n es)
all_writable n es h = All-from_get_or (IsWritable 0) (distributed n es) [] (λ i lt.
    let low : i < n = omega (arith, lt, length_dealt 0 n es) in
    subst (IsWritable 0) (sym (get_dealt 0 n i i es (omega arith) low)) (writable_track n i es h low))

-- ---- their lengths

short_tracks : (ts : List (List Timed)) → All (λ (w : Written). length w.bytes < 2 ^ 32) (map written ts)
    → All (λ (es : List Timed). length (track_bytes es) < 2 ^ 32) ts
short_tracks ts h = All-from_get_or (λ (es : List Timed). length (track_bytes es) < 2 ^ 32) ts [] (λ i lt.
    subst (λ (w : Written). length w.bytes < 2 ^ 32) (get_or-map written ts i [] (written []) lt)
    (h i (written []) (omega (arith, lt, length-map ts written))))

-- ---- the division

all_front : (xs ys : List ℕ) → AllByRecursion (λ (b : ℕ). b < 256) (xs ++ ys) → AllByRecursion (λ (b : ℕ). b < 256) xs
all_front [] ys h = tt
all_front (x ∷ xs) ys h = (h.0, all_front xs ys h.1)

all_back : (xs ys : List ℕ) → AllByRecursion (λ (b : ℕ). b < 256) (xs ++ ys) → AllByRecursion (λ (b : ℕ). b < 256) ys
all_back [] ys h = h
all_back (x ∷ xs) ys h = all_back xs ys h.1

two_bytes : (bs : List ℕ) (n : ℕ) → length bs ≡ 2 → from_be_bytes w16 bs ≡ n → AllByRecursion (λ (b : ℕ). b < 256) bs → n < 2 ^ 16
two_bytes [] n len value h = absurd (omega (arith, len))
two_bytes (a ∷ []) n len value h = absurd (omega (arith, len))
two_bytes (a ∷ b ∷ []) n len value h = let is : a * 256 + b ≡ n = value in omega (arith, is, h.0, h.1.0)
two_bytes (a ∷ b ∷ c ∷ bs) n len value h = absurd (omega (arith, len))

-- The division that bytes spell is a number of two bytes.
pub division_below : (bytes : List ℕ) (source : MidiFile) → Spells bytes source → AllByRecursion (λ (b : ℕ). b < 256) bytes → source.division < 2 ^ 16
division_below bytes source is h =
    let front = is.is_header in
    let fields = is.are_fields in
    let header = all_front is.header (is.tracks ++ is.more) (subst (AllByRecursion (λ (b : ℕ). b < 256)) is.parts h) in
    let behind_type = all_back front.type_bytes (front.size_bytes ++ is.fields) (subst (AllByRecursion (λ (b : ℕ). b < 256)) front.parts header) in
    let content = subst (AllByRecursion (λ (b : ℕ). b < 256)) fields.parts (all_back front.size_bytes is.fields behind_type) in
    let behind_format = all_back fields.format_bytes (fields.tracks_bytes ++ (fields.division_bytes ++ fields.more)) content in
    let behind_tracks = all_back fields.tracks_bytes (fields.division_bytes ++ fields.more) behind_format in
    two_bytes fields.division_bytes source.division fields.is_division.len fields.is_division.value
    (all_front fields.division_bytes fields.more behind_tracks)

-- ---- the file

-- Events that can be written as a file like a source make one.
pub events_are_written : (bytes : List ℕ) (source : MidiFile) (es : List MidiEvent) → Spells bytes source → source.division < 2 ^ 16
    → IsPlayable (length source.tracks) es → HasShortTracks (with_events source es) → IsWritableFile (with_events source es)
events_are_written bytes source es is division playable short =
    let n = length source.tracks in
    let count : length (distributed n es) ≡ n = length_dealt 0 n es in
    let fields = is.are_fields in
    record {
      tracks = all_writable n es playable;
      short = short_tracks (distributed n es) short;
      one_or_more = omega (arith, count, fields.one_or_more);
      few = omega (arith, count, fields.few);
      format_0_or_1 = fields.format_0_or_1;
      one_in_0 = λ zero. count ∙ fields.one_in_0 zero;
      division = division;
    }
