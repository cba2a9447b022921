-- What is put of a sample, chord by chord.
use Rattle.std.proofs.Common.{◌≡◌, ℕ, zero, suc, ◌+◌, ◌-◌, ◌*◌, ◌%◌, ◌^◌, ◌<◌, ◌≤◌, List, [], ◌∷◌, ◌++◌, length, map, ltb, leb, eqb, nat_lt, nat_le, if◌then◌else◌, refl, sym, ap, ◌∙◌, subst, append_assoc, arith, inl, inr, lit≤, lit<}
use Rattle.std.specs.List.{All, AllByRecursion, flat_map, range_with_len}
use Rattle.std.proofs.lemmas.Bool.{cases_Bool}
use Rattle.std.proofs.lemmas.List.{length-append, flat_map_more, map-id}
use Rattle.std.proofs.lemmas.List.Elements.{All-nil, All-cons}
use Rattle.std.proofs.lemmas.List.FromFn.{map-range_with_len_more}
use Rattle.mt_base.specs.declared.event.Msg.{Msg}
use Rattle.mt_base.specs.declared.event.Msg.TheVariants.{NoteOff, NoteOn, KeyPressure, Control, Program, Pressure, Bend}
use Rattle.mt_base.specs.Midi.{Says, Timed, end_of_track}
use Rattle.mt_base.specs.Valid.{IsValidMsg}
use Rattle.midi_model.specs.Writing.{quantity_bytes, status_of, data_of, body_bytes, track_bytes, chunks_bytes, file_bytes, IsWritable}
use Rattle.mtune_files.specs.Sample.{chord_start, chord_end, said_at, at_tick, events_at, sample_events}

-- ---- how many bytes a message takes

quantity_two : (n : ℕ) → n < 16384 → length (quantity_bytes n) ≤ 2
unfolding quantity_bytes
quantity_two n small = elim (cases_Bool (ltb n 128)) [
  | inl a ↦ rw a (lit≤ tt)
  | inr a ↦ rw a (elim (cases_Bool (ltb n 16384)) [
    | inl b ↦ rw b (lit≤ tt)
    | inr b ↦ absurd (grind (arith, b, small))
  ])
]

data_most : (m : Msg) → length (data_of m) ≤ 2
data_most (NoteOff c key velocity) = lit≤ tt
data_most (NoteOn c key velocity) = lit≤ tt
data_most (KeyPressure c key value) = lit≤ tt
data_most (Control c number value) = lit≤ tt
data_most (Program c program) = lit≤ tt
data_most (Pressure c value) = lit≤ tt
data_most (Bend c value) = lit≤ tt

body_most : (running : ℕ) (m : Msg) → length (body_bytes running (Says m)) ≤ 3
body_most running m = elim (cases_Bool (eqb running (status_of m))) [
  | inl t ↦ rw t (omega (arith, data_most m))
  | inr f ↦ rw f (omega (arith, data_most m))
]

-- a message behind a delta of two bytes takes at most five
pub message_most : (bytes : List ℕ) (delta running : ℕ) (m : Msg) → delta < 16384
    → length (bytes ++ (quantity_bytes delta ++ body_bytes running (Says m))) ≤ length bytes + 5
message_most bytes delta running m small =
    let q = quantity_bytes delta in
    let b = body_bytes running (Says m) in
    omega (arith, quantity_two delta small, body_most running m, length-append q b, length-append bytes (q ++ b))

-- ---- step by step

-- one number more
range_more : (n : ℕ) → range_with_len 0 (n + 1) ≡ range_with_len 0 n ++ n ∷ []
range_more n =
    sym (map-id (range_with_len 0 (n + 1)))
    ∙ map-range_with_len_more (λ (x : ℕ). x) 0 n n (omega arith)
    ∙ ap (λ (xs : List ℕ). xs ++ n ∷ []) (map-id (range_with_len 0 n))

-- what is put up to a step, and at it
pub steps_more : (n i : ℕ) → flat_map (events_at n) (range_with_len 0 (i + 1)) ≡ flat_map (events_at n) (range_with_len 0 i) ++ events_at n i
steps_more n i = ap (λ (xs : List ℕ). flat_map (events_at n) xs) (range_more i) ∙ sym (flat_map_more (events_at n) [] (range_with_len 0 i) i)

-- the last step is put, and the end of the track behind it
pub all_steps : (n i : ℕ) → i ≡ n + 2
    → flat_map (events_at n) (range_with_len 0 i) ++ record { tick = 240 * (n + 1); what = end_of_track } ∷ [] ≡ sample_events n
unfolding sample_events
all_steps n i is = rw is refl

-- ---- a sample can be written

-- messages at one tick can be written before what can be written from that tick on
at_front : (tick : ℕ) (ms : List Msg) (rest : List Timed) (before : ℕ) → AllByRecursion (λ m. IsValidMsg m) ms → before ≤ tick → tick < 2 ^ 28
    → ((last : ℕ) → last ≤ tick → IsWritable last rest) → IsWritable before (map (at_tick tick) ms ++ rest)
at_front tick [] rest before valid order small more = more before order
at_front tick (m ∷ ms) rest before valid order small more =
    (order, small, valid.0, inr (refl, at_front tick ms rest tick valid.1 (omega arith) small more))

chord_ends : (i : ℕ) → AllByRecursion (λ m. IsValidMsg m) (chord_end i)
chord_ends i =
    let channel : i % 8 ≤ 15 = omega arith in
    let key : (7 * i) % 24 ≤ 23 = omega arith in
    let low : 48 + (7 * i) % 24 ≤ 127 = omega arith in
    let middle : 48 + (7 * i) % 24 + 4 ≤ 127 = omega arith in
    let high : 48 + (7 * i) % 24 + 7 ≤ 127 = omega arith in
    ((channel, low, lit≤ tt), ((channel, middle, lit≤ tt), ((channel, high, lit≤ tt), tt)))

chord_starts : (i : ℕ) → AllByRecursion (λ m. IsValidMsg m) (chord_start i)
chord_starts i =
    let channel : i % 8 ≤ 15 = omega arith in
    let key : (7 * i) % 24 ≤ 23 = omega arith in
    let low : 48 + (7 * i) % 24 ≤ 127 = omega arith in
    let middle : 48 + (7 * i) % 24 + 4 ≤ 127 = omega arith in
    let high : 48 + (7 * i) % 24 + 7 ≤ 127 = omega arith in
    let program : i % 128 ≤ 127 = omega arith in
    let volume : 40 + i % 80 ≤ 127 = omega arith in
    ((channel, program), ((channel, lit≤ tt, volume), ((channel, low, lit≤ tt), ((channel, middle, lit≤ tt), ((channel, high, lit≤ tt), tt)))))

pub all_both : {X : Type 0} (P : X → Type 0) (xs ys : List X) → AllByRecursion P xs → AllByRecursion P ys → AllByRecursion P (xs ++ ys)
all_both P [] ys f g = g
all_both P (x ∷ xs) ys f g = (f.0, all_both P xs ys f.1 g)

said_valid : (n i : ℕ) → AllByRecursion (λ m. IsValidMsg m) (said_at n i)
said_valid n i = all_both (λ m. IsValidMsg m) (if nat_le 2 i then chord_end (i - 2) else []) (if nat_lt i n then chord_start i else [])
    (elim (cases_Bool (leb 2 i)) [ inl a ↦ rw a (chord_ends (i - 2)) | inr a ↦ rw a tt ])
    (elim (cases_Bool (ltb i n)) [ inl a ↦ rw a (chord_starts i) | inr a ↦ rw a tt ])

-- the steps from one on, and the end of the track
from_step : (n i k before : ℕ) → n < 2 ^ 20 → i + k ≡ n + 2 → before ≤ 240 * (i - 1)
    → IsWritable before (flat_map (events_at n) (range_with_len i k) ++ record { tick = 240 * (n + 1); what = end_of_track } ∷ [])
from_step n i zero before few is order = (omega arith, omega arith, (lit< tt, λ _. refl), inl (refl, refl))
from_step n i (suc k) before few is order =
    let rest = flat_map (events_at n) (range_with_len (i + 1) k) in
    let end : List Timed = record { tick = 240 * (n + 1); what = end_of_track } ∷ [] in
    subst (IsWritable before) (sym (append_assoc (events_at n i) rest end))
    (at_front (240 * i) (said_at n i) (rest ++ end) before (said_valid n i) (omega arith) (omega arith)
    (λ last le. from_step n (i + 1) k last few (omega arith) (omega arith)))

pub events_writable : (n : ℕ) → n ≤ 100000 → IsWritable 0 (sample_events n)
unfolding sample_events
events_writable n few = from_step n 0 (n + 2) 0 (omega arith) (omega arith) (omega arith)

pub sample_writable : (n : ℕ) → n ≤ 100000 → All (IsWritable 0) (sample_events n ∷ [])
sample_writable n few = All-cons (IsWritable 0) (sample_events n) [] (events_writable n few) (All-nil (IsWritable 0))

-- ---- how many bytes a sample has

-- a file of one track: a header chunk of 14 bytes, and eight bytes before the track's content
pub one_track_len : (es : List Timed) → length (file_bytes (record { format = 0; division = 480; tracks = es ∷ [] })) ≡ 22 + length (track_bytes es)
unfolding file_bytes chunks_bytes
one_track_len es = omega (arith, length-append (track_bytes es) [])
