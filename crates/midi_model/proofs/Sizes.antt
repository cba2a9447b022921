-- How many bytes events take: at most four times as many as before when they are written again.
use Rattle.std.proofs.Common.{◌≡◌, ℕ, zero, suc, ◌+◌, ◌-◌, ◌*◌, ◌<◌, ◌≤◌, List, [], ◌∷◌, ◌++◌, length, map, get_or, ltb, eqb, ap, arith, inl, inr, lit≤}
use Rattle.std.proofs.lemmas.Bool.{cases_Bool}
use Rattle.std.proofs.lemmas.List.{length-append, length-map}
use Rattle.mt_base.specs.declared.event.Msg.{Msg}
use Rattle.mt_base.specs.declared.event.Msg.TheVariants.{NoteOff, NoteOn, KeyPressure, Control, Program, Pressure, Bend}
use Rattle.mt_base.specs.Midi.{MidiWhat, Says, SysexOf, MetaOf, Timed, placed}
use Rattle.midi_model.specs.FileText.{MidiFile}
use Rattle.midi_model.specs.Spelling.{IsMessage, IsBody, IsEvent, IsTrack, AreTracks, Spells}
use Rattle.midi_model.specs.Writing.{quantity_bytes, status_of, data_of, running_after, body_bytes, event_bytes, events_bytes, track_bytes, most_bytes}
use Rattle.midi_model.specs.Merged.{one_by_one, merged}
use Rattle.midi_model.proofs.Counts.{content_within}
use Rattle.midi_model.proofs.Laws.{not_nothing}
use Rattle.midi_model.proofs.Merging.{sorted_length}

-- the most bytes that events take in a track
abbrev pub most : List Timed → ℕ
most [] = 0
most (e ∷ es) = most_bytes e.what + most es

-- ---- what is written

quantity_most : (n : ℕ) → length (quantity_bytes n) ≤ 4
unfolding quantity_bytes
quantity_most n = elim (cases_Bool (ltb n 128)) [
  | inl a ↦ rw a (lit≤ tt)
  | inr a ↦ rw a (elim (cases_Bool (ltb n 16384)) [
    | inl b ↦ rw b (lit≤ tt)
    | inr b ↦ rw b (elim (cases_Bool (ltb n 2097152)) [
      | inl c ↦ rw c (lit≤ tt)
      | inr c ↦ rw c (lit≤ tt)
    ])
  ])
]

data_most : (m : Msg) → length (data_of m) ≤ 2
data_most (NoteOff c key velocity) = lit≤ tt
data_most (NoteOn c key velocity) = lit≤ tt
data_most (KeyPressure c key value) = lit≤ tt
data_most (Control c number value) = lit≤ tt
data_most (Program c program) = lit≤ tt
data_most (Pressure c value) = lit≤ tt
data_most (Bend c value) = lit≤ tt

body_most : (running : ℕ) (w : MidiWhat) → length (body_bytes running w) + 4 ≤ most_bytes w
body_most running (Says m) = elim (cases_Bool (eqb running (status_of m))) [
  | inl t ↦ rw t (omega (arith, data_most m))
  | inr f ↦ rw f (omega (arith, data_most m))
]
body_most running (SysexOf lead content) = omega (arith, quantity_most (length content), length-append (quantity_bytes (length content)) content)
body_most running (MetaOf kind content) = omega (arith, quantity_most (length content), length-append (quantity_bytes (length content)) content)

event_most : (running before : ℕ) (e : Timed) → length (event_bytes running before e) ≤ most_bytes e.what
event_most running before e =
    omega (arith, quantity_most (e.tick - before), body_most running e.what, length-append (quantity_bytes (e.tick - before)) (body_bytes running e.what))

events_most : (running before : ℕ) (es : List Timed) → length (events_bytes running before es) ≤ most es
unfolding events_bytes
events_most running before [] = omega arith
events_most running before (e ∷ es) =
    let first = event_most running before e in
    let others = events_most (running_after e.what) e.tick es in
    let both = length-append (event_bytes running before e) (events_bytes (running_after e.what) e.tick es) in
    omega (arith, first, others, both)

pub track_most : (es : List Timed) → length (track_bytes es) ≤ most es
track_most es = events_most 0 0 es

-- ---- what is read

some_data : (status : ℕ) (bytes : List ℕ) (m : Msg) → IsMessage status bytes m → 0 < length bytes
some_data status [] m h = absurd h
some_data status (d ∷ ds) m h = omega arith

body_takes : (running : ℕ) (bytes : List ℕ) (w : MidiWhat) (after : ℕ) → IsBody running bytes w after → (most_bytes w ≤ 4 * length bytes + 4) × (0 < length bytes)
body_takes running bytes (Says m) after (data_bytes, is, inl e) = (omega (arith, ap length e), omega (arith, ap length e))
body_takes running bytes (Says m) after (data_bytes, is, inr (e, r)) =
    let some = some_data after data_bytes m is in (omega (arith, some, ap length e), omega (arith, some, ap length e))
body_takes running bytes (SysexOf lead content) after (len, q, e, l, a) =
    let some = not_nothing len (length content) q.digits in
    (omega (arith, some, ap length e, length-append len content), omega (arith, ap length e))
body_takes running bytes (MetaOf kind content) after (len, q, e, h, a) =
    (omega (arith, ap length e, length-append len content), omega (arith, ap length e))

event_takes : (running before : ℕ) (bytes : List ℕ) (e : Timed) (after : ℕ) → IsEvent running before bytes e after → (most_bytes e.what ≤ 4 * length bytes) × (2 ≤ length bytes)
event_takes running before bytes e after is =
    let some = not_nothing is.delta is.distance is.is_delta.digits in
    let body = body_takes running is.body e.what after is.is_body in
    let both = length-append is.delta is.body in
    (omega (arith, some, body.0, ap length is.parts, both), omega (arith, some, body.1, ap length is.parts, both))

-- what a track takes, and how many events it has
abbrev Takes : List Timed → ℕ → Type 0
Takes es n = (most es ≤ 4 * n) × (2 * length es ≤ n)

one_takes : (e : Timed) (es : List Timed) (bytes front rest : List ℕ) → bytes ≡ front ++ rest → (most_bytes e.what ≤ 4 * length front) × (2 ≤ length front) → Takes es (length rest)
    → Takes (e ∷ es) (length bytes)
one_takes e es bytes front rest parts first others =
    let both = length-append front rest in
    (omega (arith, first.0, others.0, ap length parts, both), omega (arith, first.1, others.1, ap length parts, both))

track_takes : (running before : ℕ) (bytes : List ℕ) (es : List Timed) → IsTrack running before bytes es → Takes es (length bytes)
track_takes running before bytes [] h = absurd h
track_takes running before bytes (e ∷ []) (front, rest, after, is, parts, how) =
    one_takes e [] bytes front rest parts (event_takes running before front e after is) (omega arith, omega arith)
track_takes running before bytes (e ∷ f ∷ es) (front, rest, after, is, parts, inl (t, nil)) = absurd cc
track_takes running before bytes (e ∷ f ∷ es) (front, rest, after, is, parts, inr (go, more)) =
    one_takes e (f ∷ es) bytes front rest parts (event_takes running before front e after is) (track_takes after e.tick rest (f ∷ es) more)

tracks_take : (ts : List (List Timed)) (bytes : List ℕ) → AreTracks ts bytes → (t : ℕ) → most (get_or ts t []) ≤ 4 * length bytes
tracks_take [] bytes h t = omega arith
tracks_take (es ∷ ts) bytes (front, rest, content, is, events, parts, more) zero =
    omega (arith, (track_takes 0 0 content es events).0, content_within front content is, ap length parts, length-append front rest)
tracks_take (es ∷ ts) bytes (front, rest, content, is, events, parts, more) (suc t) =
    omega (arith, tracks_take ts rest more t, ap length parts, length-append front rest)

tracks_hold : (n : ℕ) (ts : List (List Timed)) (bytes : List ℕ) → AreTracks ts bytes → 2 * length (one_by_one n ts) ≤ length bytes
tracks_hold n [] bytes h = omega arith
tracks_hold n (es ∷ ts) bytes (front, rest, content, is, events, parts, more) =
    let first = (track_takes 0 0 content es events).1 in
    let others = tracks_hold (suc n) ts rest more in
    let placed_all = length-map es (placed n) in
    let both = length-append (map (placed n) es) (one_by_one (suc n) ts) in
    omega (arith, first, others, placed_all, both, content_within front content is, ap length parts, length-append front rest)

tracks_within : (bytes : List ℕ) (file : MidiFile) (is : Spells bytes file) → length is.tracks ≤ length bytes
tracks_within bytes file is = omega (arith, ap length is.parts, length-append is.header (is.tracks ++ is.more), length-append is.tracks is.more)

-- A track of a file takes at most four times as many bytes as the file has.
pub spelled_most : (bytes : List ℕ) (file : MidiFile) → Spells bytes file → (t : ℕ) → most (get_or file.tracks t []) ≤ 4 * length bytes
spelled_most bytes file is t = omega (arith, tracks_take file.tracks is.tracks is.are_tracks t, tracks_within bytes file is)

-- A file has at most half as many events as bytes.
pub spelled_count : (bytes : List ℕ) (file : MidiFile) → Spells bytes file → 2 * length (merged file) ≤ length bytes
spelled_count bytes file is =
    omega (arith, tracks_hold 0 file.tracks is.tracks is.are_tracks, sorted_length (one_by_one 0 file.tracks), tracks_within bytes file is)
