-- An event takes at least two bytes.
use Rattle.std.proofs.Common.{◌≡◌, ℕ, zero, suc, ◌+◌, ◌*◌, ◌<◌, ◌≤◌, List, [], ◌∷◌, ◌++◌, length, Result, Ok, Err, None, Bool, true, false, cond, refl, ap, arith, inl, inr, map, subst, ◌∙◌}
use Rattle.std.proofs.lemmas.List.{length-append}
use Rattle.midi_model.specs.declared.fault.Stop.{Stop}
use Rattle.mt_base.specs.declared.event.Msg.{Msg}
use Rattle.mt_base.specs.Midi.{MidiWhat, Says, SysexOf, MetaOf, Timed, is_end}
use Rattle.midi_model.specs.Reading.{event_at, IsRunning, Run, last, in_front, continued, track_from, rest_of_track, track_in}
use Rattle.midi_model.specs.FileText.{track_at, tracks_at, together, events_of}
use Rattle.midi_model.specs.Spelling.{IsMessage, IsBody, IsTrackChunk}
use Rattle.midi_model.proofs.Chunks.{track_at_takes, track_at_whole}
use Rattle.midi_model.proofs.Laws.{event_takes, TookEvent, none_runs, not_nothing, bind_ok, ok_is}

some_data : (s : ℕ) (front : List ℕ) (m : Msg) → IsMessage s front m → 0 < length front
some_data s [] m h = absurd h
some_data s (d ∷ ds) m h = omega arith

some_body : (running : ℕ) (front : List ℕ) (what : MidiWhat) (after : ℕ) → IsBody running front what after → 0 < length front
some_body running front (Says m) after (bytes, is, inl e) = omega (arith, ap length e)
some_body running front (Says m) after (bytes, is, inr (e, r)) = let some = some_data after bytes m is in omega (arith, some, ap length e)
some_body running front (SysexOf lead content) after (len, q, e, l, a) = omega (arith, ap length e)
some_body running front (MetaOf kind content) after (len, q, e, h, a) = omega (arith, ap length e)

two : (running before : ℕ) (bytes : List ℕ) (x : Timed × ℕ × List ℕ) → TookEvent running before bytes x → length x.2 + 2 ≤ length bytes
two running before bytes x t =
    let a = not_nothing t.is_event.delta t.is_event.distance t.is_event.is_delta.digits in
    let b = some_body running t.is_event.body x.0.what x.1 t.is_event.is_body in
    omega (arith, a, b, ap length t.parts, length-append t.front x.2, ap length t.is_event.parts, length-append t.is_event.delta t.is_event.body)

pub two_bytes : (running before : ℕ) (bytes : List ℕ) (x : Timed × ℕ × List ℕ) → IsRunning running → event_at running before bytes ≡ Ok x → length x.2 + 2 ≤ length bytes
two_bytes running before bytes x run e = two running before bytes x (event_takes running before bytes x run e)

one_more : (b : Bool) (e : Timed) (run : Run) (n m : ℕ) → n + 2 ≤ m → 2 * length run.events ≤ n → 2 * length (cond b (last e) (in_front e run)).events ≤ m
one_more true e run n m room few = omega (arith, room)
one_more false e run n m room few = omega (arith, room, few)

step : (running before : ℕ) (bytes : List ℕ) (next : ℕ → ℕ → List ℕ → Run) (r : Result (Timed × ℕ × List ℕ) Stop) → IsRunning running → event_at running before bytes ≡ r
    → ((x : Timed × ℕ × List ℕ) → IsRunning x.1 → 2 * length (next x.1 x.0.tick x.2).events ≤ length x.2)
    → 2 * length (continued next r).events ≤ length bytes
step running before bytes next (Err e) runs is rest = omega arith
step running before bytes next (Ok x) runs is rest =
    let t = event_takes running before bytes x runs is in
    one_more (is_end x.0.what) x.0 (next x.1 x.0.tick x.2) (length x.2) (length bytes) (two running before bytes x t) (rest x t.runs)

from_count : (turns running before : ℕ) (bytes : List ℕ) → IsRunning running → 2 * length (track_from turns running before bytes).events ≤ length bytes
unfolding track_from
from_count zero running before bytes runs = omega arith
from_count (suc turns) running before [] runs = omega arith
from_count (suc turns) running before (b ∷ bytes) runs =
    step running before (b ∷ bytes) (track_from turns) (event_at running before (b ∷ bytes)) runs refl (λ x r. from_count turns x.1 x.0.tick x.2 r)

-- so a file of at most 4,194,304 bytes has at most 2,097,152 events in one track
pub track_count : (bytes : List ℕ) → 2 * length (track_in bytes).events ≤ length bytes
unfolding rest_of_track
track_count bytes = from_count _ 0 0 bytes none_runs

-- a track chunk is longer than its content
pub content_within : (front content : List ℕ) → IsTrackChunk front content → length content ≤ length front
content_within front content is = omega (
  arith,
  ap length is.parts,
  length-append is.skipped is.chunk,
  ap length is.is_chunk.parts,
  length-append is.is_chunk.type_bytes (is.is_chunk.size_bytes ++ content),
  length-append is.is_chunk.size_bytes content,
)

-- a track's content is whole, and no longer than what it is read from
pub track_at_sound : (bytes : List ℕ) (x : List ℕ × List ℕ) → track_at bytes ≡ Ok x → ((track_in x.0).fault ≡ None) × (length x.0 + length x.1 ≤ length bytes)
track_at_sound bytes x e =
    let t = track_at_takes bytes x e in
    let within = content_within t.0.0 x.0 t.0.1 in
    (track_at_whole bytes x e, omega (arith, within, ap length t.0.2, length-append t.0.0 x.1))

-- so a file of at most 4,194,304 bytes has at most 2,097,152 events
pub tracks_count : (count : ℕ) (bytes : List ℕ) (x : List (List ℕ) × List ℕ) → tracks_at count bytes ≡ Ok x → 2 * together (map events_of x.0) + length x.1 ≤ length bytes
unfolding tracks_at
tracks_count zero bytes x e = subst (λ (y : List (List ℕ) × List ℕ). 2 * together (map events_of y.0) + length y.1 ≤ length bytes) (ok_is ([], bytes) x e) (omega arith)
tracks_count (suc n) bytes x e =
    let a = bind_ok (track_at bytes) _ x e in
    let b = bind_ok (tracks_at n a.0.1) (λ others. Ok (a.0.0 ∷ others.0, others.1)) x a.2 in
    let t = track_at_takes bytes a.0 a.1 in
    let u = tracks_count n a.0.1 b.0 b.1 in
    let one = track_count a.0.0 in
    let within = content_within t.0.0 a.0.0 t.0.1 in
    let split : length bytes ≡ length t.0.0 + length a.0.1 = ap length t.0.2 ∙ length-append t.0.0 a.0.1 in
    subst (λ (y : List (List ℕ) × List ℕ). 2 * together (map events_of y.0) + length y.1 ≤ length bytes) (ok_is (a.0.0 ∷ b.0.0, b.0.1) x b.2) (omega (arith, u, one, within, split))
