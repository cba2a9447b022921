-- The tracks that bytes spell can be played.
use Rattle.std.proofs.Common.{◌≡◌, ℕ, suc, ◌-◌, ◌<◌, ◌≤◌, ◌^◌, ◌⊎◌, List, [], ◌∷◌, ◌++◌, length, map, Bool, true, false, cond, ltb, refl, sym, ap, subst, inl, inr, arith, length-append}
use Rattle.std.specs.List.{AllByRecursion}
use Rattle.mt_base.specs.declared.event.Msg.{Msg}
use Rattle.mt_base.specs.Midi.{Timed, MidiWhat, Says, SysexOf, MetaOf, placed}
use Rattle.mt_base.specs.Valid.{IsValidMsg, IsValidWhat, IsValidEvent}
use Rattle.std.proofs.lemmas.Bool.{ltb-true, cases_order}
use Rattle.midi_model.specs.Reading.{long_msg, short_msg, IsLong}
use Rattle.midi_model.specs.FileText.{MidiFile}
use Rattle.midi_model.specs.Spelling.{IsMessage, IsBody, IsEvent, IsTrack, IsTrackChunk, AreTracks, Spells}
use Rattle.midi_model.specs.Merged.{InOrder, EndsOnce, IsTrackOf, AreTracksOf, IsPlayable, merged}
use Rattle.midi_model.proofs.Merging.{is_before, each_weaker, is_playable}

valid_cond : (b : Bool) (m n : Msg) → (b ≡ true → IsValidMsg m) → (b ≡ false → IsValidMsg n) → IsValidMsg (cond b m n)
valid_cond true m n h k = h refl
valid_cond false m n h k = k refl

short_valid : (s d : ℕ) → 192 ≤ s → s < 224 → d < 128 → IsValidMsg (short_msg s d)
short_valid s d low high small = valid_cond (ltb s 208) _ _
    (λ t. let l = ltb-true s 208 t in (omega (arith, l), omega (arith, small)))
    (λ f. (omega (arith, high), omega (arith, small)))

long_valid : (s d e : ℕ) → IsLong s → d < 128 → e < 128 → IsValidMsg (long_msg s d e)
long_valid s d e (low, high, apart) small small2 =
    let three = λ (c : ℕ) (l : c ≤ 15). let x : (c ≤ 15) × (d ≤ 127) × (e ≤ 127) = (l, omega (arith, small), omega (arith, small2)) in x in
    valid_cond (ltb s 144) _ _ (λ t. three (s - 128) (let l = ltb-true s 144 t in omega (arith, l)))
    (λ f. valid_cond (ltb s 160) _ _ (λ t. three (s - 144) (let l = ltb-true s 160 t in omega (arith, l)))
    (λ f2. valid_cond (ltb s 176) _ _ (λ t. three (s - 160) (let l = ltb-true s 176 t in omega (arith, l)))
    (λ f3. valid_cond (ltb s 192) _ _ (λ t. three (s - 176) (let l = ltb-true s 192 t in omega (arith, l)))
    (λ f4. (omega (arith, high), omega (arith, small, small2))))))

message_valid : (s : ℕ) (bytes : List ℕ) (m : Msg) → IsMessage s bytes m → IsValidMsg m
message_valid s [] m h = absurd h
message_valid s (d ∷ []) m (low, high, small, is) = subst IsValidMsg (sym is) (short_valid s d low high small)
message_valid s (d ∷ e ∷ []) m (long, small, small2, is) = subst IsValidMsg (sym is) (long_valid s d e long small small2)
message_valid s (d ∷ e ∷ f ∷ bs) m h = absurd h

body_valid : (running : ℕ) (bytes : List ℕ) (what : MidiWhat) (after : ℕ) → length bytes < 2 ^ 28 → IsBody running bytes what after → IsValidWhat what
body_valid running bytes (Says m) after few (data_bytes, is, how) = message_valid after data_bytes m is
body_valid running bytes (SysexOf lead content) after few (len, q, e, l, a) = (l, omega (arith, few, ap length e, length-append len content))
body_valid running bytes (MetaOf kind content) after few (len, q, e, h, a) = (omega (arith, few, ap length e, length-append len content), h)

event_valid : (track running before : ℕ) (bytes : List ℕ) (e : Timed) (after : ℕ) → length bytes < 2 ^ 28 → IsEvent running before bytes e after → IsValidEvent (placed track e)
event_valid track running before bytes e after few is = record {
  tick = is.in_time;
  what = body_valid running is.body e.what after (omega (arith, few, ap length is.parts, length-append is.delta is.body)) is.is_body;
}

-- an event's bytes and those that follow are no more than all
parts_few : (bytes front rest : List ℕ) → length bytes < 2 ^ 28 → bytes ≡ front ++ rest → (length front < 2 ^ 28) × (length rest < 2 ^ 28)
parts_few bytes front rest few parts =
    (omega (arith, few, ap length parts, length-append front rest), omega (arith, few, ap length parts, length-append front rest))

track_valid : (track running before : ℕ) (bytes : List ℕ) (es : List Timed) → length bytes < 2 ^ 28 → IsTrack running before bytes es → AllByRecursion (λ e. IsValidEvent e) (map (placed track) es)
track_valid track running before bytes [] few h = absurd h
track_valid track running before bytes (e ∷ []) few (front, rest, after, is, parts, how) = (event_valid track running before front e after (parts_few bytes front rest few parts).0 is, tt)
track_valid track running before bytes (e ∷ f ∷ es) few (front, rest, after, is, parts, inl (t, nil)) = absurd cc
track_valid track running before bytes (e ∷ f ∷ es) few (front, rest, after, is, parts, inr (go, more)) =
    (event_valid track running before front e after (parts_few bytes front rest few parts).0 is, track_valid track after e.tick rest (f ∷ es) (parts_few bytes front rest few parts).1 more)

not_earlier : (track running before : ℕ) (bytes : List ℕ) (es : List Timed) → IsTrack running before bytes es → AllByRecursion (λ f. (before ≤ f.tick) × (f.track ≡ track)) (map (placed track) es)
not_earlier track running before bytes [] h = absurd h
not_earlier track running before bytes (e ∷ []) (front, rest, after, is, parts, how) = ((omega (arith, is.tick), refl), tt)
not_earlier track running before bytes (e ∷ f ∷ es) (front, rest, after, is, parts, inl (t, nil)) = absurd cc
not_earlier track running before bytes (e ∷ f ∷ es) (front, rest, after, is, parts, inr (go, more)) =
    ((omega (arith, is.tick), refl), each_weaker _ _ (map (placed track) (f ∷ es)) (λ g (h : (e.tick ≤ g.tick) × (g.track ≡ track)). (omega (arith, is.tick, h.0), h.1)) (not_earlier track after e.tick rest (f ∷ es) more))

earlier : (a b c d : ℕ) → a ≤ b → d ≡ c → (a < b) ⊎ ((a ≡ b) × (c ≤ d))
earlier a b c d h k = elim (cases_order a b) [
  | inl same ↦ inr (same, omega (arith, k))
  | inr (inl l) ↦ inl l
  | inr (inr l) ↦ absurd (omega (arith, h, l))
]

track_in_order : (track running before : ℕ) (bytes : List ℕ) (es : List Timed) → IsTrack running before bytes es → InOrder (map (placed track) es)
track_in_order track running before bytes [] h = absurd h
track_in_order track running before bytes (e ∷ []) h = (tt, tt)
track_in_order track running before bytes (e ∷ f ∷ es) (front, rest, after, is, parts, inl (t, nil)) = absurd cc
track_in_order track running before bytes (e ∷ f ∷ es) (front, rest, after, is, parts, inr (go, more)) = (
  each_weaker _ _ (map (placed track) (f ∷ es))
      (λ g (h : (e.tick ≤ g.tick) × (g.track ≡ track)). is_before (placed track e) g (earlier e.tick g.tick track g.track h.0 h.1))
      (not_earlier track after e.tick rest (f ∷ es) more),
  track_in_order track after e.tick rest (f ∷ es) more,
)

track_ends : (track running before : ℕ) (bytes : List ℕ) (es : List Timed) → IsTrack running before bytes es → EndsOnce (map (placed track) es)
track_ends track running before bytes [] h = absurd h
track_ends track running before bytes (e ∷ []) (front, rest, after, is, parts, inl (t, nil)) = t
track_ends track running before bytes (e ∷ []) (front, rest, after, is, parts, inr (go, more)) = absurd more
track_ends track running before bytes (e ∷ f ∷ es) (front, rest, after, is, parts, inl (t, nil)) = absurd cc
track_ends track running before bytes (e ∷ f ∷ es) (front, rest, after, is, parts, inr (go, more)) = (go, track_ends track after e.tick rest (f ∷ es) more)

pub is_track_of : (track : ℕ) (bytes : List ℕ) (es : List Timed) → length bytes < 2 ^ 28 → IsTrack 0 0 bytes es → IsTrackOf track (map (placed track) es)
is_track_of track bytes es few is = record {
  valid = track_valid track 0 0 bytes es few is;
  in_order = track_in_order track 0 0 bytes es is;
  in_track = each_weaker _ _ (map (placed track) es) (λ e (h : (0 ≤ e.tick) × (e.track ≡ track)). h.1) (not_earlier track 0 0 bytes es is);
  ended = track_ends track 0 0 bytes es is;
}

content_few : (bytes content : List ℕ) → IsTrackChunk bytes content → length content ≤ length bytes
content_few bytes content is =
    omega (arith, ap length is.parts, length-append is.skipped is.chunk, ap length is.is_chunk.parts, length-append is.is_chunk.type_bytes (is.is_chunk.size_bytes ++ content), length-append is.is_chunk.size_bytes content)

are_tracks_of : (track : ℕ) (bytes : List ℕ) (ts : List (List Timed)) → length bytes < 2 ^ 28 → AreTracks ts bytes → AreTracksOf track ts
are_tracks_of track bytes [] few h = tt
are_tracks_of track bytes (es ∷ ts) few (front, rest, content, is, events, parts, more) =
    let two = parts_few bytes front rest few parts in
    (is_track_of track content es (omega (arith, content_few front content is, two.0)) events, are_tracks_of (suc track) rest ts two.1 more)

pub spelled_tracks : (bytes : List ℕ) (file : MidiFile) → length bytes < 2 ^ 28 → Spells bytes file → AreTracksOf 0 file.tracks
spelled_tracks bytes file few is =
    let few1 = (parts_few bytes is.header (is.tracks ++ is.more) few is.parts).1 in
    let few2 = (parts_few (is.tracks ++ is.more) is.tracks is.more few1 refl).0 in
    are_tracks_of 0 is.tracks file.tracks few2 is.are_tracks

pub spelled_playable : (bytes : List ℕ) (file : MidiFile) → length bytes < 2 ^ 28 → Spells bytes file → IsPlayable (length file.tracks) (merged file)
spelled_playable bytes file few is = is_playable file.tracks (spelled_tracks bytes file few is)
