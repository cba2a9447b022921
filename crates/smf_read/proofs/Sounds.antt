-- What follows from what was checked of a file's contents.
use Rattle.std.proofs.Common.{◌≡◌, ℕ, zero, suc, ◌+◌, ◌<◌, ◌≤◌, List, [], ◌∷◌, length, map, get_or, Ok, None, refl, ap, sym, subst, ◌∙◌, arith, length-append}
use Rattle.std.specs.Borrow.{Bor}
use Rattle.std.proofs.lemmas.List.{length-map}
use Rattle.mt_base.specs.Midi.{Timed, placed}
use Rattle.midi_model.specs.Reading.{track_in}
use Rattle.midi_model.specs.FileText.{track_at, tracks_at, events_of, together}
use Rattle.midi_model.specs.Merged.{IsTrackOf, AreTracksOf, one_by_one}
use Rattle.midi_model.specs.ReadingLaws.{ContentIsATrack, TrackIsWhole}
use Rattle.smf_read.specs.Sound.{AreSound}
use Rattle.smf_read.specs.Views.{content_of}
use Rattle.smf_read.proofs.Steps.{bind_ok, ok_is}

-- the same by recursion
abbrev EachSound : List (List ℕ) → Type 0
EachSound [] = Unit {0}
EachSound (c ∷ cs) = ((track_in c).fault ≡ None) × (length c ≤ 4194304) × EachSound cs

each_sound : (cs : List (List ℕ)) → AreSound cs → EachSound cs
each_sound [] h = tt
each_sound (c ∷ cs) h = let one = h 0 (omega arith) in (one.0, one.1, each_sound cs (λ i lt. h (suc i) (omega (arith, lt))))

are_sound : (cs : List (List ℕ)) → EachSound cs → AreSound cs
are_sound [] h i lt = absurd (omega (arith, lt))
are_sound (c ∷ cs) h zero lt = (h.0, h.1)
are_sound (c ∷ cs) h (suc i) lt = are_sound cs h.2 i (omega (arith, lt))

tracks_each : TrackIsWhole → (count : ℕ) (bytes : List ℕ) (x : List (List ℕ) × List ℕ) → length bytes ≤ 4194304 → tracks_at count bytes ≡ Ok x → EachSound x.0
unfolding tracks_at
tracks_each law zero bytes x few e = subst (λ (y : List (List ℕ) × List ℕ). EachSound y.0) (ok_is ([], bytes) x e) tt
tracks_each law (suc n) bytes x few e =
    let a = bind_ok (track_at bytes) _ x e in
    let b = bind_ok (tracks_at n a.0.1) (λ others. Ok (a.0.0 ∷ others.0, others.1)) x a.2 in
    let one = law bytes a.0 a.1 in
    let u = tracks_each law n a.0.1 b.0 (omega (arith, few, one.1)) b.1 in
    subst (λ (y : List (List ℕ) × List ℕ). EachSound y.0) (ok_is (a.0.0 ∷ b.0.0, b.0.1) x b.2) (one.0, omega (arith, few, one.1), u)

each_track : ContentIsATrack → (track : ℕ) (cs : List (List ℕ)) → EachSound cs → AreTracksOf track (map events_of cs)
each_track law track [] h = tt
each_track law track (c ∷ cs) h = (law track c (omega (arith, h.1)) h.0, each_track law (suc track) cs h.2)

pub tracks_sound : TrackIsWhole → (count : ℕ) (bytes : List ℕ) (x : List (List ℕ) × List ℕ) → length bytes ≤ 4194304 → tracks_at count bytes ≡ Ok x → AreSound x.0
tracks_sound law count bytes x few e = are_sound x.0 (tracks_each law count bytes x few e)

pub are_tracks : ContentIsATrack → (cs : List (List ℕ)) → AreSound cs → AreTracksOf 0 (map events_of cs)
are_tracks law cs h = each_track law 0 cs (each_sound cs h)

content_at : (xs : List (Bor (List ℕ))) (i : ℕ) (x : Bor (List ℕ)) → i < length xs → x ≡ get_or xs i x → get_or (map content_of xs) i [] ≡ x.now
content_at [] i x lt is = absurd (omega (arith, lt))
content_at (y ∷ xs) zero x lt is = ap (λ (z : Bor (List ℕ)). z.now) (sym is)
content_at (y ∷ xs) (suc i) x lt is = content_at xs i x (omega (arith, lt)) is

pub sound_at : (xs : List (Bor (List ℕ))) (i : ℕ) (x : Bor (List ℕ)) → AreSound (map content_of xs) → i < length xs → x ≡ get_or xs i x → (track_in x.now).fault ≡ None
sound_at xs i x h lt is =
    subst (λ l. (track_in l).fault ≡ None) (content_at xs i x lt is) (h i (omega (arith, lt, length-map xs content_of))).0

pub one_by_one_length : (track : ℕ) (cs : List (List ℕ)) → length (one_by_one track (map events_of cs)) ≡ together (map events_of cs)
one_by_one_length track [] = refl
one_by_one_length track (c ∷ cs) =
    length-append (map (placed track) (events_of c)) (one_by_one (suc track) (map events_of cs))
    ∙ rw (length-map (events_of c) (placed track), one_by_one_length (suc track) cs) refl

pub tracks_count_is : (xs : List (Bor (List ℕ))) → length (map events_of (map content_of xs)) ≡ length xs
tracks_count_is xs = length-map (map content_of xs) events_of ∙ length-map xs content_of

-- each of some tracks is one, with its number
place_from : (n i : ℕ) (ts : List (List Timed)) → AreTracksOf n ts → i < length ts → IsTrackOf (n + i) (map (placed (n + i)) (get_or ts i []))
place_from n i [] h lt = absurd (omega (arith, lt))
place_from n zero (es ∷ ts) h lt = let e : n ≡ n + 0 = omega arith in subst (λ m. IsTrackOf m (map (placed m) es)) e h.0
place_from n (suc i) (es ∷ ts) h lt =
    let e : suc n + i ≡ n + suc i = omega arith in
    subst (λ m. IsTrackOf m (map (placed m) (get_or ts i []))) e (place_from (suc n) i ts h.1 (omega (arith, lt)))

pub track_in_place : (t : ℕ) (ts : List (List Timed)) → AreTracksOf 0 ts → t < length ts → IsTrackOf t (map (placed t) (get_or ts t []))
track_in_place t ts h lt = let e : 0 + t ≡ t = omega arith in subst (λ m. IsTrackOf m (map (placed m) (get_or ts t []))) e (place_from 0 t ts h lt)
