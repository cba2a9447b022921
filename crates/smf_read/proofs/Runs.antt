-- How reading a track goes on, by the laws that `reading_laws` states.
use Rattle.std.proofs.Common.{◌≡◌, ℕ, ◌<◌, ◌+◌, List, [], ◌∷◌, length, map, Ok, Err, Some, None, true, false, cond, refl, ap, sym, ◌∙◌, arith}
use Rattle.midi_model.specs.declared.fault.Stop.{Stop}
use Rattle.midi_model.specs.declared.fault.SmfKind.TheVariants.{MissingEnd}
use Rattle.mt_base.specs.Midi.{Timed, is_end, placed}
use Rattle.midi_model.specs.Merged.{first_tick}
use Rattle.midi_model.specs.Reading.{failed, last, in_front, continued, track_from, rest_of_track, event_at, quantity_at, quantity_from, IsRunning}
use Rattle.midi_model.specs.ReadingLaws.{TrackByEvents, EventTakesTwoBytes, FirstTickByDelta}
use Rattle.smf_read.proofs.Steps.{ok_is}

-- an event that was read
abbrev Step : Type 0
Step = Timed × ℕ × List ℕ

pub nothing_left : (running before : ℕ) → rest_of_track running before [] ≡ failed (record { left = 0; kind = MissingEnd })
unfolding rest_of_track track_from
nothing_left running before = refl

pub no_end : (running before : ℕ) (bytes : List ℕ) → length bytes ≡ 0 → (rest_of_track running before bytes).fault ≡ Some (record { left = 0; kind = MissingEnd })
no_end running before [] h = ap (λ r. r.fault) (nothing_left running before)
no_end running before (b ∷ bytes) h = absurd (omega (arith, h))

pub no_events : (running before : ℕ) (bytes : List ℕ) → length bytes ≡ 0 → (rest_of_track running before bytes).events ≡ []
no_events running before [] h = ap (λ r. r.events) (nothing_left running before)
no_events running before (b ∷ bytes) h = absurd (omega (arith, h))

-- where there is an event, bytes are left
pub shorter : EventTakesTwoBytes → (running before : ℕ) (bytes : List ℕ) (x : Step) → IsRunning running → event_at running before bytes ≡ Ok x → length x.2 < length bytes
shorter law running before bytes x run e = omega (arith, law running before bytes x run e)

some_event : EventTakesTwoBytes → (running before : ℕ) (bytes : List ℕ) (x : Step) → IsRunning running → event_at running before bytes ≡ Ok x → 0 < length bytes
some_event law running before bytes x run e = omega (arith, law running before bytes x run e)

pub ends : TrackByEvents → EventTakesTwoBytes → (running before : ℕ) (bytes : List ℕ) (x : Step) → IsRunning running → event_at running before bytes ≡ Ok x → is_end x.0.what ≡ true
    → rest_of_track running before bytes ≡ last x.0
ends law two running before bytes x run e h =
    law running before bytes run (some_event two running before bytes x run e)
    ∙ ap (continued rest_of_track) e
    ∙ ap (λ t. cond t (last x.0) (in_front x.0 (rest_of_track x.1 x.0.tick x.2))) h

pub goes_on : TrackByEvents → EventTakesTwoBytes → (running before : ℕ) (bytes : List ℕ) (x : Step) → IsRunning running → event_at running before bytes ≡ Ok x → is_end x.0.what ≡ false
    → rest_of_track running before bytes ≡ in_front x.0 (rest_of_track x.1 x.0.tick x.2)
goes_on law two running before bytes x run e h =
    law running before bytes run (some_event two running before bytes x run e)
    ∙ ap (continued rest_of_track) e
    ∙ ap (λ t. cond t (last x.0) (in_front x.0 (rest_of_track x.1 x.0.tick x.2))) h

pub fails : TrackByEvents → (running before : ℕ) (bytes : List ℕ) (e : Stop) → IsRunning running → 0 < length bytes → event_at running before bytes ≡ Err e → rest_of_track running before bytes ≡ failed e
fails law running before bytes e run some h = law running before bytes run some ∙ ap (continued rest_of_track) h

-- ---- the tick of the first event

pub first_tick_is : FirstTickByDelta → (track running before : ℕ) (bytes : List ℕ) (d : ℕ × List ℕ) → IsRunning running → 0 < length bytes → (rest_of_track running before bytes).fault ≡ None
    → quantity_at bytes ≡ Ok d → first_tick (map (placed track) (rest_of_track running before bytes).events) ≡ Some (before + d.0)
first_tick_is law track running before bytes d run some sound q =
    let f = law track running before bytes run some sound in
    f.2 ∙ ap (λ (x : ℕ × List ℕ). Some (before + x.0)) (ok_is f.0 d (sym f.1 ∙ q))

-- where nothing is wrong, there is a delta
pub has_delta : FirstTickByDelta → (running before : ℕ) (bytes : List ℕ) (e : Stop) → IsRunning running → 0 < length bytes → (rest_of_track running before bytes).fault ≡ None → quantity_at bytes ≡ Err e → ⊥
has_delta law running before bytes e run some sound q = let f = law 0 running before bytes run some sound in let g = f.1 in cc

-- where there is a delta, bytes are left
pub some_left : (bytes : List ℕ) (d : ℕ × List ℕ) → quantity_at bytes ≡ Ok d → 0 < length bytes
unfolding quantity_at quantity_from
some_left [] d q = absurd cc
some_left (b ∷ bytes) d q = omega arith
