-- What is read as a track is spelled as one.
use Rattle.std.proofs.Common.{◌≡◌, ℕ, zero, suc, List, [], ◌∷◌, Result, Ok, Err, None, Bool, true, false, cond, refl, inl, inr}
use Rattle.midi_model.specs.declared.fault.Stop.{Stop}
use Rattle.mt_base.specs.Midi.{Timed, is_end}
use Rattle.midi_model.specs.Reading.{event_at, IsRunning, Run, last, in_front, continued, track_from, rest_of_track, track_in}
use Rattle.midi_model.specs.Spelling.{IsTrack}
use Rattle.midi_model.proofs.Laws.{event_takes, TookEvent, none_runs}

abbrev Step : Type 0
Step = Timed × ℕ × List ℕ

-- the events of a track whose first is known
one_more : (running before : ℕ) (bytes : List ℕ) (x : Step) (run : Run) (b : Bool) → TookEvent running before bytes x → is_end x.0.what ≡ b
    → (run.fault ≡ None → IsTrack x.1 x.0.tick x.2 run.events) → (cond b (last x.0) (in_front x.0 run)).fault ≡ None → IsTrack running before bytes (cond b (last x.0) (in_front x.0 run)).events
one_more running before bytes x run true t h rest none = (t.front, x.2, x.1, t.is_event, t.parts, inl (h, refl))
one_more running before bytes x run false t h rest none = (t.front, x.2, x.1, t.is_event, t.parts, inr (h, rest none))

step : (running before : ℕ) (bytes : List ℕ) (next : ℕ → ℕ → List ℕ → Run) (r : Result Step Stop) → IsRunning running → event_at running before bytes ≡ r
    → ((x : Step) → IsRunning x.1 → (next x.1 x.0.tick x.2).fault ≡ None → IsTrack x.1 x.0.tick x.2 (next x.1 x.0.tick x.2).events)
    → (continued next r).fault ≡ None → IsTrack running before bytes (continued next r).events
step running before bytes next (Err e) runs is rest none = absurd cc
step running before bytes next (Ok x) runs is rest none =
    let t = event_takes running before bytes x runs is in
    one_more running before bytes x (next x.1 x.0.tick x.2) (is_end x.0.what) t refl (rest x t.runs) none

from_takes : (turns running before : ℕ) (bytes : List ℕ) → IsRunning running → (track_from turns running before bytes).fault ≡ None → IsTrack running before bytes (track_from turns running before bytes).events
unfolding track_from
from_takes zero running before bytes runs none = absurd cc
from_takes (suc turns) running before [] runs none = absurd cc
from_takes (suc turns) running before (b ∷ bytes) runs none =
    step running before (b ∷ bytes) (track_from turns) (event_at running before (b ∷ bytes)) runs refl (λ x r n. from_takes turns x.1 x.0.tick x.2 r n) none

pub track_takes : (bytes : List ℕ) → (track_in bytes).fault ≡ None → IsTrack 0 0 bytes (track_in bytes).events
unfolding rest_of_track
track_takes bytes none = from_takes _ 0 0 bytes none_runs none
