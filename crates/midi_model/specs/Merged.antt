-- All events of a file in one list (Standard MIDI File 1.0: the tracks of a file of format 1 are played together).
use Rattle.std.specs.Prelude.{◌≡◌, ℕ, suc, ◌<◌, List, [], ◌∷◌, ◌++◌, map, filter, Option, Some, None, Bool, true, false, nat_le, nat_lt, ◌==◌, if◌then◌else◌}
use Rattle.std.specs.List.{AllByRecursion}
use Rattle.mt_base.specs.Midi.{Timed, MidiEvent, placed, is_end}
use Rattle.mt_base.specs.Valid.{IsValidEvent}
use Rattle.midi_model.specs.FileText.{MidiFile}

-- Whether an event may stand before another: its tick is earlier, or it is the same and its track isn't later.
abbrev pub precedes : MidiEvent → MidiEvent → Bool
precedes e f = if e.tick == f.tick then nat_le e.track f.track else nat_lt e.tick f.tick

-- the event, before the first that it may stand before
abbrev pub put_in : MidiEvent → List MidiEvent → List MidiEvent
put_in e [] = e ∷ []
put_in e (f ∷ fs) = if precedes e f then e ∷ f ∷ fs else f ∷ put_in e fs

-- sorted by tick, then track; events that are equal in both keep their order
abbrev pub sorted : List MidiEvent → List MidiEvent
sorted [] = []
sorted (e ∷ es) = put_in e (sorted es)

-- the events of one track after the other, the first of which has a number
abbrev pub one_by_one : ℕ → List (List Timed) → List MidiEvent
one_by_one track [] = []
one_by_one track (es ∷ ts) = map (placed track) es ++ one_by_one (suc track) ts

-- The merged order: all events of all tracks, sorted by tick, then track, then place in the track.
abbrev pub merged_tracks : List (List Timed) → List MidiEvent
merged_tracks ts = sorted (one_by_one 0 ts)

abbrev pub merged : MidiFile → List MidiEvent
merged file = merged_tracks file.tracks

abbrev pub first_tick : List MidiEvent → Option ℕ
first_tick [] = None
first_tick (e ∷ es) = Some e.tick

-- ---- what a list of events has to be so that it can be played, and written, as a file

-- each event may stand before all that follow it
abbrev pub InOrder : List MidiEvent → Type 0
InOrder [] = Unit {0}
InOrder (e ∷ es) = AllByRecursion (λ f. precedes e f ≡ true) es × InOrder es

-- exactly one end of track, and it comes last
abbrev pub EndsOnce : List MidiEvent → Type 0
EndsOnce [] = ⊥
EndsOnce (e ∷ []) = is_end e.what ≡ true
EndsOnce (e ∷ f ∷ es) = (is_end e.what ≡ false) × EndsOnce (f ∷ es)

-- an event without its track
abbrev pub timed : MidiEvent → Timed
timed e = record { tick = e.tick; what = e.what }

-- the events of one track
abbrev pub of_track : ℕ → List MidiEvent → List MidiEvent
of_track track es = filter (λ e. e.track == track) es

-- The events of one track, with its number.
pub record IsTrackOf (track : ℕ) (es : List MidiEvent) : Type 0 where
  pub valid : AllByRecursion (λ e. IsValidEvent e) es
  pub in_order : InOrder es
  pub in_track : AllByRecursion (λ e. e.track ≡ track) es
  pub ended : EndsOnce es

-- tracks, the first of which has a number
abbrev pub AreTracksOf : ℕ → List (List Timed) → Type 0
AreTracksOf track [] = Unit {0}
AreTracksOf track (es ∷ ts) = IsTrackOf track (map (placed track) es) × AreTracksOf (suc track) ts

-- A list of events that is playable for so many tracks.
pub record IsPlayable (tracks : ℕ) (es : List MidiEvent) : Type 0 where
  pub valid : AllByRecursion (λ e. IsValidEvent e) es
  pub in_order : InOrder es
  pub in_tracks : AllByRecursion (λ e. e.track < tracks) es
  pub ended : (t : ℕ) → t < tracks → EndsOnce (of_track t es)
