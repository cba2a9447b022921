-- What was checked of the bytes that are kept.
use Rattle.std.specs.Prelude.{◌≡◌, ℕ, ◌<◌, ◌≤◌, List, [], length, map, get_or, None}
use Rattle.midi_model.specs.declared.numbers.TheConstants.{MOST_BYTES, MOST_EVENTS, MOST_TRACKS}
use Rattle.midi_model.specs.FileText.{events_of, together}
use Rattle.midi_model.specs.Reading.{rest_of_track, track_in}

-- Either nothing is left of a track, or what is left has no fault.
abbrev pub IsSound : ℕ → ℕ → List ℕ → Type 0
IsSound running before bytes = 0 < length bytes → (rest_of_track running before bytes).fault ≡ None

-- contents of track chunks of a file of at most 4,194,304 bytes, without a fault
abbrev pub AreSound : List (List ℕ) → Type 0
AreSound cs = (i : ℕ) → i < length cs → ((track_in (get_or cs i [])).fault ≡ None) × (length (get_or cs i []) ≤ MOST_BYTES)

-- how many events tracks of these contents have together
abbrev pub count_events : List (List ℕ) → ℕ
count_events contents = together (map events_of contents)

-- What is kept of a file that was read: contents of 1 to 1,024 track chunks, without a fault, with at most 2,097,152 events together.
pub record AreChecked (contents : List (List ℕ)) : Type 0 where
  pub some : 0 < length contents
  pub few : length contents ≤ MOST_TRACKS
  pub in_all : count_events contents ≤ MOST_EVENTS
  pub sound : AreSound contents
