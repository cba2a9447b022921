-- A list of events, dealt out to its tracks.
use Rattle.std.specs.Prelude.{◌≡◌, ◌<◌, ◌≤◌, ◌+◌, ℕ, zero, suc, List, [], ◌∷◌, map, length, get_or, set, false}
use Rattle.mt_base.specs.Midi.{Timed, MidiEvent}
use Rattle.mt_base.specs.Valid.{IsValidEvent}
use Rattle.midi_model.specs.Merged.{of_track, timed}
use Rattle.midi_model.specs.Writing.{Written, written, with_event}

-- the events of one track, in the order of the list
abbrev pub events_in : ℕ → List MidiEvent → List Timed
events_in track es = map timed (of_track track es)

-- so many tracks, the first of which has a number
abbrev pub distributed_from : ℕ → ℕ → List MidiEvent → List (List Timed)
distributed_from track zero es = []
distributed_from track (suc n) es = events_in track es ∷ distributed_from (suc track) n es

-- For each of so many tracks its events.
abbrev pub distributed : ℕ → List MidiEvent → List (List Timed)
distributed tracks es = distributed_from 0 tracks es

-- the text of a track
abbrev pub text_at : List Written → ℕ → Written
text_at texts track = get_or texts track (written [])

-- such texts, with an event more in its track
abbrev pub put_into : List Written → MidiEvent → List Written
put_into texts e = set texts e.track (with_event (text_at texts e.track) (timed e))

-- texts that stand for a list of events: each is what is written of its track's
abbrev pub StandFor : List Written → ℕ → List MidiEvent → Type 0
StandFor texts tracks es = texts ≡ map written (distributed tracks es)

-- An event that may be put into such tracks: it is valid, its track is there and not ended, and its tick isn't before the last.
pub record MayPut (texts : List Written) (e : MidiEvent) : Type 0 where
  pub valid : IsValidEvent e
  pub exists : e.track < length texts
  pub open_still : (text_at texts e.track).ended ≡ false
  pub in_order : (text_at texts e.track).tick ≤ e.tick

-- how many bytes such tracks have together
abbrev pub all_bytes : List Written → ℕ
all_bytes [] = 0
all_bytes (t ∷ ts) = length t.bytes + all_bytes ts
