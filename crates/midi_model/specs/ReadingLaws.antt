-- Laws of reading a file from left to right: each is a sentence about what stands at the front of the bytes, or about how many
-- events they have.
use Rattle.std.specs.Prelude.{◌≡◌, ◌<◌, ◌≤◌, ◌^◌, ℕ, ◌+◌, ◌*◌, List, length, map, Ok, Some, None, ◌==◌, if◌then◌else◌}
use Rattle.midi_model.specs.declared.numbers.TheConstants.{MTRK}
use Rattle.mt_base.specs.Midi.{Timed, placed}
use Rattle.midi_model.specs.Reading.{◌>>=◌, IsRunning, quantity_at, event_at, continued, rest_of_track, track_in}
use Rattle.midi_model.specs.FileText.{chunk_at, next_content, track_at, tracks_at, events_of, together}
use Rattle.midi_model.specs.Merged.{first_tick, IsTrackOf}

-- The next track's content is that of the chunk at the front, where its type is `MTrk`; otherwise it is the next one behind that chunk.
abbrev pub ContentByChunks : Type 0
ContentByChunks = (bytes : List ℕ) → next_content bytes ≡ (chunk_at bytes >>= λ c. if c.0.name == MTRK then Ok (c.0.content, c.1) else next_content c.1)

-- What is left of a track, where there is anything, is the event at the front and, unless that ends the track, what is left behind it.
abbrev pub TrackByEvents : Type 0
TrackByEvents = (running before : ℕ) (bytes : List ℕ) → IsRunning running → 0 < length bytes
    → rest_of_track running before bytes ≡ continued rest_of_track (event_at running before bytes)

-- an event takes at least two bytes: one of its delta, and one behind that
abbrev pub EventTakesTwoBytes : Type 0
EventTakesTwoBytes = (running before : ℕ) (bytes : List ℕ) (x : Timed × ℕ × List ℕ) → IsRunning running
    → event_at running before bytes ≡ Ok x → length x.2 + 2 ≤ length bytes

-- What is left of a track, where there is anything and nothing is wrong with it, begins with a delta, and the first event is
-- later by that than the one before.
abbrev pub FirstTickByDelta : Type 0
FirstTickByDelta = (track running before : ℕ) (bytes : List ℕ) → IsRunning running → 0 < length bytes → (rest_of_track running before bytes).fault ≡ None
    → (d : ℕ × List ℕ) × (quantity_at bytes ≡ Ok d) × (first_tick (map (placed track) (rest_of_track running before bytes).events) ≡ Some (before + d.0))

-- A content without a fault, of fewer than 2 ^ 28 bytes, has the events of a track: valid, in order, with one end of track, which comes last.
abbrev pub ContentIsATrack : Type 0
ContentIsATrack = (track : ℕ) (content : List ℕ) → length content < 2 ^ 28 → (track_in content).fault ≡ None → IsTrackOf track (map (placed track) (events_of content))

-- a content that is read as a track's has no fault, and with what is behind it it is no longer than the bytes that it is read from
abbrev pub TrackIsWhole : Type 0
TrackIsWhole = (bytes : List ℕ) (x : List ℕ × List ℕ) → track_at bytes ≡ Ok x → ((track_in x.0).fault ≡ None) × (length x.0 + length x.1 ≤ length bytes)

-- all tracks together have at most half as many events as the bytes that they are read from
abbrev pub EventsAreFew : Type 0
EventsAreFew = (count : ℕ) (bytes : List ℕ) (x : List (List ℕ) × List ℕ) → tracks_at count bytes ≡ Ok x → 2 * together (map events_of x.0) + length x.1 ≤ length bytes
