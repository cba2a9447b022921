-- Laws of sizes: how many events a file has, and how many bytes they take when they are written again.
use Rattle.std.specs.Prelude.{◌≤◌, ℕ, ◌+◌, ◌*◌, List, [], ◌∷◌, length, get_or}
use Rattle.mt_base.specs.Midi.{Timed}
use Rattle.midi_model.specs.FileText.{MidiFile}
use Rattle.midi_model.specs.Merged.{merged}
use Rattle.midi_model.specs.Spelling.{Spells}
use Rattle.midi_model.specs.Writing.{track_bytes, most_bytes}

-- the most bytes that the events of a track take
abbrev pub most_of_track : List Timed → ℕ
most_of_track [] = 0
most_of_track (e ∷ es) = most_bytes e.what + most_of_track es

-- what is written of a track has no more bytes than its events take at most
abbrev pub WrittenIsWithinMost : Type 0
WrittenIsWithinMost = (es : List Timed) → length (track_bytes es) ≤ most_of_track es

-- the events of a track of a file take at most four times as many bytes as the file has
abbrev pub TrackIsWithinFile : Type 0
TrackIsWithinFile = (bytes : List ℕ) (file : MidiFile) → Spells bytes file → (t : ℕ) → most_of_track (get_or file.tracks t []) ≤ 4 * length bytes

-- a file has at most half as many events as bytes
abbrev pub EventsAreFew : Type 0
EventsAreFew = (bytes : List ℕ) (file : MidiFile) → Spells bytes file → 2 * length (merged file) ≤ length bytes
