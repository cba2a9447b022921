-- What the program's values mean in the text of a file.
use Rattle.std.specs.Prelude.{ℕ, ◌+◌, List, length, map}
use Rattle.std.specs.Borrow.{Bor}
use Rattle.mt_base.specs.Midi.{Timed, view_what}
use Rattle.midi_model.specs.FileText as text
use Rattle.smf_read.specs.declared.chunk.Header.{Header}
use Rattle.smf_read.specs.declared.chunk.Chunk.{Chunk}
use Rattle.smf_read.specs.declared.reading.Found.{Found}

abbrev pub view_header : Header → text.Header
view_header h = record { format = h.format; tracks = h.tracks; division = h.division }

abbrev pub view_chunk : Chunk → text.Chunk
view_chunk c = record { name = c.name; content = c.content.now }

-- a track's content, without where it lies in memory
abbrev pub content_of : Bor (List ℕ) → List ℕ
content_of bytes = bytes.now

abbrev pub contents_of : List (Bor (List ℕ)) → List (List ℕ)
contents_of contents = map content_of contents

-- an event that was read, as one of its track
abbrev pub timed : Found → Timed
timed f = record { tick = f.tick; what = view_what f.what }

-- how many bytes two parts have together
abbrev pub parts_len : List ℕ → List ℕ → ℕ
parts_len xs ys = length xs + length ys
