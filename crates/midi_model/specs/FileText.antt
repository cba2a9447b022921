-- A whole file, read from left to right, with its first fault (Standard MIDI File 1.0; formats 0 and 1, at most 1,024 tracks).
use Rattle.std.specs.Prelude.{ℕ, zero, suc, ◌+◌, ◌-◌, List, [], ◌∷◌, length, take, drop, map, ◌&&◌, ◌||◌, not, Result, Ok, Err, Option, Some, None, nat_lt, ◌==◌, if◌then◌else◌}
use Rattle.std.specs.Int.{Width, w16, w32, byte_len, from_be_bytes}
use Rattle.midi_model.specs.declared.numbers.TheConstants.{MTHD, MTRK, MOST_TRACKS}
use Rattle.midi_model.specs.declared.fault.SmfKind.{SmfKind}
use Rattle.midi_model.specs.declared.fault.SmfKind.TheVariants.{NotMidi, BadHeader, Format2, FormatNumber, Truncated, MissingTrack, TooManyTracks}
use Rattle.midi_model.specs.declared.fault.Stop.{Stop}
use Rattle.mt_base.specs.Midi.{Timed}
use Rattle.midi_model.specs.Reading.{◌>>=◌, stop, track_in}

-- the big-endian number at the front, and what is behind it
abbrev pub number : Width → List ℕ → ℕ
number w bytes = from_be_bytes w (take (byte_len w) bytes)

-- a header: format, number of tracks, division
pub record Header : Type 0 where
  pub format : ℕ
  pub tracks : ℕ
  pub division : ℕ

-- the content of a header, behind whose length it stands
unfoldable pub fields_at : ℕ → List ℕ → Result (Header × List ℕ) Stop
fields_at size bytes =
    let format = number w16 bytes in
    let tracks = number w16 (drop 2 bytes) in
    if format == 2 then stop bytes Format2
    else if nat_lt 2 format then stop bytes FormatNumber
    else if tracks == 0 || (format == 0 && not (tracks == 1)) then stop (drop 2 bytes) BadHeader
    else if nat_lt MOST_TRACKS tracks then stop (drop 2 bytes) TooManyTracks
    else Ok (record { format = format; tracks = tracks; division = number w16 (drop 2 (drop 2 bytes)) }, drop size bytes)

-- `MThd`, a length of at least six, and the content
unfoldable pub header_at : List ℕ → Result (Header × List ℕ) Stop
header_at bytes =
    if nat_lt (length bytes) 4 then stop bytes NotMidi
    else if not (number w32 bytes == MTHD) then stop bytes NotMidi
    else if nat_lt (length bytes) 8 then stop [] Truncated
    else if nat_lt (number w32 (drop 4 bytes)) 6 then stop (drop 4 bytes) BadHeader
    else if nat_lt (length (drop 4 (drop 4 bytes))) (number w32 (drop 4 bytes)) then stop [] Truncated
    else fields_at (number w32 (drop 4 bytes)) (drop 4 (drop 4 bytes))

-- a chunk: its type and its content
pub record Chunk : Type 0 where
  pub name : ℕ
  pub content : List ℕ

unfoldable pub chunk_at : List ℕ → Result (Chunk × List ℕ) Stop
chunk_at bytes =
    if nat_lt (length bytes) 8 then stop bytes MissingTrack
    else (
    let size = number w32 (drop 4 bytes) in
    let rest = drop 4 (drop 4 bytes) in
    if nat_lt (length rest) size then stop [] Truncated
    else Ok (record { name = number w32 bytes; content = take size rest }, drop size rest))

-- The content of the next chunk whose type is `MTrk`; turns is more than how many bytes there are.
unfoldable pub content_from : ℕ → List ℕ → Result (List ℕ × List ℕ) Stop
content_from zero bytes = stop bytes MissingTrack
content_from (suc turns) bytes = do
  c ← chunk_at bytes
  if c.0.name == MTRK then Ok (c.0.content, c.1) else content_from turns c.1

unfoldable pub next_content : List ℕ → Result (List ℕ × List ℕ) Stop
next_content bytes = content_from (suc (length bytes)) bytes

-- the content, where it is a track's: a fault in it has what comes after the content left too
abbrev pub sound : List ℕ × List ℕ → Option Stop → Result (List ℕ × List ℕ) Stop
sound x None = Ok x
sound x (Some e) = Err (record { left = e.left + length x.1; kind = e.kind })

unfoldable pub track_at : List ℕ → Result (List ℕ × List ℕ) Stop
track_at bytes = do
  x ← next_content bytes
  sound x (track_in x.0).fault

-- so many tracks, by their contents
unfoldable pub tracks_at : ℕ → List ℕ → Result (List (List ℕ) × List ℕ) Stop
tracks_at zero bytes = Ok ([], bytes)
tracks_at (suc n) bytes = do
  first ← track_at bytes
  others ← tracks_at n first.1
  Ok (first.0 ∷ others.0, others.1)

-- a file: its format, its division and for each track its events
pub record MidiFile : Type 0 where
  pub format : ℕ
  pub division : ℕ
  pub tracks : List (List Timed)

abbrev pub events_of : List ℕ → List Timed
events_of content = (track_in content).events

-- how many events these tracks have together
abbrev pub together : List (List Timed) → ℕ
together [] = 0
together (es ∷ ts) = length es + together ts

abbrev pub made : ℕ → ℕ → List (List ℕ) → MidiFile
made format division contents = record { format = format; division = division; tracks = map events_of contents }

unfoldable pub all_at : List ℕ → Result MidiFile Stop
all_at bytes = do
  h ← header_at bytes
  ts ← tracks_at h.0.tracks h.1
  Ok (made h.0.format h.0.division ts.0)

-- with the fault's offset from the start of the bytes
abbrev pub from_start : ℕ → Result MidiFile Stop → Result MidiFile (ℕ × SmfKind)
from_start n (Ok f) = Ok f
from_start n (Err e) = Err (n - e.left, e.kind)

unfoldable pub file_at : List ℕ → Result MidiFile (ℕ × SmfKind)
file_at bytes = from_start (length bytes) (all_at bytes)
