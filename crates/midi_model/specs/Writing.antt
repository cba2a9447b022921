-- How a file is written (Standard MIDI File 1.0): each quantity in its shortest spelling, and running status in each place
-- where it may stand.
use Rattle.std.specs.Prelude.{◌≡◌, ◌<◌, ◌≤◌, ◌⊎◌, ℕ, ◌+◌, ◌-◌, ◌/◌, ◌%◌, ◌^◌, List, [], ◌∷◌, ◌++◌, length, map, All, Bool, true, false, nat_lt, ◌==◌, if◌then◌else◌}
use Rattle.std.specs.Int.{w16, w32, to_be_bytes}
use Rattle.midi_model.specs.declared.numbers.TheConstants.{MTHD, MTRK, MOST_TRACKS}
use Rattle.mt_base.specs.declared.event.Msg.{Msg}
use Rattle.mt_base.specs.declared.event.Msg.TheVariants.{NoteOff, NoteOn, KeyPressure, Control, Program, Pressure, Bend}
use Rattle.mt_base.specs.Midi.{MidiWhat, Says, SysexOf, MetaOf, Timed, is_end}
use Rattle.mt_base.specs.Valid.{IsValidWhat}
use Rattle.midi_model.specs.FileText.{MidiFile}

-- The shortest spelling of a variable-length quantity below 2 ^ 28.
unfoldable pub quantity_bytes : ℕ → List ℕ
quantity_bytes n =
    if nat_lt n 128 then n ∷ []
    else if nat_lt n 16384 then (128 + n / 128) ∷ n % 128 ∷ []
    else if nat_lt n 2097152 then (128 + n / 16384) ∷ (128 + n / 128 % 128) ∷ n % 128 ∷ []
    else (128 + n / 2097152) ∷ (128 + n / 16384 % 128) ∷ (128 + n / 128 % 128) ∷ n % 128 ∷ []

-- the status byte of a message (MIDI 1.0 Detailed Specification)
abbrev pub status_of : Msg → ℕ
status_of (NoteOff c key velocity) = 128 + c
status_of (NoteOn c key velocity) = 144 + c
status_of (KeyPressure c key value) = 160 + c
status_of (Control c number value) = 176 + c
status_of (Program c program) = 192 + c
status_of (Pressure c value) = 208 + c
status_of (Bend c value) = 224 + c

-- its data bytes; of a bend the low seven bits come first
abbrev pub data_of : Msg → List ℕ
data_of (NoteOff c key velocity) = key ∷ velocity ∷ []
data_of (NoteOn c key velocity) = key ∷ velocity ∷ []
data_of (KeyPressure c key value) = key ∷ value ∷ []
data_of (Control c number value) = number ∷ value ∷ []
data_of (Program c program) = program ∷ []
data_of (Pressure c value) = value ∷ []
data_of (Bend c value) = value % 128 ∷ value / 128 ∷ []

-- The running status behind an event: 0 is none.
abbrev pub running_after : MidiWhat → ℕ
running_after (Says m) = status_of m
running_after (SysexOf lead content) = 0
running_after (MetaOf kind content) = 0

-- an event behind its delta, after a running status
abbrev pub body_bytes : ℕ → MidiWhat → List ℕ
body_bytes running (Says m) = (if running == status_of m then data_of m else status_of m ∷ data_of m)
body_bytes running (SysexOf lead content) = lead ∷ (quantity_bytes (length content) ++ content)
body_bytes running (MetaOf kind content) = 255 ∷ kind ∷ (quantity_bytes (length content) ++ content)

-- an event, where those before it end at a tick
abbrev pub event_bytes : ℕ → ℕ → Timed → List ℕ
event_bytes running before e = quantity_bytes (e.tick - before) ++ body_bytes running e.what

unfoldable pub events_bytes : ℕ → ℕ → List Timed → List ℕ
events_bytes running before [] = []
events_bytes running before (e ∷ es) = event_bytes running before e ++ events_bytes (running_after e.what) e.tick es

-- the content of a track chunk
abbrev pub track_bytes : List Timed → List ℕ
track_bytes es = events_bytes 0 0 es

-- the last tick, the last running status, and whether the last event ends the track
unfoldable pub last_tick : ℕ → List Timed → ℕ
last_tick before [] = before
last_tick before (e ∷ es) = last_tick e.tick es

unfoldable pub last_running : ℕ → List Timed → ℕ
last_running running [] = running
last_running running (e ∷ es) = last_running (running_after e.what) es

unfoldable pub is_ended : Bool → List Timed → Bool
is_ended ended [] = ended
is_ended ended (e ∷ es) = is_ended (is_end e.what) es

-- A track as far as it was written: its bytes, the tick of its last event, the running status behind it, and whether that
-- event is the end of the track.
pub record Written : Type 0 where
  pub bytes : List ℕ
  pub tick : ℕ
  pub running : ℕ
  pub ended : Bool

-- what stands for a list of events
abbrev pub written : List Timed → Written
written es = record { bytes = track_bytes es; tick = last_tick 0 es; running = last_running 0 es; ended = is_ended false es }

-- one event more
abbrev pub with_event : Written → Timed → Written
with_event w e = record { bytes = w.bytes ++ event_bytes w.running w.tick e; tick = e.tick; running = running_after e.what; ended = is_end e.what }

-- The most bytes that an event takes in a track: its delta and its own.
abbrev pub most_bytes : MidiWhat → ℕ
most_bytes (Says m) = 7
most_bytes (SysexOf lead content) = 9 + length content
most_bytes (MetaOf kind content) = 10 + length content

-- a track chunk of this content
abbrev pub chunk_bytes : List ℕ → List ℕ
chunk_bytes content = to_be_bytes w32 MTRK ++ (to_be_bytes w32 (length content) ++ content)

unfoldable pub chunks_bytes : List (List ℕ) → List ℕ
chunks_bytes [] = []
chunks_bytes (content ∷ contents) = chunk_bytes content ++ chunks_bytes contents

-- a header chunk of six bytes
abbrev pub header_bytes : ℕ → ℕ → ℕ → List ℕ
header_bytes format tracks division = to_be_bytes w32 MTHD ++ (to_be_bytes w32 6 ++ (to_be_bytes w16 format ++ (to_be_bytes w16 tracks ++ to_be_bytes w16 division)))

unfoldable pub file_bytes : MidiFile → List ℕ
file_bytes file = header_bytes file.format (length file.tracks) file.division ++ chunks_bytes (map track_bytes file.tracks)

-- The events of a track that can be written: valid, in the order of their ticks from a tick on, with one end of track, at the end.
abbrev pub IsWritable : ℕ → List Timed → Type 0
IsWritable before [] = ⊥
IsWritable before (e ∷ es) = (before ≤ e.tick) × (e.tick < 2 ^ 28) × IsValidWhat e.what × (((is_end e.what ≡ true) × (es ≡ [])) ⊎ ((is_end e.what ≡ false) × IsWritable e.tick es))

-- A file that can be written: the length of each track fits in its chunk.
pub record IsWritableFile (file : MidiFile) : Type 0 where
  pub tracks : All (IsWritable 0) file.tracks
  pub short : All (λ (es : List Timed). length (track_bytes es) < 2 ^ 32) file.tracks
  pub one_or_more : 0 < length file.tracks
  pub few : length file.tracks ≤ MOST_TRACKS
  pub format_0_or_1 : file.format ≤ 1
  pub one_in_0 : file.format ≡ 0 → length file.tracks ≡ 1
  pub division : file.division < 2 ^ 16
