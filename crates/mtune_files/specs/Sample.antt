-- A large valid file from a number (this project's own): chords, of which one begins every 240 ticks and sounds for 480.
use Rattle.std.specs.Prelude.{ℕ, ◌+◌, ◌-◌, ◌*◌, ◌%◌, List, [], ◌∷◌, ◌++◌, map, nat_le, nat_lt, if◌then◌else◌}
use Rattle.std.specs.List.{flat_map, range_with_len}
use Rattle.mt_base.specs.declared.event.Msg.{Msg}
use Rattle.mt_base.specs.declared.event.Msg.TheVariants.{NoteOn, NoteOff, Control, Program}
use Rattle.mt_base.specs.Midi.{Says, Timed, end_of_track}
use Rattle.midi_model.specs.FileText.{MidiFile}
use Rattle.midi_model.specs.Writing.{file_bytes}

-- ---- a chord, by its number from 0 on

-- its channel, 0 to 7
abbrev pub chord_channel : ℕ → ℕ
chord_channel i = i % 8

-- its keys: a triad on one of 24 keys
abbrev pub chord_keys : ℕ → List ℕ
chord_keys i = let k = 48 + (7 * i) % 24 in k ∷ (k + 4) ∷ (k + 7) ∷ []

-- It begins: its channel's program and volume (controller 7), and the note ons of its keys.
abbrev pub chord_start : ℕ → List Msg
chord_start i =
    let c = chord_channel i in
    Program c (i % 128) ∷ Control c 7 (40 + i % 80) ∷ map (λ k. NoteOn c k 64) (chord_keys i)

-- It ends: the note offs of its keys.
abbrev pub chord_end : ℕ → List Msg
chord_end i = map (λ k. NoteOff (chord_channel i) k 64) (chord_keys i)

-- ---- a sample of n chords

-- What is said at tick 240 * i: the chord before the last one ends, and the next begins, where there are such.
abbrev pub said_at : ℕ → ℕ → List Msg
said_at n i = (if nat_le 2 i then chord_end (i - 2) else []) ++ (if nat_lt i n then chord_start i else [])

-- a message at a tick
abbrev pub at_tick : ℕ → Msg → Timed
at_tick tick m = record { tick = tick; what = Says m }

abbrev pub events_at : ℕ → ℕ → List Timed
events_at n i = map (at_tick (240 * i)) (said_at n i)

-- all events, up to the end of the last chord, and there the end of the track
unfoldable pub sample_events : ℕ → List Timed
sample_events n = flat_map (events_at n) (range_with_len 0 (n + 2)) ++ record { tick = 240 * (n + 1); what = end_of_track } ∷ []

-- the file: format 0, 480 ticks a quarter note, one track
abbrev pub sample_file : ℕ → MidiFile
sample_file n = record { format = 0; division = 480; tracks = sample_events n ∷ [] }

-- its bytes, as files are written
abbrev pub sample_bytes : ℕ → List ℕ
sample_bytes n = file_bytes (sample_file n)
