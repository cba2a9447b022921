-- The tracks of a file, side by side: a cursor for each, and the key of its next event.
use Rattle.std.specs.Prelude.{◌≡◌, ◌<◌, ◌≤◌, ◌^◌, ℕ, suc, List, [], ◌∷◌, map, get_or, take, length, All, Contains}
use Rattle.std.specs.List.{AllByRecursion}
use Rattle.mt_base.specs.Midi.{Timed, MidiEvent}
use Rattle.midi_model.specs.Merged.{InOrder, merged_tracks, timed}
use Rattle.smf_read.specs.declared.cursor.Cursor.{Cursor}
use Rattle.smf_read.specs.Remaining.{remaining, all_of}
use Rattle.event_stream.specs.Keys.{keys_of}

-- a part of a track, with its number
pub record IsPart (track : ℕ) (es : List MidiEvent) : Type 0 where
  pub in_time : AllByRecursion (λ e. e.tick < 2 ^ 28) es
  pub in_order : InOrder es
  pub in_track : AllByRecursion (λ e. e.track ≡ track) es

-- of tracks, the first of which has a number
abbrev pub AreParts : ℕ → List (List MidiEvent) → Type 0
AreParts track [] = Unit {0}
AreParts track (es ∷ parts) = IsPart track es × AreParts (suc track) parts

-- what is left of one track
abbrev pub left_at : ℕ → List Cursor → List MidiEvent
left_at track cursors = get_or (map remaining cursors) track []

abbrev pub untracked : List (List MidiEvent) → List (List Timed)
untracked parts = map (map timed) parts

-- what is left of each track, and the whole tracks
abbrev pub parts_left : ℕ → List Cursor → List (List MidiEvent)
parts_left tracks cursors = take tracks (map remaining cursors)

abbrev pub whole_parts : ℕ → List Cursor → List (List MidiEvent)
whole_parts tracks cursors = take tracks (map all_of cursors)

-- the same, merged
abbrev pub merged_left : ℕ → List Cursor → List MidiEvent
merged_left tracks cursors = merged_tracks (untracked (parts_left tracks cursors))

abbrev pub merged_whole : ℕ → List Cursor → List MidiEvent
merged_whole tracks cursors = merged_tracks (untracked (whole_parts tracks cursors))

-- the cursors and the keys of a merge, and the least key
pub record IsMerge (tracks : ℕ) (cursors : List Cursor) (numbers : List ℕ) (first : ℕ) : Type 0 where
  pub some : 0 < tracks
  pub few : tracks ≤ 1024
  pub size : length cursors ≡ 1024
  pub keys : numbers ≡ keys_of 0 (untracked (parts_left tracks cursors))
  pub least : All (λ (k : ℕ). first ≤ k) numbers
  pub among : Contains numbers first
  pub left : AreParts 0 (parts_left tracks cursors)
  pub whole : AreParts 0 (whole_parts tracks cursors)
