-- Laws of the merged order, in words: it is in the order of tick and track, it has each event of each track, and the events of
-- a track keep their order.
use Rattle.std.specs.Prelude.{◌≡◌, ℕ, List, [], ◌∷◌, ◌++◌, length, map, get_or, true, false, IsPermutation}
use Rattle.std.specs.List.{AllByRecursion}
use Rattle.mt_base.specs.declared.event.Msg.TheVariants.{Program}
use Rattle.mt_base.specs.Midi.{Timed, MidiEvent, Says, end_of_track, placed}
use Rattle.midi_model.specs.FileText.{MidiFile}
use Rattle.midi_model.specs.Merged.{precedes, sorted, one_by_one, merged, InOrder, of_track, AreTracksOf, IsPlayable}

-- the merged list is in order
abbrev pub MergedIsInOrder : Type 0
MergedIsInOrder = (file : MidiFile) → InOrder (merged file)

-- it has each event of each track as often as the tracks have it
abbrev pub MergedHasAll : Type 0
MergedHasAll = (file : MidiFile) → IsPermutation (one_by_one 0 file.tracks) (merged file)

-- so it has as many events as they
abbrev pub MergedCounts : Type 0
MergedCounts = (file : MidiFile) → length (merged file) ≡ length (one_by_one 0 file.tracks)

-- the events of a track that is in order keep their order
abbrev pub TracksAreKept : Type 0
TracksAreKept = (t : ℕ) (file : MidiFile) → InOrder (map (placed t) (get_or file.tracks t []))
    → of_track t (merged file) ≡ map (placed t) (get_or file.tracks t [])

-- An event is taken first where none of those before it may stand before it, and it may stand before all others.
abbrev pub FirstIsTaken : Type 0
FirstIsTaken = (xs : List MidiEvent) (e : MidiEvent) (ys : List MidiEvent) → AllByRecursion (λ x. precedes x e ≡ false) xs
    → AllByRecursion (λ y. precedes e y ≡ true) ys → sorted (xs ++ e ∷ ys) ≡ e ∷ sorted (xs ++ ys)

-- tracks that can be played are playable when they are merged
abbrev pub MergedIsPlayable : Type 0
MergedIsPlayable = (file : MidiFile) → AreTracksOf 0 file.tracks → IsPlayable (length file.tracks) (merged file)

-- a program change at a tick
abbrev pub change : ℕ → ℕ → ℕ → Timed
change tick channel program = record { tick = tick; what = Says (Program channel program) }

-- the end of a track at a tick
abbrev pub end_at : ℕ → Timed
end_at tick = record { tick = tick; what = end_of_track }

-- two tracks with events at equal ticks
abbrev pub two_tracks : MidiFile
two_tracks = record {
  format = 1;
  division = 96;
  tracks = (change 0 0 1 ∷ change 5 0 2 ∷ end_at 5 ∷ []) ∷ (change 0 1 3 ∷ change 0 1 4 ∷ end_at 5 ∷ []) ∷ [];
}

-- merged: at one tick the first track's events come before the second's
abbrev pub TwoTracksAreMerged : Type 0
TwoTracksAreMerged = merged two_tracks
    ≡ placed 0 (change 0 0 1) ∷ placed 1 (change 0 1 3) ∷ placed 1 (change 0 1 4) ∷ placed 0 (change 5 0 2) ∷ placed 0 (end_at 5) ∷ placed 1 (end_at 5) ∷ []
