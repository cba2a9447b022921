-- Laws of putting: what tracks stand for when events are put into them, and how distribution and merging undo each other.
use Rattle.std.specs.Prelude.{◌≡◌, ◌<◌, ℕ, List, [], ◌∷◌, ◌++◌, length, map}
use Rattle.std.specs.List.{AllByRecursion}
use Rattle.mt_base.specs.Midi.{Timed, MidiEvent}
use Rattle.midi_model.specs.Merged.{merged_tracks, InOrder, IsPlayable}
use Rattle.midi_model.specs.Writing.{written}
use Rattle.event_stream.specs.Distributed.{distributed, put_into, MayPut}
use Rattle.event_stream.specs.Keys.{AreInOrder}

-- a list in order that was dealt out to its tracks and merged is the list again
abbrev pub DealtIsMerged : Type 0
DealtIsMerged = (tracks : ℕ) (es : List MidiEvent) → InOrder es → AllByRecursion (λ e. e.track < tracks) es → merged_tracks (distributed tracks es) ≡ es

-- the same of a playable list
abbrev pub PlayableIsMerged : Type 0
PlayableIsMerged = (tracks : ℕ) (es : List MidiEvent) → IsPlayable tracks es → merged_tracks (distributed tracks es) ≡ es

-- tracks in order that were merged and dealt out are the tracks again
abbrev pub MergedIsDealt : Type 0
MergedIsDealt = (ts : List (List Timed)) → AreInOrder 0 ts → distributed (length ts) (merged_tracks ts) ≡ ts

-- each event of a playable list may be put into the tracks that stand for those before it
abbrev pub PlayableIsPut : Type 0
PlayableIsPut = (tracks : ℕ) (es : List MidiEvent) (e : MidiEvent) (more : List MidiEvent) → IsPlayable tracks (es ++ e ∷ more) → MayPut (map written (distributed tracks es)) e

-- tracks that stand for a list, with an event more in its track, stand for the list with that event at its end
abbrev pub EventIsDealt : Type 0
EventIsDealt = (tracks : ℕ) (es : List MidiEvent) (e : MidiEvent) → e.track < tracks
    → put_into (map written (distributed tracks es)) e ≡ map written (distributed tracks (es ++ e ∷ []))
