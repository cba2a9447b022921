-- The notes that sound, key by key, of the list of all notes that began, and which of them ended between two moments.
use Rattle.std.specs.Prelude.{ℕ, ℤ, suc, List, [], ◌∷◌, Bool, false, ◌&&◌, ◌||◌, not, if◌then◌else◌, Option, Some, None}
use Rattle.std.specs.Option.{option_map}
use Rattle.midi_model.specs.Notes.{Note, sounds, is_at}
use Rattle.midi_model.specs.Played.{played}
use Rattle.midi_model.specs.Receiver.{Receiver}

-- the note that sounds on a key, with its place in the order of all note ons, where the first of the list is the i-th
abbrev pub sounding_from : ℕ → List Note → ℕ → ℕ → Option (ℕ × Note)
sounding_from i [] c k = None
sounding_from i (n ∷ ns) c k = if is_at c k n && sounds n then Some (i, n) else sounding_from (suc i) ns c k

abbrev pub sounding_at : List Note → ℕ → ℕ → Option (ℕ × Note)
sounding_at ns c k = sounding_from 1 ns c k

-- Whether a note of a key ended between two moments: it sounded at the first, and doesn't at the second. A note has the same
-- place in both lists.
abbrev pub ended_on : ℕ → ℕ → List Note → List Note → Bool
ended_on c k [] later = false
ended_on c k (n ∷ ns) [] = false
ended_on c k (n ∷ ns) (x ∷ xs) = (is_at c k n && (sounds n && not (sounds x))) || ended_on c k ns xs

-- the pitch of the note that sounds on a key, in grains above key 0
abbrev pub played_at : Receiver → ℕ → ℕ → Option ℤ
played_at r c k = option_map (λ x. played r x.1) (sounding_at r.music.notes c k)
