-- What has to be kept of notes that rest: for each pair, the tick at which a note of it ended last (this project's own).
use Rattle.std.specs.Prelude.{ℕ, List, [], ◌∷◌, Bool, false, ◌&&◌, ◌||◌, not, if◌then◌else◌, Option, Some, None, max, drop}
use Rattle.midi_model.specs.Notes.{Note, sounds}
use Rattle.retune_model.specs.Options.{Options}
use Rattle.retune_model.specs.Faults.{Targets}
use Rattle.retune_model.specs.Ports.{PortEvents}
use Rattle.retune_model.specs.Pairs.{Pair, is_same_pair}
use Rattle.retune_model.specs.Rests.{notes_at, past_at, pair_of}

-- the later of two ends
abbrev pub later_end : Option ℕ → Option ℕ → Option ℕ
later_end None e = e
later_end (Some a) None = Some a
later_end (Some a) (Some b) = Some (max a b)

-- the latest end of the notes of a pair; z is their port
abbrev pub latest_end : ℕ → Options → Targets → Pair → List Note → Option ℕ
latest_end z o table p [] = None
latest_end z o table p (n ∷ ns) = if is_same_pair (pair_of z o table n) p then later_end n.ended (latest_end z o table p ns) else latest_end z o table p ns

-- of those that began after the last reset
abbrev pub last_end : Options → (ℕ → Bool) → Targets → PortEvents → ℕ → Pair → Option ℕ
last_end o part table port k p = latest_end port.number o table p (drop (past_at part port.events k) (notes_at part port.events k))

-- whether a note of a pair has ended between two moments
abbrev pub has_ended : ℕ → Options → Targets → Pair → List Note → List Note → Bool
has_ended z o table p [] xs = false
has_ended z o table p (n ∷ ns) [] = false
has_ended z o table p (n ∷ ns) (x ∷ xs) = (is_same_pair (pair_of z o table n) p && (sounds n && not (sounds x))) || has_ended z o table p ns xs
