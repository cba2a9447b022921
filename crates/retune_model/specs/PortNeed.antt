-- The pairs of one port of a source, what the port needs, and assignments of channels to its notes (this project's own).
--
-- `part` says of which channels the notes are: of all retuned parts, or, where a zone is planned, of one.
use Rattle.std.specs.Prelude.{◌≡◌, ℕ, zero, suc, Bool, true, List, length, nat_lt, if◌then◌else◌}
use Rattle.mt_base.specs.Midi.{MidiEvent}
use Rattle.retune_model.specs.Options.{Options}
use Rattle.retune_model.specs.Ports.{of_port, port_at}
use Rattle.retune_model.specs.Faults.{Targets, is_part}
use Rattle.retune_model.specs.Pairs.{Pair, is_same_pair}
use Rattle.retune_model.specs.Rests.{notes_at, pairs_at, held_at, holds_at, pair_at, began_at}
use Rattle.retune_model.specs.Need.{IsNeed, IsValid, channels_used}
use Rattle.retune_model.specs.Runs.{TakesFree, place_of_note}

-- the pairs that hold on port z at a position of the file
abbrev pub pairs_on : Options → (ℕ → Bool) → Targets → List MidiEvent → ℕ → ℕ → List Pair
pairs_on o part table es z k = pairs_at o part table (port_at es z) k

-- the pairs whose runs hold their channels at event k of the file
abbrev pub held_on : Options → (ℕ → Bool) → Targets → List MidiEvent → ℕ → ℕ → List Pair
held_on o part table es z k = held_at o part table (port_at es z) k

-- What a port needs, and the instant: the greatest number of its pairs at a position of the file, and the first position that has it.
abbrev pub IsNeedOf : Options → (ℕ → Bool) → Targets → List MidiEvent → ℕ → ℕ → ℕ → Type 0
IsNeedOf o part table es z n instant = IsNeed (pairs_on o part table es z) (length es) n instant

-- the greatest number of pairs at a position up to the last, and the least position that has it
abbrev pub greater : ℕ × ℕ → ℕ → ℕ → ℕ × ℕ
greater best n k = if nat_lt best.0 n then (n, k) else best

abbrev pub most : (ℕ → List Pair) → ℕ → ℕ × ℕ
most at zero = (length (at 0), 0)
most at (suc k) = greater (most at k) (length (at (suc k))) (suc k)

abbrev pub need_of : Options → (ℕ → Bool) → Targets → List MidiEvent → ℕ → ℕ × ℕ
need_of o part table es z = most (pairs_on o part table es z) (length es)

-- how many notes there are on a port
abbrev pub notes_on : (ℕ → Bool) → List MidiEvent → ℕ → ℕ
notes_on part es z = length (notes_at part (of_port z es) (length es))

-- An assignment gives the i-th note a channel on its port. It is valid where, at every position, notes that hold on one channel have
-- one pair; its size is its number of channels.
abbrev pub IsValidOn : Options → (ℕ → Bool) → Targets → List MidiEvent → ℕ → (ℕ → ℕ) → Type 0
IsValidOn o part table es z channel =
    IsValid (holds_at part o.tail (port_at es z)) (pair_at o part table (port_at es z) (length es)) (notes_on part es z) (length es) channel

abbrev pub size_on : (ℕ → Bool) → List MidiEvent → ℕ → (ℕ → ℕ) → ℕ
size_on part es z channel = channels_used channel (notes_on part es z)

-- `row b` is the place of the run that begins at position b; each run takes one of the first n places, any that is free
abbrev pub TakesFreeOn : Options → (ℕ → Bool) → Targets → List MidiEvent → ℕ → ℕ → (ℕ → ℕ) → Type 0
TakesFreeOn o part table es z n row = TakesFree is_same_pair (pairs_on o part table es z) (length es) n row

-- the place of the run of the i-th note
abbrev pub place_on : Options → (ℕ → Bool) → Targets → List MidiEvent → ℕ → (ℕ → ℕ) → ℕ → ℕ
place_on o part table es z row i =
    place_of_note is_same_pair (pairs_on o part table es z) row (pair_at o part table (port_at es z) (length es)) (began_at part (of_port z es) (length es)) i

-- these channels are of retuned parts
abbrev pub AreParts : Options → (ℕ → Bool) → Type 0
AreParts o part = (c : ℕ) → part c ≡ true → is_part o c ≡ true
