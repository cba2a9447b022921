-- Laws of notes that sound or rest, and of their pairs.
use Rattle.std.specs.Prelude.{◌≡◌, ◌⊎◌, ◌&&◌, ◌||◌, ℕ, suc, Bool, true, false, List, [], length, get_or, filter, drop, nat_eq, if◌then◌else◌, Some, None}
use Rattle.std.specs.Bool.{Decides}
use Rattle.std.specs.Set.{is_member}
use Rattle.midi_model.specs.Notes.{Note}
use Rattle.retune_model.specs.Options.{Options, restless}
use Rattle.retune_model.specs.Ports.{PortEvents, AreTimed, is_reset_at, event_at, music_at}
use Rattle.retune_model.specs.Faults.{Targets, is_part}
use Rattle.retune_model.specs.Pairs.{Pair, is_same_pair, pairs_of, sounding}
use Rattle.retune_model.specs.Rests.{notes_at, nobody, past_at, is_within_tail, pairs_at, held_at, begun_at, holds_at, pair_of, pair_at, began_at, IsAimedPort, SoundsAt, SoundsOrRests, Keeps}
use Rattle.retune_model.specs.LastEnds.{last_end, has_ended}
use Rattle.retune_model.specs.Need.{ArePairs}
use Rattle.retune_model.specs.Runs.{OneBegins, HoldUnbroken}

-- ---- in the words of the rules

-- a note holds exactly where it sounds or rests
abbrev pub NotesHoldAsWritten : Type 0
NotesHoldAsWritten = (part : ℕ → Bool) (tail : ℕ) (port : PortEvents) → AreTimed port → (k i : ℕ) → Decides (holds_at part tail port k i) (SoundsOrRests part tail port k i)

-- a pair is held at an event exactly where one of its notes sounds before it, or rests before it and doesn't run out at it
abbrev pub KeepsPair : Options → (ℕ → Bool) → Targets → PortEvents → ℕ → Pair → Type 0
KeepsPair o part table port k p = (i : ℕ) × Keeps part o.tail port k i × (pair_of port.number o table (get_or (notes_at part port.events k) i nobody) ≡ p)

abbrev pub PairsAreHeldAsWritten : Type 0
PairsAreHeldAsWritten = (o : Options) (part : ℕ → Bool) (table : Targets) (port : PortEvents) → IsAimedPort o part table port →
    (k : ℕ) (p : Pair) → Decides (is_member is_same_pair (held_at o part table port (suc k)) p) (KeepsPair o part table port k p)

-- ---- what need and runs ask of pairs

-- at each position the pairs are those of the notes that hold, none twice
abbrev pub PairsAreOfNotes : Type 0
PairsAreOfNotes = (o : Options) (part : ℕ → Bool) (table : Targets) (port : PortEvents) (last : ℕ) → IsAimedPort o part table port →
    ArePairs is_same_pair (holds_at part o.tail port) (pair_at o part table port last) (length (notes_at part port.events last)) (pairs_at o part table port) last

-- at most one run begins at a position
abbrev pub OneRunBegins : Type 0
OneRunBegins = (o : Options) (part : ℕ → Bool) (table : Targets) (port : PortEvents) (last : ℕ) → IsAimedPort o part table port → OneBegins is_same_pair (pairs_at o part table port) last

-- a note holds without a gap from its note on
abbrev pub NotesHoldUnbroken : Type 0
NotesHoldUnbroken = (part : ℕ → Bool) (tail : ℕ) (port : PortEvents) (last : ℕ) → AreTimed port →
    HoldUnbroken (holds_at part tail port) (began_at part port.events last) (length (notes_at part port.events last)) last

-- ---- what is held at an event

-- it held before it
abbrev pub HeldWasThere : Type 0
HeldWasThere = (o : Options) (part : ℕ → Bool) (table : Targets) (port : PortEvents) → IsAimedPort o part table port → (k : ℕ) (p : Pair) →
    is_member is_same_pair (held_at o part table port (suc k)) p ≡ true → is_member is_same_pair (pairs_at o part table port k) p ≡ true

-- what sounds before an event is held at it
abbrev pub SoundingIsHeld : Type 0
SoundingIsHeld = (o : Options) (part : ℕ → Bool) (table : Targets) (port : PortEvents) → IsAimedPort o part table port → (k i : ℕ) → SoundsAt part port k i →
    is_member is_same_pair (held_at o part table port (suc k)) (pair_of port.number o table (get_or (notes_at part port.events k) i nobody)) ≡ true

-- after an event there are no other pairs than those that were held at it and the one that it begins
abbrev pub HeldOrBegun : Type 0
HeldOrBegun = (o : Options) (part : ℕ → Bool) (table : Targets) (port : PortEvents) → IsAimedPort o part table port → (k : ℕ) (p : Pair) →
    is_member is_same_pair (pairs_at o part table port (suc k)) p ≡ true →
    (is_member is_same_pair (held_at o part table port (suc k)) p ≡ true) ⊎ (is_member is_same_pair (begun_at o part table port (suc k)) p ≡ true)

-- and the pair that an event begins is there after it
abbrev pub BegunIsThere : Type 0
BegunIsThere = (o : Options) (part : ℕ → Bool) (table : Targets) (port : PortEvents) → IsAimedPort o part table port → (k : ℕ) (p : Pair) →
    is_member is_same_pair (begun_at o part table port (suc k)) p ≡ true → is_member is_same_pair (pairs_at o part table port (suc k)) p ≡ true

-- what is there at a position is held at the event that leads to it, or at the next
abbrev pub HeldNear : Type 0
HeldNear = (o : Options) (part : ℕ → Bool) (table : Targets) (port : PortEvents) → IsAimedPort o part table port → (k : ℕ) (p : Pair) →
    is_member is_same_pair (pairs_at o part table port (suc k)) p ≡ true →
    (is_member is_same_pair (held_at o part table port (suc k)) p ≡ true) ⊎ (is_member is_same_pair (held_at o part table port (suc (suc k))) p ≡ true)

-- ---- at events of other ports, and at resets

-- at an event of another port a pair's rest may run out, and nothing else changes
abbrev pub RestsRunOutElsewhere : Type 0
RestsRunOutElsewhere = (o : Options) (part : ℕ → Bool) (table : Targets) (port : PortEvents) → AreTimed port → (k : ℕ) → event_at port.events (suc k) ≡ [] →
    pairs_at o part table port (suc k) ≡ held_at o part table port (suc k)

-- after a reset of the port no pair is there
abbrev pub ResetsEndAll : Type 0
ResetsEndAll = (o : Options) (part : ℕ → Bool) (table : Targets) (port : PortEvents) (k : ℕ) → is_reset_at port.events (suc k) ≡ true → pairs_at o part table port (suc k) ≡ []

-- ---- where notes don't rest

-- the pairs are those of the notes that sound
abbrev pub OnlySoundingHold : Type 0
OnlySoundingHold = (o : Options) (table : Targets) (port : PortEvents) → AreTimed port → (k : ℕ) →
    pairs_at (restless o) (is_part o) table port k ≡ pairs_of port.number o table (sounding o (music_at port.events k))

-- held at an event are those that sound before it
abbrev pub HeldIsThere : Type 0
HeldIsThere = (o : Options) (part : ℕ → Bool) (table : Targets) (port : PortEvents) → AreTimed port → (k : ℕ) → held_at (restless o) part table port (suc k) ≡ pairs_at (restless o) part table port k

-- ---- what has to be kept

-- a pair holds exactly where a note of it sounds or its last end is less than a tail ago
abbrev pub LastEndsTell : Type 0
LastEndsTell = (o : Options) (part : ℕ → Bool) (table : Targets) (port : PortEvents) → IsAimedPort o part table port → (k : ℕ) (p : Pair) →
    is_member is_same_pair (pairs_at o part table port k) p
    ≡ (is_member is_same_pair (pairs_at (restless o) part table port k) p || is_within_tail o.tail (port.tick k) (last_end o part table port k p))

-- a reset forgets all last ends
abbrev pub ResetsForgetEnds : Type 0
ResetsForgetEnds = (o : Options) (part : ℕ → Bool) (table : Targets) (port : PortEvents) (k : ℕ) (p : Pair) → is_reset_at port.events (suc k) ≡ true → last_end o part table port (suc k) p ≡ None

-- the notes since the last reset before event k + 1, as they are at a position
abbrev pub since_reset : (ℕ → Bool) → PortEvents → ℕ → ℕ → List Note
since_reset part port k j = drop (past_at part port.events k) (notes_at part port.events j)

-- another event sets those of the pairs of which it ends a note, and no other
abbrev pub EndsAreKept : Type 0
EndsAreKept = (o : Options) (part : ℕ → Bool) (table : Targets) (port : PortEvents) → AreTimed port → (k : ℕ) (p : Pair) → is_reset_at port.events (suc k) ≡ false →
    last_end o part table port (suc k) p
    ≡ (if has_ended port.number o table p (since_reset part port k k) (since_reset part port k (suc k)) then Some (port.tick (suc k)) else last_end o part table port k p)

-- ---- one part

-- the pairs of one part are those of its notes alone
abbrev pub PartsApart : Type 0
PartsApart = (o : Options) (part : ℕ → Bool) (table : Targets) (port : PortEvents) (c : ℕ) → AreTimed port → (k : ℕ) →
    filter (λ p. nat_eq p.part.channel c) (pairs_at o part table port k) ≡ pairs_at o (λ d. part d && nat_eq d c) table port k

-- so are those of some of the parts
abbrev pub PartsWithin : Type 0
PartsWithin = (o : Options) (part some : ℕ → Bool) (table : Targets) (port : PortEvents) → AreTimed port → ((c : ℕ) → some c ≡ true → part c ≡ true) → (k : ℕ) →
    filter (λ p. some p.part.channel) (pairs_at o part table port k) ≡ pairs_at o some table port k
