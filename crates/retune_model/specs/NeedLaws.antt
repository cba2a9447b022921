-- Laws of what a port needs, and of the assignments of channels to its notes. `part` says of which channels the notes are: of all
-- retuned parts, or of one alone.
use Rattle.std.specs.Prelude.{◌≡◌, ◌≤◌, ◌<◌, ℕ, Bool, true, List, length}
use Rattle.std.specs.List.{IsDistinct}
use Rattle.std.specs.Set.{is_member}
use Rattle.mt_base.specs.Midi.{MidiEvent}
use Rattle.retune_model.specs.Options.{Options}
use Rattle.retune_model.specs.Faults.{Targets}
use Rattle.retune_model.specs.Pairs.{Pair, is_same_pair}
use Rattle.retune_model.specs.Runs.{since, begins, HasRoom}
use Rattle.retune_model.specs.PortNeed.{AreParts, pairs_on, IsNeedOf, need_of, IsValidOn, size_on, TakesFreeOn, place_on}
use Rattle.retune_model.specs.SourceFaults.{IsSound}

-- A source without a fault, and what one of its ports needs.
pub record Needs (o : Options) (part : ℕ → Bool) (table : Targets) (es : List MidiEvent) (z n instant : ℕ) : Type 0 where
  pub parts : AreParts o part
  pub sound : IsSound o table es
  pub need : IsNeedOf o part table es z n instant

-- no valid assignment of channels to the port's notes has fewer channels than the port needs
abbrev pub NoneHasFewer : Type 0
NoneHasFewer = (o : Options) (part : ℕ → Bool) (table : Targets) (es : List MidiEvent) (z n instant : ℕ) (channel : ℕ → ℕ) →
    Needs o part table es z n instant → IsValidOn o part table es z channel → n ≤ size_on part es z channel

-- so with fewer channels than that there is none
abbrev pub FewerAreRefused : Type 0
FewerAreRefused = (o : Options) (part : ℕ → Bool) (table : Targets) (es : List MidiEvent) (z n instant allowed : ℕ) (channel : ℕ → ℕ) →
    Needs o part table es z n instant → allowed < n → IsValidOn o part table es z channel → allowed < size_on part es z channel

-- a rule that gives each run, as it begins, a free one of the first n channels gives a valid assignment
abbrev pub FreeOnesAreValid : Type 0
FreeOnesAreValid = (o : Options) (part : ℕ → Bool) (table : Targets) (es : List MidiEvent) (z n : ℕ) (row : ℕ → ℕ) →
    AreParts o part → IsSound o table es → TakesFreeOn o part table es z n row → IsValidOn o part table es z (place_on o part table es z row)

-- where n are needed it has just so many
abbrev pub FreeOnesAreAsMany : Type 0
FreeOnesAreAsMany = (o : Options) (part : ℕ → Bool) (table : Targets) (es : List MidiEvent) (z n instant : ℕ) (row : ℕ → ℕ) →
    Needs o part table es z n instant → TakesFreeOn o part table es z n row → size_on part es z (place_on o part table es z row) ≡ n

-- and at the instant each of them is in use
abbrev pub IsUsedAt : Options → (ℕ → Bool) → Targets → List MidiEvent → ℕ → (ℕ → ℕ) → ℕ → ℕ → Type 0
IsUsedAt o part table es z row k c = (p : Pair) × (is_member is_same_pair (pairs_on o part table es z k) p ≡ true) × (row (since is_same_pair (pairs_on o part table es z) p k) ≡ c)

abbrev pub AllAreUsed : Type 0
AllAreUsed = (o : Options) (part : ℕ → Bool) (table : Targets) (es : List MidiEvent) (z n instant : ℕ) (row : ℕ → ℕ) →
    Needs o part table es z n instant → TakesFreeOn o part table es z n row → (c : ℕ) → c < n → IsUsedAt o part table es z row instant c

-- no pair stands twice at a position
abbrev pub PairsStandOnce : Type 0
PairsStandOnce = (o : Options) (part : ℕ → Bool) (table : Targets) (es : List MidiEvent) (z k : ℕ) → IsDistinct is_same_pair (pairs_on o part table es z k)

-- what a port needs, and the instant, are what counting finds
abbrev pub CountingFindsNeed : Type 0
CountingFindsNeed = (o : Options) (part : ℕ → Bool) (table : Targets) (es : List MidiEvent) (z : ℕ) →
    IsNeedOf o part table es z (need_of o part table es z).0 (need_of o part table es z).1

-- where a run begins, one of the first n channels is free
abbrev pub NeedHasRoom : Type 0
NeedHasRoom = (o : Options) (part : ℕ → Bool) (table : Targets) (es : List MidiEvent) (z n instant : ℕ) (row : ℕ → ℕ) (k : ℕ) (p : Pair) →
    IsNeedOf o part table es z n instant → k < length es → begins is_same_pair (pairs_on o part table es z) k p ≡ true →
    HasRoom is_same_pair (pairs_on o part table es z) n row k
