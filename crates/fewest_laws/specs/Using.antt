-- How many channels the notes of a port have, and that there are no fewer that would do (this project's own).
--
-- `part` says of which channels of the source the notes are: of all retuned parts, or of one.
use Rattle.std.specs.Prelude.{◌≡◌, ◌≤◌, ◌<◌, ℕ, List, Bool, nat_eq, length, get_or}
use Rattle.std.specs.List.{IsDistinct}
use Rattle.std.specs.Set.{is_member}
use Rattle.mt_base.specs.Midi.{MidiEvent}
use Rattle.retune_model.specs.Options.{Options}
use Rattle.retune_model.specs.Faults.{Targets}
use Rattle.retune_model.specs.Pairs.{is_same_pair}
use Rattle.retune_model.specs.PortNeed.{AreParts, pairs_on, IsNeedOf, notes_on, place_on, TakesFreeOn, IsValidOn, size_on}
use Rattle.retune_model.specs.SourceFaults.{IsSound}

-- The notes of a port have these channels, in the order of their note ons, all of them of a row.
pub record UsesFewest (o : Options) (part : ℕ → Bool) (table : Targets) (es : List MidiEvent) (z need instant : ℕ) (row channels : List ℕ) :
    Type 0 where
  -- the greatest number of pairs at one position; the instant is the first that has so many
  pub is_need : IsNeedOf o part table es z need instant
  -- they are different pairs
  pub pairs : IsDistinct is_same_pair (pairs_on o part table es z instant)
  -- the row has as many channels
  pub as_many : length row ≡ need
  pub apart : IsDistinct nat_eq row
  -- each note has a channel of the row, and each channel of the row a note
  pub all : length channels ≡ notes_on part es z
  pub used : (c : ℕ) → is_member nat_eq channels c ≡ is_member nat_eq row c
  -- at each position, notes that hold on one channel have one pair
  pub valid : IsValidOn o part table es z (λ i. get_or channels i 0)
  pub size : size_on part es z (λ i. get_or channels i 0) ≡ need
  -- no assignment for which this is so has fewer channels
  pub fewest : (channel : ℕ → ℕ) → IsValidOn o part table es z channel → need ≤ size_on part es z channel

-- Each note has the channel of its run, at the place of the row that the run was given.
abbrev pub AreOfRuns : Options → (ℕ → Bool) → Targets → List MidiEvent → ℕ → (row : List ℕ) → (place : ℕ → ℕ) → (channels : List ℕ) → Type 0
AreOfRuns o part table es z row place channels =
    (i : ℕ) → i < notes_on part es z → get_or channels i 0 ≡ get_or row (place_on o part table es z place i) 0

-- ---- laws

-- Runs that take any free place of a row of as many channels as are needed use the fewest.
abbrev pub RunsUseFewest : Type 0
RunsUseFewest = (o : Options) (part : ℕ → Bool) (table : Targets) (es : List MidiEvent) (z need instant : ℕ) (row : List ℕ) (place : ℕ → ℕ)
    (channels : List ℕ)
    → AreParts o part → IsSound o table es → IsNeedOf o part table es z need instant → TakesFreeOn o part table es z need place
    → length row ≡ need → IsDistinct nat_eq row → length channels ≡ notes_on part es z → AreOfRuns o part table es z row place channels
    → UsesFewest o part table es z need instant row channels
