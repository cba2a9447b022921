-- Laws of need, runs and assignments, over any sequence of sets of pairs in which at most one pair's run begins at each position.
use Rattle.std.specs.Prelude.{◌≡◌, ◌<◌, ◌≤◌, ◌+◌, ℕ, suc, Bool, true, List, length, take}
use Rattle.std.specs.Bool.{Decides}
use Rattle.std.specs.List.{IsDistinct}
use Rattle.std.specs.Set.{is_member}
use Rattle.retune_model.specs.Pairs.{Pair, is_same_pair}
use Rattle.retune_model.specs.Need.{IsNeed, ArePairs, IsValid, channels_used}
use Rattle.retune_model.specs.Runs.{since, begins, OneBegins, TakesFree, TakesLowest, HoldUnbroken, place_of_note, HasRoom}

-- the test of two pairs tells whether they are the same
abbrev pub PairsAreTold : Type 0
PairsAreTold = (p q : Pair) → Decides (is_same_pair p q) (p ≡ q)

-- ---- need

-- what is needed, and the instant, are determined
abbrev pub NeedIsDetermined : Type 0
NeedIsDetermined = (at : ℕ → List Pair) (last n m i j : ℕ) → IsNeed at last n i → IsNeed at last m j → (n ≡ m) × (i ≡ j)

-- no valid assignment of channels to notes has fewer channels than pairs at any position
abbrev pub NoPositionHasMore : Type 0
NoPositionHasMore = (holds : ℕ → ℕ → Bool) (pair : ℕ → Pair) (notes : ℕ) (at : ℕ → List Pair) (last : ℕ) → ArePairs is_same_pair holds pair notes at last →
    (channel : ℕ → ℕ) → IsValid holds pair notes last channel → (k : ℕ) → k ≤ last → length (at k) ≤ channels_used channel notes

-- so too few channels refuse
abbrev pub TooFewRefuse : Type 0
TooFewRefuse = (holds : ℕ → ℕ → Bool) (pair : ℕ → Pair) (notes : ℕ) (at : ℕ → List Pair) (last n instant allowed : ℕ) → ArePairs is_same_pair holds pair notes at last →
    IsNeed at last n instant → allowed < n → (channel : ℕ → ℕ) → IsValid holds pair notes last channel → allowed < channels_used channel notes

-- and one pair more than is allowed is there to show it
abbrev pub WitnessIsThere : Type 0
WitnessIsThere = (at : ℕ → List Pair) (last n instant allowed : ℕ) → IsNeed at last n instant → allowed < n → length (take (allowed + 1) (at instant)) ≡ allowed + 1

-- ---- runs

-- where a run begins and no more than n pairs are there, one of the first n places is free
abbrev pub RunsHaveRoom : Type 0
RunsHaveRoom = (at : ℕ → List Pair) (n : ℕ) (row : ℕ → ℕ) (k : ℕ) (p : Pair) →
    begins is_same_pair at k p ≡ true → length (at (suc k)) ≤ n → HasRoom is_same_pair at n row k

-- the lowest free place is one of the first n, where no more than n pairs are ever there
abbrev pub LowestIsFree : Type 0
LowestIsFree = (at : ℕ → List Pair) (last n : ℕ) (row : ℕ → ℕ) →
    ((k : ℕ) → k ≤ last → length (at k) ≤ n) → TakesLowest is_same_pair at last row → TakesFree is_same_pair at last n row

-- Notes that hold without a gap, and what is said of their pairs and runs.
pub record AreRuns (holds : ℕ → ℕ → Bool) (pair : ℕ → Pair) (notes : ℕ) (at : ℕ → List Pair) (last : ℕ) (from : ℕ → ℕ) : Type 0 where
  pub pairs : ArePairs is_same_pair holds pair notes at last
  pub unbroken : HoldUnbroken holds from notes last
  pub one : OneBegins is_same_pair at last

-- runs that take any free one of the first n places give a valid assignment
abbrev pub FreePlacesAreValid : Type 0
FreePlacesAreValid = (holds : ℕ → ℕ → Bool) (pair : ℕ → Pair) (notes : ℕ) (at : ℕ → List Pair) (last n : ℕ) (from row : ℕ → ℕ) →
    AreRuns holds pair notes at last from → TakesFree is_same_pair at last n row → IsValid holds pair notes last (place_of_note is_same_pair at row pair from)

-- with as many channels as are needed
abbrev pub FreePlacesAreAsMany : Type 0
FreePlacesAreAsMany = (holds : ℕ → ℕ → Bool) (pair : ℕ → Pair) (notes : ℕ) (at : ℕ → List Pair) (last n instant : ℕ) (from row : ℕ → ℕ) →
    AreRuns holds pair notes at last from → IsNeed at last n instant → TakesFree is_same_pair at last n row →
    channels_used (place_of_note is_same_pair at row pair from) notes ≡ n

-- each of which is in use at the instant
abbrev pub PlacesAreUsed : Type 0
PlacesAreUsed = (at : ℕ → List Pair) (last n instant : ℕ) (row : ℕ → ℕ) →
    IsNeed at last n instant → IsDistinct is_same_pair (at instant) → OneBegins is_same_pair at last → TakesFree is_same_pair at last n row →
    (c : ℕ) → c < n → (p : Pair) × (is_member is_same_pair (at instant) p ≡ true) × (row (since is_same_pair at p instant) ≡ c)
