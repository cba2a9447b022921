-- Laws of the places of a row of channels, from one position to the next.
use Rattle.std.specs.Prelude.{◌≡◌, ◌<◌, ◌⊎◌, ℕ, suc, List, [], Bool, true, false, Option, Some, None, length, map}
use Rattle.std.specs.Set.{is_member}
use Rattle.midi_model.specs.Channel.{State, default_state}
use Rattle.midi_model.specs.Bring.{bring}
use Rattle.retune_model.specs.Pairs.{Pair, is_same_pair}
use Rattle.retune_model.specs.Runs.{begins, HasRoom}
use Rattle.channel_model.specs.Choice.{pair_on, TakesBest}
use Rattle.plan_laws.specs.Placing.{Seen, nowhere, seen_at, Has, HasPlaces, HasLeft, or_kept, leave, clear, begin_on, IsBestSeen}

-- Before the first event all places are free, and at the default state.
abbrev pub AllAreNowhere : List Seen → Type 0
AllAreNowhere ss = (c : ℕ) → seen_at ss c ≡ nowhere

abbrev pub NoneAtFirst : Type 0
NoneAtFirst = (at : ℕ → List Pair) (row : ℕ → ℕ) (from : ℕ → ℕ → State) (ss : List Seen) → at 0 ≡ [] → ((c : ℕ) → from c 0 ≡ default_state)
    → AllAreNowhere ss
    → HasPlaces at row from 0 ss

-- what is asked of the pairs that are on a row: which stay, and in which state the others leave
pub record TellsLeaving (at : ℕ → List Pair) (row : ℕ → ℕ) (from : ℕ → ℕ → State) (k : ℕ) (ss : List Seen) (holds : Pair → Bool) (leaves : Pair
    → Option State) : Type 0 where
  pub stays : (p : Pair) → Has (at k) p → holds p ≡ is_member is_same_pair (at (suc k)) p
  pub left : (c : ℕ) (p : Pair) → c < length ss → pair_on at row c k ≡ Some p → is_member is_same_pair (at (suc k)) p ≡ false
      → or_kept (seen_at ss c).left (leaves p) ≡ from c k

-- the places of pairs that an event ends are freed
abbrev pub LeavingFrees : Type 0
LeavingFrees = (at : ℕ → List Pair) (row : ℕ → ℕ) (from : ℕ → ℕ → State) (k : ℕ) (ss : List Seen) (holds : Pair → Bool) (leaves : Pair
    → Option State)
    → at 0 ≡ [] → HasPlaces at row from k ss → TellsLeaving at row from k ss holds leaves
    → HasLeft at row from k (map (leave holds leaves (suc k)) ss)

-- a reset frees all
abbrev pub ClearingFrees : Type 0
ClearingFrees = (at : ℕ → List Pair) (row : ℕ → ℕ) (from : ℕ → ℕ → State) (k : ℕ) (ss : List Seen)
    → at 0 ≡ [] → HasPlaces at row from k ss → at (suc k) ≡ [] → ((c : ℕ) → from c (suc k) ≡ default_state)
    → HasPlaces at row from (suc k) (map (clear (suc k)) ss)

-- a place that stays free is left as it was
abbrev pub IsLeftAlone : (ℕ → List Pair) → (ℕ → ℕ) → (ℕ → ℕ → State) → ℕ → Type 0
IsLeftAlone at row from k = (c : ℕ) → pair_on at row c (suc k) ≡ None → from c (suc k) ≡ from c k

-- where no run begins
abbrev pub NoneBegins : Type 0
NoneBegins = (at : ℕ → List Pair) (row : ℕ → ℕ) (from : ℕ → ℕ → State) (k : ℕ) (ss : List Seen)
    → HasLeft at row from k ss → ((p : Pair) → Has (at (suc k)) p → Has (at k) p) → IsLeftAlone at row from k → HasPlaces at row from (suc k) ss

-- where the run of p begins, and no other
pub record OnlyBegins (at : ℕ → List Pair) (k : ℕ) (p : Pair) : Type 0 where
  pub here : begins is_same_pair at k p ≡ true
  pub only : (q : Pair) → Has (at (suc k)) q → Has (at k) q ⊎ (q ≡ p)

-- a run begins on a free place
abbrev pub OneBeginsOn : Type 0
OneBeginsOn = (at : ℕ → List Pair) (row : ℕ → ℕ) (from : ℕ → ℕ → State) (k : ℕ) (ss : List Seen) (p : Pair) (c : ℕ)
    → HasLeft at row from k ss → OnlyBegins at k p → c < length ss → (seen_at ss c).pair ≡ None → row (suc k) ≡ c → IsLeftAlone at row from k
    → HasPlaces at row from (suc k) (begin_on ss c p)

-- of n places the best is taken, for a run of the pair p, where it begins
abbrev pub BestIsTaken : Type 0
BestIsTaken = (at : ℕ → List Pair) (row : ℕ → ℕ) (from : ℕ → ℕ → State) (k : ℕ) (ss : List Seen) (p : Pair) (c : ℕ) (wanted : State) (cost : Pair
    → ℕ → ℕ → ℕ)
    → TakesBest at k (length ss) cost row → HasLeft at row from k ss → OnlyBegins at k p → IsBestSeen ss wanted c → row (suc k) ≡ c
    → ((d : ℕ) → cost p d k ≡ length (bring 0 (from d k) wanted))
    → TakesBest at (suc k) (length ss) cost row

-- where no run begins nothing is taken
abbrev pub NoneIsTaken : Type 0
NoneIsTaken = (at : ℕ → List Pair) (row : ℕ → ℕ) (k n : ℕ) (cost : Pair → ℕ → ℕ → ℕ)
    → TakesBest at k n cost row → ((p : Pair) → Has (at (suc k)) p → Has (at k) p) → TakesBest at (suc k) n cost row

-- where there is room for a run, a place is free
abbrev pub OneIsFree : Type 0
OneIsFree = (at : ℕ → List Pair) (row : ℕ → ℕ) (from : ℕ → ℕ → State) (k : ℕ) (ss : List Seen)
    → HasLeft at row from k ss → HasRoom is_same_pair at (length ss) row k → (c : ℕ) × (c < length ss) × ((seen_at ss c).pair ≡ None)
