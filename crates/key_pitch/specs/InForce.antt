-- Which of the values that a list gives from some ticks on is in force at a tick (this project's own).
use Rattle.std.specs.Prelude.{◌≡◌, ℕ, ◌<◌, ◌≤◌, nat_le, if◌then◌else◌, List, [], ◌∷◌, ◌++◌, length, map, slice_index, Option, Some, None}
use Rattle.std.specs.List.{AllByRecursion}
use Rattle.std.specs.List.Sorted.{IsStrictlyIncreasing}

-- each value with the tick from which it holds
abbrev pub ticks_of : {X : Type 0} → List (ℕ × X) → List ℕ
ticks_of entries = map (λ e. e.0) entries

-- the first entry at tick 0, so that something is in force at every tick, and the others at later ticks in order
pub record IsTimeline (ticks : List ℕ) : Type 0 where
  pub some : 0 < length ticks
  pub start : slice_index ticks 0 ≡ 0
  pub ascending : IsStrictlyIncreasing ticks

-- what the later entries have, or else this value
abbrev pub later_or : {X : Type 0} → Option X → Option X → Option X
later_or (Some later) this = Some later
later_or None this = this

-- the value of the last entry whose tick isn't after this one
abbrev pub in_force : {X : Type 0} → ℕ → List (ℕ × X) → Option X
in_force tick [] = None
in_force tick (e ∷ later) = later_or (in_force tick later) (if nat_le e.0 tick then Some e.1 else None)

-- The same as a relation: an entry whose tick isn't after this one, behind which all are after it.
pub record IsLast {X : Type 0} (tick : ℕ) (entries : List (ℕ × X)) (value : X) : Type 0 where
  pub before : List (ℕ × X)
  pub from : ℕ
  pub behind : List (ℕ × X)
  pub placed : entries ≡ before ++ (from, value) ∷ behind
  pub begun : from ≤ tick
  pub later : AllByRecursion (λ e. tick < e.0) behind
