-- Assignments of channels to runs, and what they cost. This project's own.
--
-- An assignment gives each run a channel, which it keeps. A channel may have any number.
use Rattle.std.specs.Prelude.{ℕ, zero, suc, ◌+◌, ◌≢◌, ◌<◌, ◌≤◌, nat_eq, cond, List, [], ◌∷◌, map, get_or, take, Option, Some, None, IsSome, option_map, unwrap_or}
use Rattle.std.specs.List.{range_with_len}
use Rattle.std.specs.Set.{distinct_count}
use Rattle.least_replay.specs.Cover.{Table, starts_in, cost_at}

-- run b has the positions from `first b` to `last b`
abbrev pub HasPosition : (ℕ → ℕ) → (ℕ → ℕ) → ℕ → ℕ → Type 0
HasPosition first last b p = (first b ≤ p) × (p ≤ last b)

-- Runs are numbered in the order in which they begin, and a run may come right before another exactly where it ends before
-- that one begins
pub record AreRuns (t : Table) (first last : ℕ → ℕ) : Type 0 where
  pub ordered : (a b : ℕ) → a < b → b < t.runs → first a ≤ first b
  pub some_position : (b : ℕ) → b < t.runs → first b ≤ last b
  pub follows : (a b : ℕ) → a < b → b < t.runs → last a < first b → IsSome (t.after a b)
  pub only : (a b : ℕ) → a < t.runs → b < t.runs → IsSome (t.after a b) → last a < first b

-- there are no more channels than starts, and runs with a common position have different channels
pub record IsAssignment (t : Table) (first last channel : ℕ → ℕ) : Type 0 where
  pub few : distinct_count nat_eq (map channel (range_with_len 0 t.runs)) ≤ t.starts
  pub apart : (a b p : ℕ) → a < t.runs → b < t.runs → a ≢ b → HasPosition first last a p → HasPosition first last b p → channel a ≢ channel b

-- of the first n runs the last one on a channel
abbrev pub last_on : (ℕ → ℕ) → ℕ → ℕ → Option ℕ
last_on channel c zero = None
last_on channel c (suc n) = cond (nat_eq (channel n) c) (Some n) (last_on channel c n)

-- the run right before b on its channel
abbrev pub before_on : (ℕ → ℕ) → ℕ → Option ℕ
before_on channel b = last_on channel (channel b) b

-- the same for n runs from b on
abbrev pub chains_from : (ℕ → ℕ) → ℕ → ℕ → List (Option ℕ)
chains_from channel b zero = []
chains_from channel b (suc n) = before_on channel b ∷ chains_from channel (suc b) n

-- what n runs from b on cost, each behind the last one on its channel, or at a start where there was none
abbrev pub cost_from : Table → (ℕ → ℕ) → ℕ → ℕ → ℕ
cost_from t channel b zero = 0
cost_from t channel b (suc n) = cost_at t b (before_on channel b) + cost_from t channel (suc b) n

abbrev pub assignment_cost : Table → (ℕ → ℕ) → ℕ
assignment_cost t channel = cost_from t channel 0 t.runs

-- the run that starts the chain of run b, where it is at most n steps back
abbrev pub start_of : List (Option ℕ) → ℕ → ℕ → ℕ
start_of before zero b = b
start_of before (suc n) b = unwrap_or (option_map (start_of before n) (get_or before b None)) b

-- the place of that start among all starts, in their order, as the channel of run b
abbrev pub chain_of : List (Option ℕ) → ℕ → ℕ
chain_of before b = starts_in (take (start_of before b b) before)
