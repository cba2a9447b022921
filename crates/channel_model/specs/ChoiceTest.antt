-- The choice as a test that the checker computes: whether each run gets the best of the first n places that are free (this project's own).
use Rattle.std.specs.Prelude.{◌≡◌, ℕ, zero, suc, List, Bool, true, ◌&&◌, ◌||◌, not, nat_eq, nat_lt, nat_le}
use Rattle.std.specs.List.{list_all}
use Rattle.std.specs.Set.{is_member}
use Rattle.retune_model.specs.Pairs.{Pair, is_same_pair}
use Rattle.retune_model.specs.Runs.{since}
use Rattle.channel_model.specs.Choice.{free_since, beginning_at, TakesBest}

-- at position k + 1 no run that has both positions is on a place
abbrev pub is_free : (ℕ → List Pair) → (ℕ → ℕ) → ℕ → ℕ → Bool
is_free at row k c = list_all (λ q. not (is_member is_same_pair (at k) q && nat_eq (row (since is_same_pair at q k)) c)) (at (suc k))

abbrev pub is_no_worse : (ℕ → ℕ) → (ℕ → ℕ) → ℕ → ℕ → Bool
is_no_worse cost free c d = nat_lt (cost c) (cost d) || (nat_eq (cost c) (cost d) && (nat_lt (free c) (free d) || (nat_eq (free c) (free d) && nat_le c d)))

-- the run of p that begins at position k + 1 is on a place no worse than the first n that are free
abbrev pub is_best : (ℕ → List Pair) → (Pair → ℕ → ℕ → ℕ) → (ℕ → ℕ) → ℕ → Pair → ℕ → Bool
is_best at cost row k p zero = true
is_best at cost row k p (suc c) =
    (not (is_free at row k c) || is_no_worse (λ d. cost p d k) (λ d. free_since at row d k) (row (suc k)) c) && is_best at cost row k p c

abbrev pub is_taken_well : (ℕ → List Pair) → ℕ → (Pair → ℕ → ℕ → ℕ) → (ℕ → ℕ) → ℕ → Pair → Bool
is_taken_well at n cost row k p = nat_lt (row (suc k)) n && (is_free at row k (row (suc k)) && is_best at cost row k p n)

abbrev pub takes_best : (ℕ → List Pair) → ℕ → ℕ → (Pair → ℕ → ℕ → ℕ) → (ℕ → ℕ) → Bool
takes_best at zero n cost row = true
takes_best at (suc k) n cost row = list_all (is_taken_well at n cost row k) (beginning_at at k) && takes_best at k n cost row

-- where the test holds, the row takes the best places
abbrev pub TestedIsBest : Type 0
TestedIsBest = (at : ℕ → List Pair) (last n : ℕ) (cost : Pair → ℕ → ℕ → ℕ) (row : ℕ → ℕ) → takes_best at last n cost row ≡ true → TakesBest at last n cost row
