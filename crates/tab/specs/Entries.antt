use Rattle.std.specs.Prelude.{◌≡◌, ◌≢◌, ◌<◌, ◌≤◌, ℕ, zero, suc, ◌+◌, List, cond, eqb, max, slice_index}

-- A table: its defaults, and what its entries are now, place by place. This project's own.
pub record Entries : Type 0 where
  pub defaults : List ℕ
  pub items : List ℕ

-- 1 where the two differ
abbrev pub differs : ℕ → ℕ → ℕ
differs a b = cond (eqb a b) 0 1

-- in two tables over the same defaults: at how many of the first places the one or the other, or
-- both, hold something else than the default
abbrev pub away : List ℕ → Entries → ℕ → ℕ
away one two zero = 0
away one two (suc n) = away one two n + max (differs (slice_index two.defaults n) (slice_index one n)) (differs (slice_index two.defaults n) (slice_index two.items n))

-- so many of the places from m up to n hold something else than the default in one of the two
abbrev pub Looked : List ℕ → Entries → ℕ → ℕ → ℕ → Type 0
Looked one two m n looked = away one two m + looked ≡ away one two n

-- two lists hold the same from place m up to place n
abbrev pub SameBetween : ℕ → ℕ → List ℕ → List ℕ → Type 0
SameBetween m n one two = (k : ℕ) → m ≤ k → k < n → slice_index one k ≡ slice_index two k

-- they differ at a place
abbrev pub DifferAt : ℕ → List ℕ → List ℕ → Type 0
DifferAt i one two = slice_index one i ≢ slice_index two i

-- at how many of the first places they differ
abbrev pub differing : List ℕ → List ℕ → ℕ → ℕ
differing one two zero = 0
differing one two (suc n) = differing one two n + differs (slice_index one n) (slice_index two n)
