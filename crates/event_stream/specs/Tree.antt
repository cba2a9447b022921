-- A tree of numbers in a list: below place i stand the places 2 * i and 2 * i + 1.
use Rattle.std.specs.Prelude.{◌≡◌, ℕ, ◌+◌, ◌*◌, ◌<◌, ◌≤◌, ◌⊎◌, List, length, take, drop, slice_index, slice_set, min}

-- each place from 1 to below a count holds the lesser of the two below it, but for one place
abbrev pub IsTreeBut : ℕ → ℕ → List ℕ → Type 0
IsTreeBut place count tree = (i : ℕ) → 0 < i → i < count → (i ≡ place → ⊥) → slice_index tree i ≡ min (slice_index tree (2 * i)) (slice_index tree (2 * i + 1))

abbrev pub IsTree : ℕ → List ℕ → Type 0
IsTree count tree = IsTreeBut 0 count tree

-- the leaves of such a tree
abbrev pub leaves : ℕ → List ℕ → List ℕ
leaves count tree = take count (drop count tree)

-- the numbers: the leaves, but at one place another number, which may wait outside the tree
abbrev pub numbers_in : ℕ → List ℕ → ℕ → ℕ → List ℕ
numbers_in count tree place number = slice_set (leaves count tree) place number

-- a number that is no greater than any of some numbers but the one at a place
abbrev pub IsBelowOthers : ℕ → ℕ → List ℕ → Type 0
IsBelowOthers rival place numbers = (i : ℕ) → i < length numbers → (i ≡ place → ⊥) → rival ≤ slice_index numbers i

-- A tree with a number at a place that is in its leaf, or less than all others.
pub record IsLeast (count : ℕ) (tree : List ℕ) (place number rival : ℕ) : Type 0 where
  pub some : 0 < count
  pub few : count ≤ 1024
  pub is_tree : IsTree count tree
  pub exists : place < count
  pub below_others : IsBelowOthers rival place (leaves count tree)
  pub in_place : (slice_index (leaves count tree) place ≡ number) ⊎ (number < rival)
