-- What is held under names and what was said, each where it is told.
use Rattle.std.specs.Prelude.{ℕ, ◌≡◌, ◌++◌, List, [], Some, None}
use Rattle.std.specs.Option.{option_map}
use Rattle.std.specs.declared.option.Option.{Option}
use Rattle.std.specs.FinMap as map
use Rattle.std.specs.Cmp.Lexicographic.{slice_cmp}
use Rattle.std.specs.Ordering.{nat_cmp}

-- from names to contents
abbrev pub Held : Type 0
Held = map.FinMap (slice_cmp nat_cmp) (List ℕ)

-- nothing
abbrev pub no_names : Held
no_names = map.from_entries []

-- the content at a name
abbrev pub content_at : Held → List ℕ → Option (List ℕ)
content_at h name = map.get h name

-- what is held after a store
abbrev pub stored : Option Held → List ℕ → List ℕ → Option Held
stored held name content = option_map (λ h. map.insert h name content) held

-- what was said after a text more
abbrev pub appended : Option (List ℕ) → List ℕ → Option (List ℕ)
appended said text = option_map (λ t. t ++ text) said

-- at each other name the same is held, and it is told as before what is held
abbrev pub IsSameBut : List ℕ → Option Held → Option Held → Type 0
IsSameBut name None None = Unit {0}
IsSameBut name (Some h) (Some k) = (other : List ℕ) → (other ≡ name → ⊥)
    → content_at k other ≡ content_at h other
IsSameBut name _ _ = ⊥

-- a front of the text was said, and it is told as before what was said
abbrev pub AppendsFront : List ℕ → Option (List ℕ) → Option (List ℕ) → Type 0
AppendsFront text None None = Unit {0}
AppendsFront text (Some before) (Some now) = (front : List ℕ) × (rest : List ℕ)
    × (text ≡ front ++ rest) × (now ≡ before ++ front)
AppendsFront text _ _ = ⊥
