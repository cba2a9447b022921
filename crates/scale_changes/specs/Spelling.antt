-- What a list of scale changes is, as a relation on its lines, apart from how it is read (this project's own).
use Rattle.std.specs.Prelude.{ℕ, ◌≡◌, ◌<◌, ◌≤◌, ◌⊎◌, List, [], ◌∷◌, ◌++◌, length}
use Rattle.scala_lines.specs.Characters.{is_blank, Are}
use Rattle.scala_lines.specs.Numbers.{value}
use Rattle.scala_lines.specs.Lines.{Numbered, content, entry_lines}
use Rattle.scala_lines.specs.Spelling.{IsNumber, HasDigits, HasNoDigit}
use Rattle.scale_changes.specs.declared.fault.ListKind.{ListKind}
use Rattle.scale_changes.specs.declared.fault.ListKind.TheVariants.{BadTick, TickOrder, BadName, TooMany}
use Rattle.scale_changes.specs.Names.{is_name_byte, greatest_tick, Change}

-- ---- one line

-- a line is blanks, digits, anything, and the digits are a tick from 1 to the greatest
abbrev pub HasTick : List ℕ → ℕ → Type 0
HasTick line tick = (digits : List ℕ) × HasDigits line digits × (tick ≡ value digits) × (1 ≤ tick) × (tick ≤ greatest_tick)

-- a line is blanks, digits, one or more blanks, this name, and blanks alone
pub record HasName (line name : List ℕ) : Type 0 where
  pub before : List ℕ
  pub digits : List ℕ
  pub between : List ℕ
  pub after : List ℕ
  pub before_blank : Are is_blank before
  pub number : IsNumber digits
  pub between_blank : Are is_blank between
  pub some_between : 0 < length between
  pub named : Are is_name_byte name
  pub some_name : 0 < length name
  pub after_blank : Are is_blank after
  pub whole : line ≡ before ++ (digits ++ (between ++ (name ++ after)))

-- a line with this tick and name, behind one with a lower tick
abbrev pub IsChange : ℕ → List ℕ → Change → Type 0
IsChange last line change = HasTick line change.0 × (last < change.0) × HasName line change.1

-- The first kind for which a line can't be taken, where there is room for it, behind one with this tick.
abbrev pub NoChange : ℕ → List ℕ → ListKind → Type 0
NoChange last line BadTick = HasNoDigit line ⊎ ((digits : List ℕ) × HasDigits line digits × ((value digits ≡ 0) ⊎ (greatest_tick < value digits)))
NoChange last line TickOrder = (tick : ℕ) × HasTick line tick × (tick ≤ last)
NoChange last line BadName = (tick : ℕ) × HasTick line tick × (last < tick) × ((name : List ℕ) → HasName line name → ⊥)
NoChange last line TooMany = ⊥

-- ---- the list

-- each line has the tick and the name of its change, and the ticks rise
abbrev pub AreChanges : ℕ → List Numbered → List Change → Type 0
AreChanges last [] [] = Unit {0}
AreChanges last (line ∷ lines) (change ∷ changes) = IsChange last line.bytes change × AreChanges change.0 lines changes
AreChanges last [] (change ∷ changes) = ⊥
AreChanges last (line ∷ lines) [] = ⊥

-- Each line that is neither a comment nor blanks alone is a change; there are at most 16.
abbrev pub ListText : List (List ℕ) → List Change → Type 0
ListText lines changes = AreChanges 0 (entry_lines (content lines)) changes × (length changes ≤ 16)

abbrev pub last_tick : ℕ → List Change → ℕ
last_tick last [] = last
last_tick last (change ∷ changes) = last_tick change.0 changes

-- why a line can't be taken behind these changes, of which there may be so many
abbrev pub CantBeTaken : ℕ → ℕ → List Change → List ℕ → ListKind → Type 0
CantBeTaken most last changes line kind = ((length changes ≡ most) × (kind ≡ TooMany))
    ⊎ ((length changes < most) × NoChange (last_tick last changes) line kind)

-- the first line that can't be taken: those before it are changes
pub record StopsAtLine (most last : ℕ) (lines : List Numbered) (line : ℕ) (kind : ListKind) : Type 0 where
  pub taken : List Numbered
  pub changes : List Change
  pub first : Numbered
  pub rest : List Numbered
  pub placed : lines ≡ taken ++ first ∷ rest
  pub are_changes : AreChanges last taken changes
  pub number : line ≡ first.number
  pub cause : CantBeTaken most last changes first.bytes kind

-- The first line of a list that can't be taken, and the first kind that holds there.
abbrev pub ListTextFault : List (List ℕ) → ℕ → ListKind → Type 0
ListTextFault lines line kind = StopsAtLine 16 0 (entry_lines (content lines)) line kind
