-- Reading a list of scale changes line by line, with the first fault that is met.
use Rattle.std.specs.Prelude.{ℕ, zero, suc, ◌==◌, ◌||◌, nat_lt, nat_le, List, [], ◌∷◌, length, Option, Some, None, Result, Ok, Err, if◌then◌else◌}
use Rattle.scala_lines.specs.Characters.{is_blank, prefix, behind, after_blanks, after_digits}
use Rattle.scala_lines.specs.Numbers.{value}
use Rattle.scala_lines.specs.Lines.{Numbered, content, entry_lines}
use Rattle.scala_lines.specs.Spelling.{number_of}
use Rattle.scala_lines.specs.Reading.{Fault, fault, ◌>>=◌, on_line}
use Rattle.scale_changes.specs.declared.fault.ListKind.{ListKind}
use Rattle.scale_changes.specs.declared.fault.ListKind.TheVariants.{BadTick, TickOrder, BadName, TooMany}
use Rattle.scale_changes.specs.Names.{is_name_byte, greatest_tick, Change}

-- a name that blanks alone follow
abbrev pub name_alone : List ℕ → List ℕ → Option (List ℕ)
name_alone name after = if length name == 0 then None else (if length (after_blanks after) == 0 then Some name else None)

-- the name behind a text's blanks
abbrev pub name_behind : List ℕ → Option (List ℕ)
name_behind text = name_alone (prefix is_name_byte text) (behind is_name_byte text)

-- the name behind the digits of a line, from which a blank parts it
abbrev pub name_in : List ℕ → Option (List ℕ)
name_in [] = None
name_in (b ∷ bs) = if is_blank b then name_behind (after_blanks bs) else None

-- a tick above the last one
abbrev pub above_last : ℕ → ℕ → Result ℕ ListKind
above_last last n = if nat_le n last then Err TickOrder else Ok n

abbrev pub tick_above : ℕ → ℕ → Result ℕ ListKind
tick_above last n = if n == 0 || nat_lt greatest_tick n then Err BadTick else above_last last n

abbrev pub tick_of : ℕ → List ℕ → Result ℕ ListKind
tick_of last digits = if length digits == 0 then Err BadTick else tick_above last (value digits)

abbrev pub with_name : ℕ → Option (List ℕ) → Result Change ListKind
with_name tick (Some name) = Ok (tick, name)
with_name tick None = Err BadName

abbrev pub change_at : Result ℕ ListKind → Option (List ℕ) → Result Change ListKind
change_at (Ok tick) name = with_name tick name
change_at (Err kind) name = Err kind

-- the tick and the name of a line behind one with this tick
unfoldable pub change_of : ℕ → List ℕ → Result Change ListKind
change_of last line = change_at (tick_of last (number_of line)) (name_in (after_digits (after_blanks line)))

-- lines of which so many may be taken, behind one with this tick
unfoldable pub list_at : ℕ → ℕ → List Numbered → Result (List Change) (Fault ListKind)
list_at room last [] = Ok []
list_at zero last (line ∷ lines) = fault line.number TooMany
list_at (suc room) last (line ∷ lines) = do
  change ← on_line line.number (change_of last line.bytes)
  changes ← list_at room change.0 lines
  Ok (change ∷ changes)

-- the ticks and the names of a list, or its first fault
abbrev pub list_of : List (List ℕ) → Result (List Change) (Fault ListKind)
list_of lines = list_at 16 0 (entry_lines (content lines))
