-- Reading a scale text line by line, with the first fault that is met.
use Rattle.std.specs.Prelude.{ℕ, zero, suc, ◌+◌, ◌==◌, ◌||◌, nat_lt, List, [], ◌∷◌, length, Result, Ok, Err, if◌then◌else◌}
use Rattle.scala_lines.specs.Characters.{digits_of, after_blanks}
use Rattle.scala_lines.specs.Numbers.{value}
use Rattle.scala_lines.specs.Lines.{Numbered, content}
use Rattle.scala_lines.specs.Reading.{Fault, fault, ◌>>=◌, on_line}
use Rattle.scl_text.specs.declared.entry.Entry.{Entry}
use Rattle.scl_text.specs.declared.fault.SclKind.{SclKind}
use Rattle.scl_text.specs.declared.fault.SclKind.TheVariants.{NoDescription, NoCount, BadCount, CountRange, MissingPitch}
use Rattle.scl_text.specs.Pitch.{pitch_of}

abbrev pub count_in_range : ℕ → Result ℕ SclKind
count_in_range n = if n == 0 || nat_lt 4096 n then Err CountRange else Ok n

abbrev pub count_digits : List ℕ → Result ℕ SclKind
count_digits digits = if length digits == 0 then Err BadCount else count_in_range (value digits)

-- the count of a count line
unfoldable pub count_of : List ℕ → Result ℕ SclKind
count_of line = count_digits (digits_of (after_blanks line))

-- so many pitch lines; missing is the number of a line behind the last
unfoldable pub entries_at : ℕ → ℕ → List Numbered → Result (List Entry) (Fault SclKind)
entries_at missing zero lines = Ok []
entries_at missing (suc n) [] = fault missing MissingPitch
entries_at missing (suc n) (line ∷ lines) = do
  entry ← on_line line.number (pitch_of line.bytes)
  entries ← entries_at missing n lines
  Ok (entry ∷ entries)

-- the lines that aren't comments: a description, a count, pitches
unfoldable pub scale_at : ℕ → List Numbered → Result (List Entry) (Fault SclKind)
scale_at missing [] = fault missing NoDescription
scale_at missing (description ∷ []) = fault missing NoCount
scale_at missing (description ∷ count ∷ lines) = do
  n ← on_line count.number (count_of count.bytes)
  entries_at missing n lines

-- the entries of a scale text, or its first fault
abbrev pub scale_of : List (List ℕ) → Result (List Entry) (Fault SclKind)
scale_of lines = scale_at (length lines + 1) (content lines)
