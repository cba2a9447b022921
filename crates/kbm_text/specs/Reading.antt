-- Reading a mapping text line by line, with the first fault that is met.
use Rattle.std.specs.Prelude.{ℕ, zero, suc, ◌+◌, List, [], ◌∷◌, length, Option, None, Result, Ok}
use Rattle.scala_lines.specs.Lines.{Numbered, content, entry_lines}
use Rattle.scala_lines.specs.Reading.{Fault, fault, ◌>>=◌, on_line}
use Rattle.kbm_text.specs.declared.fault.KbmKind.{KbmKind}
use Rattle.kbm_text.specs.declared.fault.KbmKind.TheVariants.{MissingField, SizeRange, KeyRange, DegreeRange}
use Rattle.kbm_text.specs.Field.{number_in, frequency_of, entry_of}
use Rattle.kbm_text.specs.Map.{KeyMap}

-- a field on the next line; missing is the number of a line behind the last
unfoldable pub field_at : ℕ → (List ℕ → Result ℕ KbmKind) → List Numbered → Result (ℕ × List Numbered) (Fault KbmKind)
field_at missing read [] = fault missing MissingField
field_at missing read (line ∷ lines) = do
  n ← on_line line.number (read line.bytes)
  Ok (n, lines)

-- The four keys: the last is at least the first.
pub record Keys : Type 0 where
  pub first : ℕ
  pub last : ℕ
  pub middle : ℕ
  pub reference : ℕ

unfoldable pub keys_at : ℕ → List Numbered → Result (Keys × List Numbered) (Fault KbmKind)
keys_at missing lines = do
  first ← field_at missing (number_in KeyRange 0 127) lines
  last ← field_at missing (number_in KeyRange first.0 127) first.1
  middle ← field_at missing (number_in KeyRange 0 127) last.1
  reference ← field_at missing (number_in KeyRange 0 127) middle.1
  Ok (record { first = first.0; last = last.0; middle = middle.0; reference = reference.0 }, reference.1)

-- so many entries; those that are left out at the end are unmapped
unfoldable pub entries_at : ℕ → List Numbered → Result (List (Option ℕ)) (Fault KbmKind)
entries_at zero lines = Ok []
entries_at (suc n) [] = do
  entries ← entries_at n []
  Ok (None ∷ entries)
entries_at (suc n) (line ∷ lines) = do
  entry ← on_line line.number (entry_of line.bytes)
  entries ← entries_at n lines
  Ok (entry ∷ entries)

-- the lines that aren't comments: the size, the keys, the frequency, the octave's degree, the entries
unfoldable pub map_at : ℕ → List Numbered → Result KeyMap (Fault KbmKind)
map_at missing lines = do
  size ← field_at missing (number_in SizeRange 0 4096) lines
  keys ← keys_at missing size.1
  frequency ← field_at missing frequency_of keys.1
  octave ← field_at missing (number_in DegreeRange 0 16383) frequency.1
  entries ← entries_at size.0 (entry_lines octave.1)
  Ok (record {
    first = keys.0.first;
    last = keys.0.last;
    middle = keys.0.middle;
    reference = keys.0.reference;
    nanohertz = frequency.0;
    octave = octave.0;
    entries = entries;
  })

-- the mapping of a text, or its first fault
abbrev pub map_of : List (List ℕ) → Result KeyMap (Fault KbmKind)
map_of lines = map_at (length lines + 1) (content lines)
