-- Mapping texts that are cut behind a line.
use Rattle.std.specs.Prelude.{ℕ, ◌+◌, ◌<◌, List, take}
use Rattle.scala_lines.specs.Lines.{content}
use Rattle.scala_lines.specs.Cuts.{number_at}
use Rattle.kbm_text.specs.declared.fault.KbmKind.TheVariants.{MissingField}
use Rattle.kbm_text.specs.Map.{KeyMap}
use Rattle.kbm_text.specs.Spelling.{MapText, MapFault}

-- the number of the seventh line that isn't a comment
abbrev pub seventh_field_line : List (List ℕ) → ℕ
seventh_field_line lines = number_at 6 (content lines)

-- A text that has a mapping, cut behind its first n lines, before its seventh field: a field is missing, behind those n.
abbrev pub CutMissesField : Type 0
CutMissesField = (lines : List (List ℕ)) (m : KeyMap) (n : ℕ) → MapText lines m → n < seventh_field_line lines
    → MapFault (take n lines) (n + 1) MissingField
