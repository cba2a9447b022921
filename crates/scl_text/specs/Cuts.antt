-- Scale texts that are cut behind a line.
use Rattle.std.specs.Prelude.{ℕ, ◌≡◌, ◌+◌, ◌<◌, ◌⊎◌, List, length, take}
use Rattle.scala_lines.specs.Lines.{content}
use Rattle.scala_lines.specs.Cuts.{number_at}
use Rattle.scl_text.specs.declared.entry.Entry.{Entry}
use Rattle.scl_text.specs.declared.fault.SclKind.{SclKind}
use Rattle.scl_text.specs.declared.fault.SclKind.TheVariants.{NoDescription, NoCount, MissingPitch}
use Rattle.scl_text.specs.Spelling.{ScaleText, ScaleFault}

-- the number of the last pitch line of a text with these entries: the description and the count stand before the pitches
abbrev pub last_pitch_line : List (List ℕ) → List Entry → ℕ
last_pitch_line lines entries = number_at (length entries + 1) (content lines)

-- a line is missing
abbrev pub IsMissing : SclKind → Type 0
IsMissing kind = (kind ≡ NoDescription) ⊎ (kind ≡ NoCount) ⊎ (kind ≡ MissingPitch)

-- A text that has a scale, cut behind its first n lines, before its last pitch line: a line is missing, behind those n.
abbrev pub CutMissesLine : Type 0
CutMissesLine = (lines : List (List ℕ)) (entries : List Entry) (n : ℕ) → ScaleText lines entries → n < last_pitch_line lines entries
    → (kind : SclKind) × IsMissing kind × ScaleFault (take n lines) (n + 1) kind
