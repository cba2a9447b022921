-- What a reader of lines has left.
use Rattle.std.specs.Prelude.{ℕ, ◌+◌, List, length}
use Rattle.scala_lines.specs.Lines.{Numbered, lines_of, content_from}
use Rattle.scala_lines.specs.declared.lines.Lines.{Lines}
use Rattle.scala_lines.specs.declared.lines.Line.{Line}

-- a line, without where it lies in memory
abbrev pub view : Line → Numbered
view line = record { number = line.number; bytes = line.bytes.now }

-- the lines to come that aren't comments
abbrev pub remaining : Lines → List Numbered
remaining lines = content_from lines.number (lines_of lines.rest.now)

-- the number that a line behind the last would have
abbrev pub missing : Lines → ℕ
missing lines = lines.number + length (lines_of lines.rest.now)
