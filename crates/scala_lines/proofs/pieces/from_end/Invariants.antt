use Rattle.std.proofs.Common.{◌≡◌, length}
use Rattle.scala_lines.specs.Lines.{from_end}
use Rattle.scala_lines.proofs.pieces.from_end.Given as goal

abbrev pub decreases-bytes : goal.decreases-bytes
decreases-bytes l = length l.rest

abbrev pub invariant-bytes : goal.invariant-bytes
invariant-bytes l = from_end l.rest ≡ from_end l.fn.text
