use Rattle.std.proofs.Common.{◌≡◌, length}
use Rattle.scala_lines.specs.Lines.{entry_lines}
use Rattle.scala_lines.specs.Remaining.{remaining}
use Rattle.scala_lines.proofs.lines.Lines.next_entry.Given as goal

abbrev pub decreases-blank : goal.decreases-blank
decreases-blank l = length (remaining l.self)

abbrev pub invariant-blank : goal.invariant-blank
invariant-blank l = entry_lines (remaining l.self) ≡ entry_lines (remaining l.fn.self)
