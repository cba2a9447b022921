use Rattle.std.proofs.Common.{◌≡◌, length}
use Rattle.scala_lines.specs.Characters.{after_blanks}
use Rattle.scala_lines.proofs.characters.after_blanks.Given as goal

abbrev pub decreases-blanks : goal.decreases-blanks
decreases-blanks l = length l.rest

abbrev pub invariant-blanks : goal.invariant-blanks
invariant-blanks l = after_blanks l.rest ≡ after_blanks l.fn.bytes
