use Rattle.std.proofs.Common.{◌≡◌, length}
use Rattle.scala_lines.specs.Characters.{after_digits}
use Rattle.scala_lines.proofs.characters.after_digits.Given as goal

abbrev pub decreases-digits : goal.decreases-digits
decreases-digits l = length l.rest

abbrev pub invariant-digits : goal.invariant-digits
invariant-digits l = after_digits l.rest ≡ after_digits l.fn.bytes
