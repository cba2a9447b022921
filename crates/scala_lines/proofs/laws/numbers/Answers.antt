use Rattle.scala_lines.proofs.Spelled.{digits_again, no_digits_again, digits_or_none}
use Rattle.scala_lines.proofs.laws.numbers.Goals as goal

pub returns : goal.returns
returns c = record { found = digits_again; none = no_digits_again; either = digits_or_none }
