use Rattle.scala_lines.proofs.FirstLines.{cut_few}
use Rattle.scala_lines.proofs.laws.cuts.Goals as goal

pub returns : goal.returns
returns c = cut_few
