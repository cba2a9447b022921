use Rattle.scala_lines.proofs.Decimals.{billionths_small}
use Rattle.scala_lines.proofs.laws.decimals.Goals as goal

pub returns : goal.returns
returns c = billionths_small
