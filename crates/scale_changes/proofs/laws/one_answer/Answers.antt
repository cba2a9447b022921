use Rattle.scala_lines.specs.Steps.{one_answer}
use Rattle.scale_changes.proofs.Lists.{exact}
use Rattle.scale_changes.proofs.laws.one_answer.Goals as goal

pub returns : goal.returns
returns c = λ lines. one_answer (exact c.prefixes.ensures c.numbers.ensures lines)
