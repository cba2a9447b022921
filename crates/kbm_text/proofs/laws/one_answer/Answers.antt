use Rattle.scala_lines.specs.Steps.{one_answer}
use Rattle.kbm_text.proofs.Answered.{exact}
use Rattle.kbm_text.proofs.laws.one_answer.Goals as goal

pub returns : goal.returns
returns c = λ lines. one_answer (exact c.prefixes.ensures c.numbers.ensures lines)
