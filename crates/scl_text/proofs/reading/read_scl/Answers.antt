use Rattle.scala_lines.specs.Steps.{found, only, first_fault, only_fault}
use Rattle.scl_text.specs.Answers.{seen}
use Rattle.scl_text.proofs.Answered.{exact}
use Rattle.scl_text.proofs.reading.read_scl.Goals as goal

pub returns-clause-found : goal.returns-clause-found
returns-clause-found c = found seen (exact c.prefixes.ensures c.numbers.ensures _) c.scale.result c.scale.ensures

pub returns-clause-only : goal.returns-clause-only
returns-clause-only c = only seen (exact c.prefixes.ensures c.numbers.ensures _) c.scale.result c.scale.ensures

pub returns-clause-fault : goal.returns-clause-fault
returns-clause-fault c = first_fault seen (exact c.prefixes.ensures c.numbers.ensures _) c.scale.result c.scale.ensures

pub returns-clause-only_fault : goal.returns-clause-only_fault
returns-clause-only_fault c = only_fault seen (exact c.prefixes.ensures c.numbers.ensures _) c.scale.result c.scale.ensures
