use Rattle.scala_lines.specs.Lines.{lines_of}
use Rattle.scala_lines.specs.Steps.{found, only, first_fault, only_fault}
use Rattle.scale_changes.specs.Answers.{seen, told}
use Rattle.scale_changes.proofs.Lists.{exact}
use Rattle.scale_changes.proofs.list.read_list.Goals as goal

pub returns-clause-found : goal.returns-clause-found
returns-clause-found c = found seen (exact c.prefixes.ensures c.numbers.ensures (lines_of c.args.text.now)) (told c.list.result) c.list.ensures

pub returns-clause-only : goal.returns-clause-only
returns-clause-only c = only seen (exact c.prefixes.ensures c.numbers.ensures (lines_of c.args.text.now)) (told c.list.result) c.list.ensures

pub returns-clause-fault : goal.returns-clause-fault
returns-clause-fault c = first_fault seen (exact c.prefixes.ensures c.numbers.ensures (lines_of c.args.text.now)) (told c.list.result) c.list.ensures

pub returns-clause-only_fault : goal.returns-clause-only_fault
returns-clause-only_fault c = only_fault seen (exact c.prefixes.ensures c.numbers.ensures (lines_of c.args.text.now)) (told c.list.result) c.list.ensures
