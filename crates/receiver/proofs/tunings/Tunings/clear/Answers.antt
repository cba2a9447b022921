use Rattle.std.proofs.Common.{rules}
use Rattle.receiver.proofs.Retuning.{no_value}
use Rattle.receiver.proofs.tunings.Tunings.clear.Goals as goal

pub returns-then-self : goal.returns-then-self
returns-then-self c = λ p k. search (rules, no_value)

pub returns-else-self : goal.returns-else-self
returns-else-self c = λ p k. no_value _ _ (c.args.self.now.cleared (search rules))
