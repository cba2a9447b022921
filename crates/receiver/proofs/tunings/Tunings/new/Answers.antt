use Rattle.std.proofs.Common.{rules}
use Rattle.receiver.proofs.Retuning.{no_value}
use Rattle.receiver.proofs.tunings.Tunings.new.Goals as goal

pub returns : goal.returns
returns c = λ p k. search (rules, no_value)
