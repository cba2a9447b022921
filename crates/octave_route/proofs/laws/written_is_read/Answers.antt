use Rattle.std.proofs.Common.{arith}
use Rattle.octave_route.proofs.Numbers.{bit_named, number_small}
use Rattle.octave_route.proofs.Written.{again}
use Rattle.octave_route.proofs.laws.written_is_read.Goals as goal

pub returns-clause-again : goal.returns-clause-again
returns-clause-again c = again

pub returns-clause-bits : goal.returns-clause-bits
returns-clause-bits c = λ named k few. bit_named 16 named k (omega (arith, few))

pub returns-clause-range : goal.returns-clause-range
returns-clause-range c = λ named. omega (arith, number_small 16 named)
