use Rattle.std.proofs.Math.Nat.{pow-le-pow_left}
use Rattle.std.proofs.lemmas.Nat.{pow-add, mul-pow}
use Rattle.mt_base.proofs.Powers.{pow_mul, le_of_pow-le}
use Rattle.mt_base.proofs.laws.powers.Goals as goal

pub returns-clause-of_sum : goal.returns-clause-of_sum
returns-clause-of_sum c = pow-add

pub returns-clause-of_product : goal.returns-clause-of_product
returns-clause-of_product c = mul-pow

pub returns-clause-of_power : goal.returns-clause-of_power
returns-clause-of_power c = pow_mul

pub returns-clause-grow : goal.returns-clause-grow
returns-clause-grow c = λ x y i h. pow-le-pow_left h i

pub returns-clause-tell : goal.returns-clause-tell
returns-clause-tell c = le_of_pow-le
