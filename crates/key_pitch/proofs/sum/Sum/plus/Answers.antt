use Rattle.std.proofs.Common.{arith, refl}
use Rattle.std.proofs.lemmas.Int.{ints}
use Rattle.key_pitch.proofs.Sums.{plus_sums}
use Rattle.key_pitch.proofs.sum.Sum.plus.Goals as goal

pub returns-clause-sum : goal.returns-clause-sum
returns-clause-sum c = λ p q m n r t h i.
    plus_sums c.sums.ensures.least c.sums.ensures.most p q m n r t c.args.self c.args.other _ h i refl (omega (arith, ints)) (omega (arith, ints))
