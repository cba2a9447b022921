use Rattle.std.proofs.Common.{arith, refl}
use Rattle.std.proofs.lemmas.Int.{ints}
use Rattle.key_pitch.proofs.Sums.{minus_sums}
use Rattle.key_pitch.proofs.sum.Sum.minus.Goals as goal

pub returns-clause-sum : goal.returns-clause-sum
returns-clause-sum c = λ p q m n r t h i.
    minus_sums c.differences.ensures.least c.differences.ensures.most p q m n r t c.args.self c.args.other _ h i refl (omega (arith, ints)) (omega (arith, ints))
