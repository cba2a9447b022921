use Rattle.std.proofs.Common.{arith, pos, [], ◌∷◌}
use Rattle.std.proofs.lemmas.Int.{ints}
use Rattle.key_pitch.specs.Views.{bounds_of}
use Rattle.key_pitch.proofs.Bounds.{raised}
use Rattle.key_pitch.proofs.keys.reference.Goals as goal

pub returns-clause-sum : goal.returns-clause-sum
returns-clause-sum c =
    let s = c.ratio-above.ensures.small in
    record {
      counted = c.ratio-above.ensures.sum.counted;
      bounds = raised c.args.nanohertz 440000000000 1 ((c.args.nanohertz, 440000000000) ∷ []) (pos 220800000000000) (bounds_of c.ratio-above.result.bracket) _ c.ratio-above.ensures.sum.bounds
          (omega (arith, ints, s.low, s.order, s.high)) (omega (arith, ints, s.low, s.order, s.high));
    }
