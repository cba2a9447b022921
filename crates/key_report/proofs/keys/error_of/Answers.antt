use Rattle.std.proofs.Common.{arith}
use Rattle.std.proofs.lemmas.Int.{ints}
use Rattle.key_pitch.specs.Views.{bounds_of}
use Rattle.key_report.proofs.Near.{half_is_short, target_is_near}
use Rattle.key_report.proofs.keys.error_of.Goals as goal

pub new-requires-clause-target_low : goal.new-requires-clause-target_low
new-requires-clause-target_low c =
    let n = target_is_near c.args.range (bounds_of c.args.bracket) c.args.target c.requires.device c.requires.target in
    let short = half_is_short c.args.range c.requires.device in
    omega (arith, ints, n.high, n.above, short, c.told_grains.ensures)

pub new-requires-clause-target_high : goal.new-requires-clause-target_high
new-requires-clause-target_high c =
    let n = target_is_near c.args.range (bounds_of c.args.bracket) c.args.target c.requires.device c.requires.target in
    let short = half_is_short c.args.range c.requires.device in
    omega (arith, ints, n.low, n.below, short, c.told_grains.ensures)

pub new-requires-clause-near_low : goal.new-requires-clause-near_low
new-requires-clause-near_low c =
    let n = target_is_near c.args.range (bounds_of c.args.bracket) c.args.target c.requires.device c.requires.target in
    let short = half_is_short c.args.range c.requires.device in
    omega (arith, ints, n.low, short, c.told_grains.ensures)

pub new-requires-clause-near_high : goal.new-requires-clause-near_high
new-requires-clause-near_high c =
    let n = target_is_near c.args.range (bounds_of c.args.bracket) c.args.target c.requires.device c.requires.target in
    let short = half_is_short c.args.range c.requires.device in
    omega (arith, ints, n.high, short, c.told_grains.ensures)
