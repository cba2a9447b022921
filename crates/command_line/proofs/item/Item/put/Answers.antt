use Rattle.std.proofs.Common.{◌≤◌, ◌-◌, arith}
use Rattle.std.proofs.Math.Pow.{pow_mono}
use Rattle.command_line.proofs.item.Item.put.Goals as goal

pub overflow_sub-range : goal.overflow_sub-range
overflow_sub-range c =
    let last = c.if-last-self.false in
    let low : c.args.self.first - 1 ≤ c.if-self.last = omega (arith, last) in
    rw (c.power.ensures.power, c.power-2.ensures.power) (pow_mono low)
