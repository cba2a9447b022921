use Rattle.std.proofs.Common.{sym}
use Rattle.scala_lines.proofs.Decimals.{turned_above, read_above}
use Rattle.scala_lines.proofs.numbers.value_within.Goals as goal

pub returns-then-number-limit : goal.returns-then-number-limit
returns-then-number-limit c = let l = c.loop-digit in
    sym (turned_above c.args.limit l.number _ c.args.digits.now l.digit-index c.if-number-limit.true c.loop-digit-test.true l.invariant.told)

pub returns-then-number-limit-2 : goal.returns-then-number-limit-2
returns-then-number-limit-2 c = let l = c.loop-digit in
    sym (read_above c.args.limit l.number c.saturating_sub.result _ c.args.digits.now l.digit-index c.saturating_sub.ensures c.if-number-limit-2.true c.loop-digit-test.true l.invariant.told)
