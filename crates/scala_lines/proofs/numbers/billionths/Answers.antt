use Rattle.std.proofs.Common.{arith}
use Rattle.scala_lines.proofs.Decimals.{few_read}
use Rattle.scala_lines.proofs.numbers.billionths.Goals as goal

pub returns-clause-bound : goal.returns-clause-bound
returns-clause-bound c =
    (few_read c.args.digits.now c.value_within-2.result c.unwrap_or-2.result c.pow.result c.requires (omega (arith, c.if-digits-ge9.false)) c.value_within-2.ensures c.unwrap_or-2.ensures c.pow.ensures).1
