use Rattle.std.proofs.Common.{arith}
use Rattle.log_bracket.proofs.Leading.{is_top}
use Rattle.log_bracket.proofs.scaled.Scaled.of.Goals as goal

pub returns-clause-value : goal.returns-clause-value
returns-clause-value c =
    let top = is_top c.args.number c.requires (omega arith) in
    omega (arith, top.most)

pub returns-clause-top : goal.returns-clause-top
returns-clause-top c =
    let top = is_top c.args.number c.requires (omega arith) in
    omega (arith, top.most, top.least)
