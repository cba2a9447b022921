use Rattle.std.proofs.Common.{arith}
use Rattle.receiver.proofs.Putting.{before_more, ranks_at}
use Rattle.receiver.proofs.others.place.Goals as goal

pub loop-at-preserved : goal.loop-at-preserved
loop-at-preserved c =
    let os = c.args.others.now in
    let e = ranks_at os c.loop-at.at c.loop-at-test.true in
    before_more os c.loop-at.at c.args.rank c.loop-at.invariant (omega (arith, e, c.rank-here.ensures, c.if-here-rank.false, c.if-here-rank-2.false))
