use Rattle.std.proofs.Common.{arith, ◌∙◌}
use Rattle.replay.proofs.Fronts.{put_in, put_past}
use Rattle.replay.proofs.sink.ArrayVecMsg400Sink.put.Goals as goal

pub returns-then-len-lt400 : goal.returns-then-len-lt400
returns-then-len-lt400 c =
    λ n ms held. c.push.ensures.items ∙ put_in 400 _ ms _ held (omega (arith, c.len.ensures.value, c.if-len-lt400.true))

pub returns-else-len-lt400 : goal.returns-else-len-lt400
returns-else-len-lt400 c = λ n ms held. put_past 400 _ ms _ held (omega (arith, c.len.ensures.value, c.if-len-lt400.false))
