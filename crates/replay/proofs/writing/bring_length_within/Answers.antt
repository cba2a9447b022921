use Rattle.std.proofs.Common.{◌∙◌, arith}
use Rattle.receiver.specs.State.{state_of}
use Rattle.replay.proofs.writing.bring_length_within.Goals as goal

pub returns-then-length-bound-clause-none : goal.returns-then-length-bound-clause-none
returns-then-length-bound-clause-none c = λ d.
    let same = c.messages_are_few.ensures.as_many d 0 (state_of c.args.now.now) (state_of c.args.wanted.now) in
    omega (arith, same, c.count_up_to-length.ensures, c.if-length-bound.true)

pub returns-else-length-bound-clause-some : goal.returns-else-length-bound-clause-some
returns-else-length-bound-clause-some c = λ d.
    c.messages_are_few.ensures.as_many d 0 (state_of c.args.now.now) (state_of c.args.wanted.now)
    ∙ omega (arith, c.count_up_to-length.ensures, c.if-length-bound.false)
