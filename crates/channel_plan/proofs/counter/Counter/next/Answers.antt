use Rattle.channel_plan.proofs.counter.Counter.next.Goals as goal

pub returns-clause-timed : goal.returns-clause-timed
returns-clause-timed c tick old now = c.count.ensures.timed tick (c.begin.ensures.timed tick old) now
