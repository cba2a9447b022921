use Rattle.routes.proofs.Distributes.{may_all, put_is}
use Rattle.routes.proofs.laws.puts_are_dealt.Goals as goal

pub returns-clause-may : goal.returns-clause-may
returns-clause-may c = may_all (record { may = c.playable_is_put.ensures; dealt = c.put_is_dealt.ensures })

pub returns-clause-dealt : goal.returns-clause-dealt
returns-clause-dealt c = put_is (record { may = c.playable_is_put.ensures; dealt = c.put_is_dealt.ensures })
