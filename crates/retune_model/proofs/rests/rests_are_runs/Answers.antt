use Rattle.retune_model.proofs.Moments.{timely}
use Rattle.retune_model.proofs.Resting.{are_pairs, one_begins, hold_unbroken}
use Rattle.retune_model.proofs.rests.rests_are_runs.Goals as goal

pub returns-clause-pairs : goal.returns-clause-pairs
returns-clause-pairs c o part table port last is = are_pairs o part table port last (timely c.music_laws.ensures.age port is.timed) is.aimed

pub returns-clause-one_begins : goal.returns-clause-one_begins
returns-clause-one_begins c o part table port last is = one_begins o part table port last (timely c.music_laws.ensures.age port is.timed) is.aimed

pub returns-clause-unbroken : goal.returns-clause-unbroken
returns-clause-unbroken c part tail port last timed = hold_unbroken part tail port last (timely c.music_laws.ensures.age port timed)
