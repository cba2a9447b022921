use Rattle.retune_model.proofs.Moments.{timely}
use Rattle.retune_model.proofs.Resting.{without_tail, held_without_tail}
use Rattle.retune_model.proofs.rests.without_rests.Goals as goal

pub returns-clause-pairs : goal.returns-clause-pairs
returns-clause-pairs c o table port timed = without_tail o table port (timely c.music_laws.ensures.age port timed)

pub returns-clause-held : goal.returns-clause-held
returns-clause-held c o part table port timed = held_without_tail o part table port (timely c.music_laws.ensures.age port timed)
