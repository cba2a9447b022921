use Rattle.retune_model.proofs.Moments.{timely}
use Rattle.retune_model.proofs.Other.{other_port, after_reset}
use Rattle.retune_model.proofs.rests.elsewhere.Goals as goal

pub returns-clause-other : goal.returns-clause-other
returns-clause-other c o part table port timed = other_port o part table port (timely c.music_laws.ensures.age port timed)

pub returns-clause-reset : goal.returns-clause-reset
returns-clause-reset c = after_reset
