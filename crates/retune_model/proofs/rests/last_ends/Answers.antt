use Rattle.retune_model.proofs.Moments.{timely}
use Rattle.retune_model.proofs.Latest.{holds_by_last_end, last_end_reset, last_end_next}
use Rattle.retune_model.proofs.rests.last_ends.Goals as goal

pub returns-clause-holds : goal.returns-clause-holds
returns-clause-holds c o part table port is = holds_by_last_end o part table port (timely c.music_laws.ensures.age port is.timed) is.aimed

pub returns-clause-reset : goal.returns-clause-reset
returns-clause-reset c = last_end_reset

pub returns-clause-next : goal.returns-clause-next
returns-clause-next c o part table port timed = last_end_next o part table port (timely c.music_laws.ensures.age port timed)
