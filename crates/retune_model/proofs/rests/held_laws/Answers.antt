use Rattle.retune_model.proofs.Moments.{timely}
use Rattle.retune_model.proofs.Resting.{held_within, sounding_held, pairs_next, held_near, begun_there}
use Rattle.retune_model.proofs.rests.held_laws.Goals as goal

pub returns-clause-within : goal.returns-clause-within
returns-clause-within c o part table port is = held_within o part table port (timely c.music_laws.ensures.age port is.timed) is.aimed

pub returns-clause-sounding : goal.returns-clause-sounding
returns-clause-sounding c o part table port is k i h = sounding_held o part table port (timely c.music_laws.ensures.age port is.timed) is.aimed k i h.0 h.1

pub returns-clause-next : goal.returns-clause-next
returns-clause-next c o part table port is = pairs_next o part table port (timely c.music_laws.ensures.age port is.timed) is.aimed

pub returns-clause-near : goal.returns-clause-near
returns-clause-near c o part table port is = held_near o part table port (timely c.music_laws.ensures.age port is.timed) is.aimed

pub returns-clause-begun : goal.returns-clause-begun
returns-clause-begun c o part table port is = begun_there o part table port (timely c.music_laws.ensures.age port is.timed) is.aimed
