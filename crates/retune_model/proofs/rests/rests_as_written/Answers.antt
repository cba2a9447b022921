use Rattle.retune_model.proofs.Moments.{timely}
use Rattle.retune_model.proofs.Written.{written, as_written, kept, keeps_held}
use Rattle.retune_model.proofs.rests.rests_as_written.Goals as goal

pub returns-clause-holds : goal.returns-clause-holds
returns-clause-holds c part tail port timed k i =
    let t = timely c.music_laws.ensures.age port timed in
    (written part tail port t k i, as_written part tail port t k i)

pub returns-clause-held : goal.returns-clause-held
returns-clause-held c o part table port is k p =
    (kept o part table port k p, λ x. keeps_held o part table port (timely c.music_laws.ensures.age port is.timed) is.aimed k p x.0 x.1 x.2)
