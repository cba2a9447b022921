use Rattle.retune_model.proofs.SameMusic.{live_same}
use Rattle.retune_model.proofs.Told.{live_tuned}
use Rattle.retune_model.proofs.routes.live_plays_the_source.Goals as goal

pub returns-clause-music : goal.returns-clause-music
returns-clause-music c = live_same c.music_laws.ensures.settled

pub returns-clause-tuning : goal.returns-clause-tuning
returns-clause-tuning c = live_tuned c.music_laws.ensures.settled
