use Rattle.retune_model.proofs.SameMusic.{dump_same}
use Rattle.retune_model.proofs.Tuned.{dump_tuned}
use Rattle.retune_model.proofs.routes.dump_plays_the_source.Goals as goal

pub returns-clause-music : goal.returns-clause-music
returns-clause-music c = dump_same c.music_laws.ensures.settled

pub returns-clause-tuning : goal.returns-clause-tuning
returns-clause-tuning c = dump_tuned c.music_laws.ensures.settled
