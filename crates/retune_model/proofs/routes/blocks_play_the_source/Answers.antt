use Rattle.retune_model.proofs.Same.{same_each, same_within}
use Rattle.retune_model.proofs.routes.blocks_play_the_source.Goals as goal

pub returns-clause-each : goal.returns-clause-each
returns-clause-each c = same_each c.music_laws.ensures.settled

pub returns-clause-within : goal.returns-clause-within
returns-clause-within c = same_within c.music_laws.ensures.settled
