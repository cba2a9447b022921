use Rattle.routes.proofs.Same.{plays_the_same, file_plays_the_same}
use Rattle.routes.proofs.laws.routed_plays_the_same.Goals as goal

pub returns-clause-events : goal.returns-clause-events
returns-clause-events c = plays_the_same c.routed_bytes.ensures.dump c.routed_bytes.ensures.changes c.dump_plays_the_same.ensures.events c.live_plays_the_same.ensures.events

pub returns-clause-file : goal.returns-clause-file
returns-clause-file c = file_plays_the_same c.routed_bytes.ensures.dump c.routed_bytes.ensures.changes c.dump_plays_the_same.ensures.file c.live_plays_the_same.ensures.file
