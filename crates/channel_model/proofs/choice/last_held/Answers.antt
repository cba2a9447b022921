use Rattle.channel_model.proofs.Holding.{held_then, not_held_later}
use Rattle.channel_model.proofs.choice.last_held.Goals as goal

pub returns-clause-held : goal.returns-clause-held
returns-clause-held c = held_then c.held_laws.ensures.within c.held_laws.ensures.near c.rests_are_runs.ensures.one_begins

pub returns-clause-not_later : goal.returns-clause-not_later
returns-clause-not_later c = not_held_later c.held_laws.ensures.within c.held_laws.ensures.near c.rests_are_runs.ensures.one_begins
