use Rattle.least_replay.proofs.Assignments.{assignment_cover, cost_is_price}
use Rattle.least_replay.proofs.laws.assignments_are_covers.Goals as goal

pub returns-clause-cover : goal.returns-clause-cover
returns-clause-cover c = assignment_cover

pub returns-clause-cost : goal.returns-clause-cost
returns-clause-cost c = λ t channel. cost_is_price t channel 0 t.runs
