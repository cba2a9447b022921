use Rattle.least_replay.proofs.Chains.{cover_assignment, cover_cost}
use Rattle.least_replay.proofs.laws.covers_are_assignments.Goals as goal

pub returns-clause-assignment : goal.returns-clause-assignment
returns-clause-assignment c = cover_assignment

pub returns-clause-cost : goal.returns-clause-cost
returns-clause-cost c = cover_cost
