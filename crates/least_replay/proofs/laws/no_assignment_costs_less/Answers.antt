use Rattle.least_replay.proofs.Assignments.{assignment_least}
use Rattle.least_replay.proofs.Duality.{law}
use Rattle.least_replay.proofs.laws.no_assignment_costs_less.Goals as goal

pub returns : goal.returns
returns c = λ t u v p good first last channel runs is. assignment_least t first last channel runs is p (law t u v p good)
