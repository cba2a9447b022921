use Rattle.mt_base.proofs.Pitches.{least_of_difference, most_of_difference}
use Rattle.mt_base.proofs.laws.differences.Goals as goal

pub returns-clause-least : goal.returns-clause-least
returns-clause-least c = least_of_difference

pub returns-clause-most : goal.returns-clause-most
returns-clause-most c = most_of_difference
