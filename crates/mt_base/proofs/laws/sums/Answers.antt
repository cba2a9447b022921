use Rattle.mt_base.proofs.Pitches.{least_of_sum, most_of_sum}
use Rattle.mt_base.proofs.laws.sums.Goals as goal

pub returns-clause-least : goal.returns-clause-least
returns-clause-least c = least_of_sum

pub returns-clause-most : goal.returns-clause-most
returns-clause-most c = most_of_sum
