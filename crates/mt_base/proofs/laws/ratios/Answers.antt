use Rattle.mt_base.proofs.Pitches.{least_of_greater, most_of_smaller}
use Rattle.mt_base.proofs.laws.ratios.Goals as goal

pub returns-clause-least : goal.returns-clause-least
returns-clause-least c = least_of_greater

pub returns-clause-most : goal.returns-clause-most
returns-clause-most c = most_of_smaller
