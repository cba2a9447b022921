use Rattle.mt_base.proofs.Pitches.{least_of_less, most_of_more}
use Rattle.mt_base.proofs.laws.wider.Goals as goal

pub returns-clause-least : goal.returns-clause-least
returns-clause-least c = least_of_less

pub returns-clause-most : goal.returns-clause-most
returns-clause-most c = most_of_more
