use Rattle.mt_base.proofs.Pitches.{least_of_multiple, most_of_multiple}
use Rattle.mt_base.proofs.laws.multiples.Goals as goal

pub returns-clause-least : goal.returns-clause-least
returns-clause-least c = least_of_multiple

pub returns-clause-most : goal.returns-clause-most
returns-clause-most c = most_of_multiple
