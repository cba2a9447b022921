use Rattle.mt_base.proofs.Pitches.{least_of_octaves, most_of_octaves, least_of_octaves_down, most_of_octaves_down}
use Rattle.mt_base.proofs.laws.octaves.Goals as goal

pub returns-clause-least : goal.returns-clause-least
returns-clause-least c = least_of_octaves

pub returns-clause-most : goal.returns-clause-most
returns-clause-most c = most_of_octaves

pub returns-clause-least_down : goal.returns-clause-least_down
returns-clause-least_down c = least_of_octaves_down

pub returns-clause-most_down : goal.returns-clause-most_down
returns-clause-most_down c = most_of_octaves_down
