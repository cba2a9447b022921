use Rattle.octave_route.specs.Classes.{least_used}
use Rattle.octave_route.proofs.Fit.{not_all_fit}
use Rattle.octave_route.proofs.Least.{least, no_key}
use Rattle.octave_route.proofs.laws.class_laws.Goals as goal

pub returns-clause-least : goal.returns-clause-least
unfolding least_used
returns-clause-least c = least

pub returns-clause-none : goal.returns-clause-none
unfolding least_used
returns-clause-none c = no_key

pub returns-clause-refused : goal.returns-clause-refused
returns-clause-refused c = not_all_fit
