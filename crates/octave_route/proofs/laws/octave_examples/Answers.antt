use Rattle.std.proofs.Common.{refl}
use Rattle.octave_route.specs.Classes.{least_used}
use Rattle.octave_route.proofs.laws.octave_examples.Goals as goal

pub returns-clause-least_key : goal.returns-clause-least_key
unfolding least_used
returns-clause-least_key c = refl

pub returns-clause-no_key : goal.returns-clause-no_key
unfolding least_used
returns-clause-no_key c = refl

pub returns-clause-output : goal.returns-clause-output
returns-clause-output c = refl
