use Rattle.std.proofs.Common.{refl}
use Rattle.mtune_core.proofs.Surveyed.{found_with, found_without, key_of_some, none_of}
use Rattle.mtune_core.proofs.survey.Found.take.Goals as goal

pub returns-in-Some : goal.returns-in-Some
returns-in-Some c = λ o table es e told found. found_with o table es e c.args.change.now c.args.self.now _ c.in-Some.begun told found c.in-Some.is
    (key_of_some c.args.change.now.begun c.in-Some.begun c.in-Some.is c.requires.key) (c.take.ensures o table es e told found.noted) refl refl

pub returns-in_default : goal.returns-in_default
returns-in_default c = λ o table es e told found. found_without o table es e c.args.change.now c.args.self.now _ told found
    (none_of c.args.change.now.begun c.in_default.not-Some) (c.take.ensures o table es e told found.noted) refl refl
