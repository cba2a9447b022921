use Rattle.octave_route.proofs.Sizes.{is_playable}
use Rattle.octave_route.proofs.laws.octaved_is_playable.Goals as goal

pub returns : goal.returns
returns c = is_playable
