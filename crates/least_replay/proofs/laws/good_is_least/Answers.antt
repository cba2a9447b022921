use Rattle.least_replay.proofs.Duality.{law}
use Rattle.least_replay.proofs.laws.good_is_least.Goals as goal

pub returns : goal.returns
returns c = law
