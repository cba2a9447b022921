use Rattle.mpe_route.proofs.Unbent.{none_begun, all_level}
use Rattle.mpe_route.proofs.kept.Kept.new.Goals as goal

pub returns-clause-begun : goal.returns-clause-begun
returns-clause-begun c = none_begun

pub returns-clause-bends : goal.returns-clause-bends
returns-clause-bends c = all_level
