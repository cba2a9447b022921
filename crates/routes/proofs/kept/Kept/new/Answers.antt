use Rattle.routes.proofs.States.{told_new}
use Rattle.routes.proofs.kept.Kept.new.Goals as goal

pub returns : goal.returns
returns c = told_new
