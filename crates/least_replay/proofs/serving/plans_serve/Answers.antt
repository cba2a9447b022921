use Rattle.least_replay.proofs.Serves.{serves}
use Rattle.least_replay.proofs.serving.plans_serve.Goals as goal

pub returns : goal.returns
returns c = serves c.best_is_free.ensures.shortest
