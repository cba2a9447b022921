use Rattle.std.proofs.Common.{arith}
use Rattle.least_replay.specs.CostView.{table_of}
use Rattle.least_replay.proofs.Weights.{apart_start}
use Rattle.least_replay.proofs.relaxing.weigh_apart.Goals as goal

pub returns-then-r-runs-clause-value : goal.returns-then-r-runs-clause-value
returns-then-r-runs-clause-value c =
    omega (arith, c.count_over.ensures, c.start.ensures, apart_start (table_of c.args.costs.now) c.args.r c.args.j (omega arith) c.requires.end)
