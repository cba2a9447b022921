use Rattle.std.proofs.Common.{arith}
use Rattle.least_replay.specs.CostView.{table_of}
use Rattle.least_replay.proofs.Weights.{weight_end, weight_start, top_end}
use Rattle.least_replay.proofs.relaxing.weigh_end.Goals as goal

pub returns-then-j-runs-clause-value : goal.returns-then-j-runs-clause-value
returns-then-j-runs-clause-value c =
    omega (arith, c.count_over.ensures, weight_end (table_of c.args.costs.now) c.args.r c.args.j (omega arith) c.requires.end)

pub returns-else-j-runs-clause-value : goal.returns-else-j-runs-clause-value
returns-else-j-runs-clause-value c =
    omega (
      arith,
      c.count_over-else-j-runs.ensures,
      weight_start (table_of c.args.costs.now) c.args.r c.args.j (omega arith),
      top_end (table_of c.args.costs.now) c.args.r c.requires.end,
    )
