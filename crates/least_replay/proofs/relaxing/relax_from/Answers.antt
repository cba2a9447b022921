use Rattle.std.proofs.Common.{◌+◌, ℕ, arith, subst}
use Rattle.least_replay.specs.Columns.{weight}
use Rattle.least_replay.specs.CostView.{table_of}
use Rattle.least_replay.specs.Tree.{at, IsRelaxed}
use Rattle.least_replay.proofs.Nearness.{relaxed_next}
use Rattle.least_replay.proofs.relaxing.relax_from.Goals as goal

pub loop-j-preserved : goal.loop-j-preserved
loop-j-preserved c = record {
  slack_whole = omega arith;
  from_whole = omega arith;
  nearer = relaxed_next c.args.first c.loop-j.j c.args.size c.args.u (λ j. weight (table_of c.args.costs.now) c.args.r j + at c.args.v.now j)
      c.args.slack.now c.loop-j.slack c.relax_one.new.slack c.args.from.now c.loop-j.from c.relax_one.new.from (omega arith) c.loop-j.invariant.nearer
      (subst (λ (n : ℕ). IsRelaxed c.args.size c.args.u (n + at c.args.v.now c.loop-j.j) (at c.loop-j.slack c.loop-j.j)
      (at c.relax_one.new.slack c.loop-j.j) (at c.loop-j.from c.loop-j.j) (at c.relax_one.new.from c.loop-j.j)) c.weigh_apart.ensures.value
      c.relax_one.ensures.relaxed)
      c.relax_one.ensures.slack_still c.relax_one.ensures.from_still;
}
