use Rattle.std.proofs.Common.{◌+◌, ℕ, arith, subst}
use Rattle.least_replay.specs.Columns.{weight}
use Rattle.least_replay.specs.CostView.{table_of}
use Rattle.least_replay.specs.Tree.{at, IsRelaxed}
use Rattle.least_replay.proofs.Nearness.{relaxed_next}
use Rattle.least_replay.proofs.Weights.{row_step}
use Rattle.least_replay.proofs.relaxing.relax_behind.Goals as goal

pub relax_step-requires-clause-near : goal.relax_step-requires-clause-near
relax_step-requires-clause-near c =
    omega (arith, c.loop-a.invariant.slack_above c.loop-a.a (omega arith), c.requires.near c.loop-a.a)

pub relax_step-requires-clause-fits : goal.relax_step-requires-clause-fits
relax_step-requires-clause-fits c =
    let e = row_step (table_of c.args.costs.now) c.args.r c.loop-a.a c.row-row.result.now c.row-row.ensures.whole c.requires.run
    c.loop-a-test.true c.row-row.ensures.each in
    omega (arith, e, c.requires.fits c.loop-a.a (omega arith))

pub loop-a-preserved : goal.loop-a-preserved
loop-a-preserved c =
    let e = row_step (table_of c.args.costs.now) c.args.r c.loop-a.a c.row-row.result.now c.row-row.ensures.whole c.requires.run
    c.loop-a-test.true c.row-row.ensures.each in
    relaxed_next 0 c.loop-a.a c.args.size c.args.u (λ j. weight (table_of c.args.costs.now) c.args.r j + at c.args.v.now j)
    c.args.slack.now c.loop-a.slack c.relax_step.new.slack c.args.from.now c.loop-a.from c.relax_step.new.from (omega arith) c.loop-a.invariant
    (subst (λ (n : ℕ). IsRelaxed c.args.size c.args.u (n + at c.args.v.now c.loop-a.a) (at c.loop-a.slack c.loop-a.a)
    (at c.relax_step.new.slack c.loop-a.a) (at c.loop-a.from c.loop-a.a) (at c.relax_step.new.from c.loop-a.a)) e c.relax_step.ensures.relaxed)
    c.relax_step.ensures.slack_still c.relax_step.ensures.from_still
