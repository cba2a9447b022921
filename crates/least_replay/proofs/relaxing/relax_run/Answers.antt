use Rattle.std.proofs.Common.{◌≡◌, ◌+◌, ℕ, arith, length, subst, sym}
use Rattle.least_replay.specs.Columns.{weight, IsNearer}
use Rattle.least_replay.specs.CostView.{table_of}
use Rattle.least_replay.specs.Tree.{at, IsRelaxed}
use Rattle.least_replay.proofs.Nearness.{relaxed_on, relaxed_next, relaxed_past}
use Rattle.least_replay.proofs.Weights.{weight_own, weight_past, ahead}
use Rattle.least_replay.proofs.relaxing.relax_run.Goals as goal

pub relax_one-requires-clause-fits : goal.relax_one-requires-clause-fits
relax_one-requires-clause-fits c =
    omega (arith, c.requires.fits c.args.r (omega arith), weight_own (table_of c.args.costs.now) c.args.r c.requires.run)

pub returns : goal.returns
returns c =
    let own : weight (table_of c.args.costs.now) c.args.r c.args.r ≡ 0 = weight_own (table_of c.args.costs.now) c.args.r c.requires.run in
    let near : IsNearer (table_of c.args.costs.now) c.args.r 0 (c.args.r + 1) c.args.size c.args.u c.args.v.now c.args.slack.now c.relax_one.new.slack
    c.args.from.now c.relax_one.new.from =
    relaxed_next 0 c.args.r c.args.size c.args.u (λ j. weight (table_of c.args.costs.now) c.args.r j + at c.args.v.now j)
    c.args.slack.now c.relax_behind.new.slack c.relax_one.new.slack c.args.from.now c.relax_behind.new.from c.relax_one.new.from
    (omega arith) c.relax_behind.ensures
    (subst (λ (n : ℕ). IsRelaxed c.args.size c.args.u (n + at c.args.v.now c.args.r) (at c.relax_behind.new.slack c.args.r)
    (at c.relax_one.new.slack c.args.r) (at c.relax_behind.new.from c.args.r) (at c.relax_one.new.from c.args.r))
    (sym own) c.relax_one.ensures.relaxed)
    c.relax_one.ensures.slack_still c.relax_one.ensures.from_still in
    let past : IsNearer (table_of c.args.costs.now) c.args.r (c.args.r + 1) (table_of c.args.costs.now).runs c.args.size c.args.u c.args.v.now
    c.relax_one.new.slack c.relax_one.new.slack c.relax_one.new.from c.relax_one.new.from =
    relaxed_past _ _ _ _ (λ j. weight (table_of c.args.costs.now) c.args.r j + at c.args.v.now j) _ _
    (λ j g l.
    let far : weight (table_of c.args.costs.now) c.args.r j ≡ 10000000000 =
    weight_past (table_of c.args.costs.now) (ahead c.args.costs.now) c.args.r j (omega (arith, g)) l in
    omega (arith, far, near.slack_above j g, c.requires.near j, c.requires.u_low)) in
    let runs : c.runs.result ≡ (table_of c.args.costs.now).runs = c.runs.ensures.value in
    let same : length c.relax_one.new.slack ≡ length c.args.slack.now = omega arith in
    relaxed_on 0 (table_of c.args.costs.now).runs (length c.args.slack.now) c.args.size c.args.u
    (λ j. weight (table_of c.args.costs.now) c.args.r j + at c.args.v.now j)
    c.args.slack.now c.relax_one.new.slack c.relax_from.new.slack c.args.from.now c.relax_one.new.from c.relax_from.new.from
    (omega arith) (omega arith)
    (relaxed_on 0 (c.args.r + 1) (table_of c.args.costs.now).runs c.args.size c.args.u
    (λ j. weight (table_of c.args.costs.now) c.args.r j + at c.args.v.now j)
    c.args.slack.now c.relax_one.new.slack c.relax_one.new.slack c.args.from.now c.relax_one.new.from c.relax_one.new.from (omega arith)
    (omega (arith, c.requires.run)) near past)
    (subst (λ (n : ℕ). IsNearer (table_of c.args.costs.now) c.args.r n (length c.args.slack.now) c.args.size c.args.u c.args.v.now
    c.relax_one.new.slack c.relax_from.new.slack c.relax_one.new.from c.relax_from.new.from) runs
    (subst (λ (n : ℕ). IsNearer (table_of c.args.costs.now) c.args.r c.runs.result n c.args.size c.args.u c.args.v.now c.relax_one.new.slack
    c.relax_from.new.slack c.relax_one.new.from c.relax_from.new.from) same c.relax_from.ensures))
