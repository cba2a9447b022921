use Rattle.std.proofs.Common.{◌≡◌, ℕ, List, arith, rules, length, subst}
use Rattle.least_replay.specs.Tree.{IsHole}
use Rattle.least_replay.specs.Columns.{weight, top}
use Rattle.least_replay.specs.CostView.{table_of}
use Rattle.least_replay.proofs.Trees.{reached}
use Rattle.least_replay.proofs.tree.grow.Goals as goal

pub returns-in-None : goal.returns-in-None
returns-in-None c =
    let rows : c.as_slice.result.now ≡ c.loop-r.rows.items = search rules in
    let same : length c.approach-j.new.slack ≡ length c.loop-r.from = omega arith in
    subst (λ (n : ℕ). IsHole (weight (table_of c.args.costs.now)) (top (table_of c.args.costs.now)) c.args.b n c.approach-j.new.u c.approach-j.new.v
    c.args.row_of.now c.args.col_of.now c.loop-r.rows.items c.loop-r.place c.loop-r.from c.approach-j.result) same
    (subst (λ (xs : List ℕ). IsHole (weight (table_of c.args.costs.now)) (top (table_of c.args.costs.now)) c.args.b (length c.approach-j.new.slack)
    c.approach-j.new.u c.approach-j.new.v c.args.row_of.now c.args.col_of.now xs c.loop-r.place c.loop-r.from c.approach-j.result) rows
    (reached _ _ _ _ _ _ _ _ _ _ _ _ c.approach-j.ensures.tree c.approach-j.result c.approach-j.ensures.within
    c.approach-j.ensures.tightly c.in-None.is))
