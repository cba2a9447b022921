use Rattle.std.proofs.Common.{◌≡◌, ◌≤◌, ◌<◌, ◌+◌, ◌-◌, ℕ, arith, length, subst}
use Rattle.least_replay.specs.Cover.{Table}
use Rattle.least_replay.specs.Tree.{at, IsTree}
use Rattle.least_replay.specs.Columns.{weight, top}
use Rattle.least_replay.specs.CostView.{table_of}
use Rattle.least_replay.proofs.Trees.{near_low, rows_low, low_v, raised, outside}
use Rattle.least_replay.proofs.Weights.{top_low, weight_start}
use Rattle.least_replay.proofs.tree.approach.Goals as goal

spare_low : (t : Table) (b columns : ℕ) → t.runs ≤ b → columns ≡ b + 1 → (r : ℕ) → r < b + 1 → weight t r (columns - 1) ≤ top t r
spare_low t b columns h e r low =
    let f : weight t r (columns - 1) ≡ top t r = weight_start t r (columns - 1) (omega (arith, h, e)) in
    omega (arith, f)

pub raise-requires-clause-by_low : goal.raise-requires-clause-by_low
raise-requires-clause-by_low c =
    let t = c.requires.tree in
    let n : ℕ = length c.args.slack.now - 1 in
    let few : top (table_of c.args.costs.now) c.args.b ≤ 2000000391 =
    top_low (table_of c.args.costs.now) c.args.costs.now.low c.args.costs.now.matrix.few c.args.b in
    let low = spare_low (table_of c.args.costs.now) c.args.b (length c.args.slack.now) c.requires.end c.requires.columns in
    let last : at c.args.slack.now n ≤ top (table_of c.args.costs.now) c.args.b = near_low _ _ _ _ _ _ _ _ _ _ _ _ t (low c.args.b (omega arith)) in
    let least : at c.args.slack.now c.nearest-j.result ≤ at c.args.slack.now n =
    c.nearest-j.ensures.least n (omega (arith, t.one_more)) (outside _ _ _ _ _ _ _ _ _ _ _ _ t n t.spare) in
    omega (arith, last, least, few)

pub raise-requires-clause-u_low : goal.raise-requires-clause-u_low
raise-requires-clause-u_low c = λ r rl.
    rows_low _ _ _ _ _ _ _ _ _ _ _ _ c.requires.tree 2000000391
    (top_low (table_of c.args.costs.now) c.args.costs.now.low c.args.costs.now.matrix.few) r rl

pub raise-requires-clause-v_low : goal.raise-requires-clause-v_low
raise-requires-clause-v_low c = low_v _ _ _ _ _ _ _ _ _ _ _ _ c.requires.tree 2000000391
    (top_low (table_of c.args.costs.now) c.args.costs.now.low c.args.costs.now.matrix.few)

pub returns-clause-tree : goal.returns-clause-tree
returns-clause-tree c =
    let low = spare_low (table_of c.args.costs.now) c.args.b (length c.args.slack.now) c.requires.end c.requires.columns in
    let same : length c.args.slack.now ≡ length c.raise.new.slack = omega arith in
    subst (λ (n : ℕ). IsTree (weight (table_of c.args.costs.now)) (top (table_of c.args.costs.now)) c.args.b n c.raise.new.u c.raise.new.v
    c.args.row_of.now c.args.col_of.now c.args.rows.now c.args.place.now c.args.from.now c.raise.new.slack) same
    (raised _ _ _ _ _ _ _ _ _ _ _ _ c.requires.tree _ _ _ _ low c.raise.ensures)
