use Rattle.std.proofs.Common.{◌≡◌, ◌<◌, ◌≤◌, ◌+◌, ◌-◌, ℕ, List, arith, subst, sym, ◌∙◌}
use Rattle.std.specs.Prelude.{Option}
use Rattle.least_replay.specs.Cover.{Table}
use Rattle.least_replay.specs.Columns.{weight, top, over, IsPaired}
use Rattle.least_replay.specs.CostView.{table_of}
use Rattle.least_replay.specs.Costs.{AreLow}
use Rattle.least_replay.specs.Tree.{at}
use Rattle.least_replay.proofs.Trees.{settled, low_column}
use Rattle.least_replay.proofs.Settled.{least_run, least_column, settled_numbers}
use Rattle.least_replay.proofs.Weights.{ahead, weight_own, top_run, top_low}
use Rattle.least_replay.proofs.solver.take_in.Goals as goal

pub loop-b-init : goal.loop-b-init
loop-b-init c =
    let runs : c.runs-runs.result ≡ (table_of c.args.costs.now).runs = c.runs-runs.ensures.value in
    record {
      u_whole = omega arith;
      v_whole = omega arith;
      rows_whole = omega arith;
      columns_whole = omega arith;
      paired = subst (λ (n : ℕ). IsPaired (table_of c.args.costs.now) n c.args.u.now c.args.v.now c.leave_out.new.row_of c.leave_out.new.col_of)
          (sym runs)
          (settled (weight (table_of c.args.costs.now)) (top (table_of c.args.costs.now)) (table_of c.args.costs.now).runs _ _ _ _
          (weight_own (table_of c.args.costs.now)) c.requires.u_zero c.requires.v_zero
          (λ j l. c.leave_out.ensures.row j (omega (arith, l, runs)))
          (λ j g. c.leave_out.ensures.row_still j (omega (arith, g, runs)) ∙ c.requires.none j)
          (λ b l. c.leave_out.ensures.column b (omega (arith, l, runs))));
    }

all_paired : (t : Table) (n : ℕ) (u v : List ℕ) (row_of : List (Option ℕ)) (col_of : List ℕ) → n ≡ t.runs + t.starts
    → IsPaired t n u v row_of col_of →
    IsPaired t (t.runs + t.starts) u v row_of col_of
all_paired t n u v row_of col_of e m = subst (λ (x : ℕ). IsPaired t x u v row_of col_of) e m

row_low : (t : Table) → AreLow t → (u v : List ℕ) (row_of : List (Option ℕ)) (col_of : List ℕ) → IsPaired t (t.runs + t.starts) u v row_of col_of →
    (b : ℕ) → b < t.runs → at u b ≤ 391 + over b
row_low t low u v row_of col_of m b bl =
    let l : at u b ≤ top t b = m.low b (omega (arith, bl)) in
    omega (arith, l, top_run t b bl, low.start b bl)

pub lower_rows-requires-clause-low : goal.lower_rows-requires-clause-low
lower_rows-requires-clause-low c =
    let m = all_paired (table_of c.args.costs.now) _ _ _ _ _ (omega arith) c.loop-b.invariant.paired in
    λ b bl. row_low (table_of c.args.costs.now) c.args.costs.now.low _ _ _ _ m b (omega (arith, bl, c.runs-runs.ensures.value))

pub lower_rows-requires-clause-room : goal.lower_rows-requires-clause-room
lower_rows-requires-clause-room c =
    let m = all_paired (table_of c.args.costs.now) _ _ _ _ _ (omega arith) c.loop-b.invariant.paired in
    let runs : c.runs-runs.result ≡ (table_of c.args.costs.now).runs = c.runs-runs.ensures.value in
    λ b bl. omega (
      arith,
      runs,
      least_run (table_of c.args.costs.now) (ahead c.args.costs.now) _ _ _ _ m c.first_end-least.result
          c.first_end-least.ensures.none c.first_end-least.ensures.some b (omega (arith, bl, runs)),
    )

pub lower_columns-requires-clause-low : goal.lower_columns-requires-clause-low
lower_columns-requires-clause-low c =
    let m = all_paired (table_of c.args.costs.now) _ _ _ _ _ (omega arith) c.loop-b.invariant.paired in
    low_column _ _ _ _ _ _ _ _ m 2000000391 (top_low (table_of c.args.costs.now) c.args.costs.now.low c.args.costs.now.matrix.few)

pub lower_columns-requires-clause-room : goal.lower_columns-requires-clause-room
lower_columns-requires-clause-room c =
    let m = all_paired (table_of c.args.costs.now) _ _ _ _ _ (omega arith) c.loop-b.invariant.paired in
    λ j jl. least_column (table_of c.args.costs.now) (ahead c.args.costs.now) _ _ _ _ m c.first_end-least.result c.first_end-least.ensures.none
    c.first_end-least.ensures.some j (omega (arith, jl))

pub returns : goal.returns
returns c =
    let m = all_paired (table_of c.args.costs.now) _ _ _ _ _ (omega arith) c.loop-b.invariant.paired in
    let runs : c.runs-runs.result ≡ (table_of c.args.costs.now).runs = c.runs-runs.ensures.value in
    settled_numbers (table_of c.args.costs.now) (ahead c.args.costs.now) _ _ _ _ m c.first_end-least.result c.first_end-least.ensures.none
    c.first_end-least.ensures.some
    _ _ (omega arith) (omega arith) (omega arith)
    (λ b bl. let e : at c.lower_rows.new.u b + c.first_end-least.result ≡ at c.loop-b.u b + over (c.runs-runs.result - b) =
    c.lower_rows.ensures b (omega (arith, bl, runs)) in omega (arith, e, runs))
    (λ j jl. c.lower_columns.ensures j (omega (arith, jl)))
