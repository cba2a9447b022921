use Rattle.std.proofs.Common.{◌∙◌, get_or, sym, subst, arith}
use Rattle.std.proofs.lemmas.List.{length-set}
use Rattle.lifetimes.specs.Stands.{asked, table_in}
use Rattle.channel_plan.specs.Serving.{head, RowStands, RowKept, number_on}
use Rattle.channel_plan.proofs.Each.{each_more, behind_more, get_behind, each_at, each_done, map_same}
use Rattle.channel_plan.proofs.Served.{head_same, runs_long, kept_row}
use Rattle.channel_plan.proofs.serving.keep_rows.Goals as goal

pub loop-row-preserved : goal.loop-row-preserved
loop-row-preserved g c =
    let o = asked c.args.parts.now in
    let table = g.T.Aims.table (table_in c.args.parts.now) in
    let m = c.loop-row-test.true in
    let d = c.index-rows-row.result in
    let u = get_or c.loop-row.rows c.loop-row.row d in
    let v = c.keep.new.self in
    let long = length-set c.loop-row.rows c.loop-row.row v in
    let same = c.loop-row.invariant.same in
    let heads = head_same u v c.keep.ensures.port c.keep.ensures.part c.keep.ensures.channels in
    let there = get_behind c.args.rows.now c.loop-row.rows c.loop-row.row d m same c.loop-row.invariant.behind in
    record {
      within = omega (arith, m, long);
      same = long ∙ same;
      behind = behind_more c.args.rows.now c.loop-row.rows c.loop-row.row v m same c.loop-row.invariant.behind;
      heads = map_same head c.loop-row.rows c.loop-row.row v d m heads ∙ c.loop-row.invariant.heads;
      done = λ es gs k stands all.
          let was = subst (RowStands o table es gs k) (sym there) (each_at (RowStands o table es gs k) c.args.rows.now c.loop-row.row d (omega
          (arith, m, same)) all) in
          each_more (RowKept o table es gs k) c.loop-row.rows c.loop-row.row v m (c.loop-row.invariant.done es gs k stands all)
          (kept_row o table es gs k u v heads (runs_long u.places.items v.places.items c.keep.ensures.runs) was
          (λ row is. c.keep.ensures.kept es row (number_on o table es u.port) k stands was.ready.of is));
    }

pub returns-clause-rows : goal.returns-clause-rows
returns-clause-rows g c es gs k stands all =
    each_done (RowKept (asked c.args.parts.now) (g.T.Aims.table
    (table_in c.args.parts.now)) es gs k) c.loop-row.rows c.loop-row.row c.loop-row-test.false
    (c.loop-row.invariant.done es gs k stands all)
