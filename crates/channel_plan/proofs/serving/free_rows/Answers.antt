use Rattle.std.proofs.Common.{◌≡◌, ◌∙◌, ◌&&◌, ℕ, Bool, suc, nat_eq, get_or, sym, ap, subst, arith}
use Rattle.std.proofs.lemmas.List.{length-set}
use Rattle.midi_model.specs.Sysex.{doing}
use Rattle.retune_model.specs.Ports.{of_port, is_reset_at, resets}
use Rattle.lifetimes.specs.Stands.{asked, table_in}
use Rattle.channel_plan.specs.Serving.{head, RowKept, RowFreed, number_on}
use Rattle.channel_plan.specs.declared.rowing.Used.{Used}
use Rattle.channel_plan.proofs.Each.{get_any, each_more, behind_more, get_behind, each_at, each_done, map_same}
use Rattle.channel_plan.proofs.Served.{head_same, runs_long, freed_row}
use Rattle.channel_plan.proofs.serving.free_rows.Goals as goal

pub loop-row-preserved : goal.loop-row-preserved
loop-row-preserved g c =
    let o = asked c.args.parts.now in
    let table = g.T.Aims.table (table_in c.args.parts.now) in
    let m = c.loop-row-test.true in
    let d = c.index-rows-row-in-loop-row.result in
    let w = get_any c.loop-row.rows c.loop-row.row d c.index-rows-row.result m in
    let u = get_or c.loop-row.rows c.loop-row.row d in
    let v = c.free.new.self in
    let long = length-set c.loop-row.rows c.loop-row.row v in
    let same = c.loop-row.invariant.same in
    let heads = head_same u v c.free.ensures.port c.free.ensures.part c.free.ensures.channels in
    let there = get_behind c.args.rows.now c.loop-row.rows c.loop-row.row d m same c.loop-row.invariant.behind in
    record {
      within = omega (arith, m, long);
      same = long ∙ same;
      behind = behind_more c.args.rows.now c.loop-row.rows c.loop-row.row v m same c.loop-row.invariant.behind;
      heads = map_same head c.loop-row.rows c.loop-row.row v d m heads ∙ c.loop-row.invariant.heads;
      done = λ es gs k e at comes stands tells port reset all.
          let was = subst (RowKept o table es gs k) (sym there) (each_at (RowKept o table es gs k) c.args.rows.now c.loop-row.row d (omega
          (arith, m, same)) all) in
          let here : is_reset_at (of_port u.port es) (suc k) ≡ c.is_here-here.result = c.event_laws.ensures.reset es u.port k e comes
          ∙ ap (λ (z : ℕ). nat_eq z u.port && resets (doing e.what)) (sym port)
          ∙ ap (λ (b : Bool). nat_eq c.args.port u.port && b) (sym reset)
          ∙ ap (λ (x : Used). nat_eq c.args.port x.port && c.args.is_reset) w
          ∙ sym c.is_here-here.ensures in
          each_more (RowFreed o table es gs k) c.loop-row.rows c.loop-row.row v m
          (c.loop-row.invariant.done es gs k e at comes stands tells port reset all)
          (freed_row o table es gs k u v heads (runs_long u.places.items v.places.items c.free.ensures.runs) was
          (λ row is plain. c.free.ensures.left es row (number_on o table es u.port) k e at stands was.ready.of comes tells is here (sym here ∙ plain))
          (λ row is none. c.free.ensures.stays es row (number_on o table es u.port) k e at stands was.ready.of comes tells is here none));
    }

pub returns-clause-rows : goal.returns-clause-rows
returns-clause-rows g c es gs k e at comes stands tells port reset all =
    each_done (RowFreed (asked c.args.parts.now) (g.T.Aims.table
    (table_in c.args.parts.now)) es gs k) c.loop-row.rows c.loop-row.row c.loop-row-test.false
    (c.loop-row.invariant.done es gs k e at comes stands tells port reset all)
