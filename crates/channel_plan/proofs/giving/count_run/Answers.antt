use Rattle.std.proofs.Common.{◌≡◌, ◌∙◌, ◌<◌, ◌++◌, ◌+◌, map, take, drop, get_or, set, sym, subst, arith}
use Rattle.std.proofs.lemmas.List.{length-set}
use Rattle.std.proofs.lemmas.List.Edits.{map_over_more}
use Rattle.channel_plan.specs.Giving.{with_run}
use Rattle.channel_plan.specs.declared.plan.PortPlan.{PortPlan}
use Rattle.channel_plan.proofs.Each.{get_any, behind_more, get_behind, each_at}
use Rattle.channel_plan.proofs.giving.count_run.Goals as goal

pub count_on-requires : goal.count_on-requires
count_on-requires c =
    let m = c.loop-place-test.true in
    let d = c.index-ports-place.result in
    let same = c.loop-place.invariant.same in
    subst (λ (p : PortPlan). p.runs < 4294967295) (sym
    (get_behind c.args.ports.now c.loop-place.ports c.loop-place.place d m same c.loop-place.invariant.behind))
    (each_at (λ (p : PortPlan). p.runs < 4294967295) c.args.ports.now c.loop-place.place d (omega (arith, m, same)) c.requires)

pub loop-place-preserved : goal.loop-place-preserved
loop-place-preserved c =
    let m = c.loop-place-test.true in
    let d = c.index-ports-place.result in
    let u = get_or c.loop-place.ports c.loop-place.place d in
    let v = c.count_on.new.plan in
    let long = length-set c.loop-place.ports c.loop-place.place v in
    let same = c.loop-place.invariant.same in
    record {
      within = omega (arith, m, long);
      same = long ∙ same;
      behind = behind_more c.args.ports.now c.loop-place.ports c.loop-place.place v m same c.loop-place.invariant.behind;
      done = subst (λ x. set c.loop-place.ports c.loop-place.place x
          ≡ map (with_run c.args.port) (take (c.loop-place.place + 1) c.args.ports.now) ++ drop (c.loop-place.place + 1) c.args.ports.now)
          (sym c.count_on.ensures)
          (map_over_more (with_run c.args.port) c.args.ports.now c.loop-place.ports c.loop-place.place u (omega
          (arith, m, same)) c.loop-place.invariant.done
          (get_any c.loop-place.ports c.loop-place.place d u m));
    }
