use Rattle.std.proofs.Common.{◌≡◌, true, rules, sym, ◌∙◌, subst, arith}
use Rattle.std.proofs.Math.Seq.{map-set_same}
use Rattle.std.proofs.lemmas.List.{length-set, length-map}
use Rattle.lifetimes.specs.Stands.{asked, table_in}
use Rattle.lifetimes.specs.Told.{is_held}
use Rattle.plan_laws.specs.Placing.{seen_at, leave}
use Rattle.plan_laws.specs.Rows.{leaves_by}
use Rattle.channel_plan.specs.declared.choice.Place.{Place}
use Rattle.channel_plan.specs.Counts.{IsKept}
use Rattle.channel_plan.specs.Seeing.{seen, all_seen, IsPartOn, IsKeptOn}
use Rattle.channel_plan.proofs.Seen.{one_done, still_there, then_some, all_held}
use Rattle.channel_plan.proofs.places.leave_all.Goals as goal

pub loop-place-preserved : goal.loop-place-preserved
loop-place-preserved g c =
    let long = length-set c.loop-place.places c.loop-place.place c.leave_one.new.place in
    let m = c.loop-place-test.true in
    let same = c.loop-place.invariant.same ∙ sym (length-map c.args.places.now seen) in
    let d = c.index-places-place.result in
    record {
      within = omega (arith, m, long);
      same = long ∙ c.loop-place.invariant.same;
      runs = map-set_same (λ (p : Place). p.run) c.loop-place.places c.loop-place.place c.leave_one.new.place c.index-places-place.result
          c.leave_one.ensures.run ∙ c.loop-place.invariant.runs;
      done = λ es stands parts kept.
          let f = (leave (is_held (asked c.args.parts.now) (g.T.Aims.table (table_in c.args.parts.now)) es) (leaves_by (asked c.args.parts.now)
          (g.T.Aims.table (table_in c.args.parts.now)) es) c.args.position) in
          let before = c.loop-place.invariant.done es stands parts kept in
          let there = still_there f (all_seen c.args.places.now) c.loop-place.places c.loop-place.place d m same before in
          one_done f (all_seen c.args.places.now) c.loop-place.places c.loop-place.place d c.leave_one.new.place m same before
          (c.leave_one.ensures.seen es stands (subst (IsPartOn (asked c.args.parts.now)) (sym there) (parts c.loop-place.place))
          (λ calm. subst (IsKeptOn c.args.ended.now (is_held (asked c.args.parts.now) (g.T.Aims.table (table_in c.args.parts.now)) es)) (sym there)
          (kept calm c.loop-place.place)));
    }

-- no note ended, so no pair goes
pub returns-then-ends_none-clause-seen : goal.returns-then-ends_none-clause-seen
returns-then-ends_none-clause-seen g c es stands parts kept =
    let o = asked c.args.parts.now in
    let table = g.T.Aims.table (table_in c.args.parts.now) in
    let ss = all_seen c.args.places.now in
    let holds = is_held o table es in
    sym (all_held holds (leaves_by o table es) c.args.position ss
    (λ d. then_some (seen_at ss d).pair (IsKept c.args.ended.now holds) (λ p. holds p ≡ true)
    (λ p still. still (c.ends_none.ensures (search rules) p.part.channel)) (kept (search rules) d)))
