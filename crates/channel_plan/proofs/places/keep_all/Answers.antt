use Rattle.std.proofs.Common.{sym, ◌∙◌, subst, arith}
use Rattle.std.proofs.Math.Seq.{map-set_same}
use Rattle.std.proofs.lemmas.List.{length-set, length-map}
use Rattle.lifetimes.specs.Stands.{asked, table_in}
use Rattle.lifetimes.specs.Told.{is_sounding}
use Rattle.plan_laws.specs.Rows.{needed, keep}
use Rattle.channel_plan.specs.declared.choice.Place.{Place}
use Rattle.channel_plan.specs.Seeing.{seen, all_seen, IsPartOn}
use Rattle.channel_plan.proofs.Seen.{one_done, still_there}
use Rattle.channel_plan.proofs.places.keep_all.Goals as goal

pub loop-place-preserved : goal.loop-place-preserved
loop-place-preserved g c =
    let long = length-set c.loop-place.places c.loop-place.place c.keep_one.new.place in
    let m = c.loop-place-test.true in
    let same = c.loop-place.invariant.same ∙ sym (length-map c.args.places.now seen) in
    let d = c.index-places-place.result in
    record {
      within = omega (arith, m, long);
      same = long ∙ c.loop-place.invariant.same;
      runs = map-set_same (λ (p : Place). p.run) c.loop-place.places c.loop-place.place c.keep_one.new.place c.index-places-place.result
          c.keep_one.ensures.run ∙ c.loop-place.invariant.runs;
      done = λ es stands parts.
          let f = (keep (is_sounding (asked c.args.parts.now) (g.T.Aims.table (table_in c.args.parts.now)) es) (needed (asked c.args.parts.now)
          (g.T.Aims.table (table_in c.args.parts.now)) es)) in
          let before = c.loop-place.invariant.done es stands parts in
          let there = still_there f (all_seen c.args.places.now) c.loop-place.places c.loop-place.place d m same before in
          one_done f (all_seen c.args.places.now) c.loop-place.places c.loop-place.place d c.keep_one.new.place m same before
          (c.keep_one.ensures.seen es stands (subst (IsPartOn (asked c.args.parts.now)) (sym there) (parts c.loop-place.place)));
    }
