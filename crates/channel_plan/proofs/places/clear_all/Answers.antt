use Rattle.std.proofs.Common.{sym, ◌∙◌, arith}
use Rattle.std.proofs.Math.Seq.{map-set_same}
use Rattle.std.proofs.lemmas.List.{length-set, length-map}
use Rattle.plan_laws.specs.Placing.{clear}
use Rattle.channel_plan.specs.declared.choice.Place.{Place}
use Rattle.channel_plan.specs.Seeing.{seen, all_seen}
use Rattle.channel_plan.proofs.Seen.{one_done}
use Rattle.channel_plan.proofs.places.clear_all.Goals as goal

pub loop-place-preserved : goal.loop-place-preserved
loop-place-preserved c =
    let long = length-set c.loop-place.places c.loop-place.place c.clear_one.new.place in
    let m = c.loop-place-test.true in
    record {
      within = omega (arith, m, long);
      same = long ∙ c.loop-place.invariant.same;
      runs = map-set_same (λ (p : Place). p.run) c.loop-place.places c.loop-place.place c.clear_one.new.place c.index-places-place.result
          c.clear_one.ensures.run ∙ c.loop-place.invariant.runs;
      done = one_done (clear c.args.position) (all_seen c.args.places.now) c.loop-place.places c.loop-place.place c.index-places-place.result
          c.clear_one.new.place m
          (c.loop-place.invariant.same ∙ sym (length-map c.args.places.now seen)) c.loop-place.invariant.done c.clear_one.ensures.seen;
    }
