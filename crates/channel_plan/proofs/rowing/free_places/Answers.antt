use Rattle.std.proofs.Common.{◌≡◌, ◌+◌, [], ◌∷◌, length, sym, subst, arith}
use Rattle.std.proofs.lemmas.List.{length-append}
use Rattle.plan_laws.specs.PlacingLaws.{AllAreNowhere}
use Rattle.channel_plan.specs.Seeing.{all_seen}
use Rattle.channel_plan.proofs.Seen.{nowhere_more}
use Rattle.channel_plan.proofs.rowing.free_places.Goals as goal

pub loop-made-preserved : goal.loop-made-preserved
loop-made-preserved c =
    let more = c.in_ok-push.ensures.items in
    record {
      within = (let m = c.loop-made-test.true in omega (arith, m));
      long = subst (λ xs. length xs ≡ c.loop-made.made + 1) (sym more) (let e = length-append c.loop-made.places.items (c.free_place.result ∷ []) in
          let l = c.loop-made.invariant.long in omega (arith, e, l));
      free = subst (λ xs. AllAreNowhere (all_seen xs)) (sym more) (nowhere_more c.loop-made.places.items c.free_place.result
          c.loop-made.invariant.free c.free_place.ensures);
    }
