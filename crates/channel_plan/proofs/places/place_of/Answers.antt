use Rattle.std.proofs.Common.{◌≡◌, true, ap, ◌∙◌, arith}
use Rattle.lifetimes.specs.Views.{pair_of}
use Rattle.channel_plan.specs.Seeing.{seen}
use Rattle.channel_plan.proofs.Seen.{none_yet}
use Rattle.channel_plan.proofs.places.place_of.Goals as goal

pub loop-place-preserved : goal.loop-place-preserved
loop-place-preserved c = record {
  within = (let m = c.loop-place-test.true in omega (arith, m));
  none = none_yet c.args.places.now c.loop-place.place c.index-places-place.result (pair_of c.args.pair.now) c.loop-place-test.true
      (λ h. (let has : c.has.result ≡ true = c.has.ensures.1 (ap (λ p. (seen p).pair) c.index-places-place.is
      ∙ h) in let not = c.if-has.false in absurd cc))
      c.loop-place.invariant.none;
}
