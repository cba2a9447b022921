use Rattle.mtune_core.proofs.Plans.{planned_is_playable}
use Rattle.mtune_core.proofs.laws.planned_is_playable.Goals as goal

pub returns : goal.returns
returns c = planned_is_playable (record {
  order = c.playable_in_order.ensures.ticks;
  serve = c.plans_serve.ensures.serve;
  bend = c.bend_plays_the_same.ensures.playable;
  mpe = c.mpe_plays_the_same.ensures.playable;
})
