use Rattle.mtune_core.proofs.Same.{output_plays_the_same}
use Rattle.mtune_core.proofs.laws.output_plays_the_same.Goals as goal

pub returns : goal.returns
returns c = output_plays_the_same (record {
  playable = c.routed_is_playable.ensures;
  same = c.routed_plays_the_same.ensures.file;
  planned_playable = c.planned_is_playable.ensures;
  serve = c.plans_serve.ensures.serve;
  bend = c.bend_plays_the_same.ensures.file;
  mpe = c.mpe_plays_the_same.ensures.file;
  in_order = c.playable_in_order.ensures.ticks;
  merged_again = c.distribution.ensures.merged_again;
})
