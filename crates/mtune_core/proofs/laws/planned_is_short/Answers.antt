use Rattle.mtune_core.proofs.Plans.{planned_is_short}
use Rattle.mtune_core.proofs.laws.planned_is_short.Goals as goal

pub returns : goal.returns
returns c = planned_is_short (record {
  order = c.playable_in_order.ensures.ticks;
  serve = c.plans_serve.ensures.serve;
  bend = c.bend_plays_the_same.ensures.few_bytes;
  mpe = c.mpe_plays_the_same.ensures.few_bytes;
  short = record {
    kept = c.merged_order.ensures.each_track;
    tracks = c.file_laws.ensures.tracks;
    within_most = c.size_laws.ensures.written;
    within_file = c.size_laws.ensures.track;
    few_events = c.size_laws.ensures.events;
  };
})
