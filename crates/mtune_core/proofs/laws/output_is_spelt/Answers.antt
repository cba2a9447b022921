use Rattle.mtune_core.proofs.Same.{output_is_spelt}
use Rattle.mtune_core.proofs.laws.output_is_spelt.Goals as goal

pub returns : goal.returns
returns c = output_is_spelt (record {
  short = c.routed_is_short.ensures.tracks;
  playable = c.routed_is_playable.ensures;
  planned_short = c.planned_is_short.ensures;
  planned_playable = c.planned_is_playable.ensures;
  spelt = c.writing_laws.ensures.spells;
})
