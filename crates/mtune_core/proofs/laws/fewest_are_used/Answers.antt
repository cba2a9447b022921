use Rattle.mtune_core.proofs.Same.{FewestLaws, bent_uses_fewest, zoned_uses_fewest}
use Rattle.mtune_core.proofs.laws.fewest_are_used.Goals as goal

pub returns : goal.returns
returns c =
    let laws : FewestLaws = record {
      planned_playable = c.planned_is_playable.ensures;
      in_order = c.playable_in_order.ensures.ticks;
      merged_again = c.distribution.ensures.merged_again;
      bend = c.bent_uses_fewest.ensures;
      mpe = c.zoned_uses_fewest.ensures;
    } in
    record { bend = bent_uses_fewest laws; mpe = zoned_uses_fewest laws }
