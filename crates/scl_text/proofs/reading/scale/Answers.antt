use Rattle.scl_text.proofs.Scales.{kept}
use Rattle.scl_text.proofs.reading.scale.Goals as goal

pub invariant_of-result : goal.invariant_of-result
invariant_of-result c = kept c.prefixes.ensures c.numbers.ensures c.decimals.ensures _ _ _ c.in_ok-entries.ensures
