use Rattle.scl_text.proofs.CutScales.{cut_misses}
use Rattle.scl_text.proofs.laws.cut_texts.Goals as goal

pub returns : goal.returns
returns c = cut_misses c.cuts.ensures
