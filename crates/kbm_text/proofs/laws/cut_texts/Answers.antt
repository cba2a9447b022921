use Rattle.kbm_text.proofs.CutMappings.{cut_misses}
use Rattle.kbm_text.proofs.laws.cut_texts.Goals as goal

pub returns : goal.returns
returns c = cut_misses c.cuts.ensures
