use Rattle.mt_base.proofs.Pitches.{ends_in_order}
use Rattle.mt_base.proofs.laws.ends.Goals as goal

pub returns : goal.returns
returns c = record { in_order = ends_in_order }
