use Rattle.std.proofs.Common.{nat_eq}
use Rattle.retune_model.proofs.Moments.{timely}
use Rattle.retune_model.proofs.Alone.{part_alone, parts_within}
use Rattle.retune_model.proofs.rests.part_alone.Goals as goal

pub returns-clause-alone : goal.returns-clause-alone
returns-clause-alone c o part table port d timed = part_alone o part table port (λ b. nat_eq b d) (timely c.music_laws.ensures.age port timed)

pub returns-clause-within : goal.returns-clause-within
returns-clause-within c o part some table port timed = parts_within o part some table port (timely c.music_laws.ensures.age port timed)
