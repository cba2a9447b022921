use Rattle.std.proofs.Common.{refl}
use Rattle.routes.specs.Putting.{put_all}
use Rattle.mpe_route.proofs.translating.put_setup.Goals as goal

pub returns-else-wanted-clause-put : goal.returns-else-wanted-clause-put
unfolding put_all
returns-else-wanted-clause-put c = rw c.if-wanted.false refl
