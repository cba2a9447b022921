use Rattle.std.proofs.Common.{subst}
use Rattle.channel_plan.specs.Layouts.{IsLayoutOf}
use Rattle.channel_plan.proofs.Ported.{mpe_of, in_some, in_none}
use Rattle.channel_plan.proofs.planning.crowded_on.Goals as goal

pub returns-in-Mpe-clause-some : goal.returns-in-Mpe-clause-some
returns-in-Mpe-clause-some c = λ o table es is of. in_some c.crowded.result (λ x h. (mpe_of o.route (subst (IsLayoutOf o.route) c.in-Mpe.is of), h))
    (c.crowded.ensures.some o table es is)

pub returns-in-Mpe-clause-none : goal.returns-in-Mpe-clause-none
returns-in-Mpe-clause-none c = λ o table es is of. in_none c.crowded.result (λ h mpe. h) (c.crowded.ensures.none o table es is)
