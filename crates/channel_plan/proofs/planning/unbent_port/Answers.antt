use Rattle.std.proofs.Common.{refl}
use Rattle.channel_plan.proofs.Ported.{unbent_plan}
use Rattle.channel_plan.proofs.planning.unbent_port.Goals as goal

pub returns-clause-plan : goal.returns-clause-plan
returns-clause-plan c = λ o allowed table es unbent zones pairs.
    unbent_plan o allowed table es c.args.port _ unbent refl refl refl c.new.ensures.items zones pairs
