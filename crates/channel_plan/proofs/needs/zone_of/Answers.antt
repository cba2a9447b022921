use Rattle.channel_model.specs.Rows.{only}
use Rattle.channel_plan.proofs.Finding.{finds, zone_on_part}
use Rattle.channel_plan.proofs.needs.zone_of.Goals as goal

pub returns-clause-plan : goal.returns-clause-plan
returns-clause-plan c = λ o table es drums parts is.
    let found = finds c.need_laws.ensures.determined c.fewest_channels.ensures.counted o (only c.args.part) table es c.args.port c.args.counter.now is in
    c.one_zone.ensures.plan o table es drums (zone_on_part o table es c.args.port c.args.part c.args.counter.now.need parts found.number) is

pub returns-clause-fault : goal.returns-clause-fault
returns-clause-fault c = λ o table es drums parts is.
    let found = finds c.need_laws.ensures.determined c.fewest_channels.ensures.counted o (only c.args.part) table es c.args.port c.args.counter.now is in
    c.one_zone.ensures.fault o table es drums (zone_on_part o table es c.args.port c.args.part c.args.counter.now.need parts found.number) is
