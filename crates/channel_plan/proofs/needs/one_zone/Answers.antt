use Rattle.std.proofs.Common.{false}
use Rattle.channel_model.specs.MpeOutput.{zone_with}
use Rattle.channel_model.specs.Rows.{only}
use Rattle.channel_plan.specs.Refused.{too_many_of}
use Rattle.channel_plan.proofs.Finding.{one_fits, one_refused}
use Rattle.channel_plan.proofs.needs.one_zone.Goals as goal

pub returns-clause-plan : goal.returns-clause-plan
returns-clause-plan c = λ o table es drums zones is.
    let zone = zone_with false (c.args.part, c.args.counter.now.need) in
    one_fits o table es c.args.port c.args.drums zone c.in_ok-plan.plan c.in_ok-zones.zones.items c.lower_allowed.result drums zones c.in_ok-zones.ensures.zones
    (c.in_ok-plan.ensures.zone o table es is) (c.lower_allowed.ensures.alone zone) (c.in_default.ensures.none o (only c.args.part) table es is)

pub returns-in-Some-clause-fault : goal.returns-in-Some-clause-fault
returns-in-Some-clause-fault c = λ o table es drums zones is.
    let zone = zone_with false (c.args.part, c.args.counter.now.need) in
    one_refused o table es c.args.port c.args.drums zone c.lower_allowed.result (too_many_of c.in-Some.fault) drums zones
    (c.lower_allowed.ensures.alone zone) (c.in-Some.ensures.some o (only c.args.part) table es is)
