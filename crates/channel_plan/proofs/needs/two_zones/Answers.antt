use Rattle.std.proofs.Common.{true, false, refl}
use Rattle.channel_model.specs.MpeOutput.{zone_with}
use Rattle.channel_model.specs.Rows.{only}
use Rattle.channel_plan.specs.Refused.{too_many_of}
use Rattle.channel_plan.proofs.Finding.{two_fit, lower_refused, upper_refused}
use Rattle.channel_plan.proofs.needs.two_zones.Goals as goal

pub returns-clause-plan : goal.returns-clause-plan
returns-clause-plan c = λ o table es drums zones lower upper.
    let l = zone_with false (c.args.lower, c.args.lower_pairs.now.need) in
    let u = zone_with true (c.args.upper, c.args.upper_pairs.now.need) in
    two_fit o table es c.args.port c.args.drums l u c.in_ok-lower_plan.lower_plan c.in_ok-upper_plan.upper_plan c.in_ok-zones.zones.items
    c.lower_allowed-room.result c.upper_allowed.result drums zones c.in_ok-zones.ensures.zones
    (c.in_ok-lower_plan.ensures.zone o table es lower) (c.in_ok-upper_plan.ensures.zone o table es upper)
    (c.lower_allowed-room.ensures.both l u refl) c.upper_allowed.ensures.allowed
    (c.in_default.ensures.none o (only c.args.lower) table es lower) (c.in_default-refused.ensures.none o (only c.args.upper) table es upper)

pub returns-in-Some-clause-fault : goal.returns-in-Some-clause-fault
returns-in-Some-clause-fault c = λ o table es drums zones lower upper.
    let l = zone_with false (c.args.lower, c.args.lower_pairs.now.need) in
    let u = zone_with true (c.args.upper, c.args.upper_pairs.now.need) in
    lower_refused o table es c.args.port c.args.drums l u c.lower_allowed-room.result (too_many_of c.in-Some.fault) drums zones
    (c.lower_allowed-room.ensures.both l u refl) (c.in-Some.ensures.some o (only c.args.lower) table es lower)

pub returns-in-Some-refused-clause-fault : goal.returns-in-Some-refused-clause-fault
returns-in-Some-refused-clause-fault c = λ o table es drums zones lower upper.
    let l = zone_with false (c.args.lower, c.args.lower_pairs.now.need) in
    let u = zone_with true (c.args.upper, c.args.upper_pairs.now.need) in
    upper_refused o table es c.args.port c.args.drums l u c.lower_allowed-room.result c.upper_allowed.result (too_many_of c.in-Some-refused.fault) drums zones
    (c.lower_allowed-room.ensures.both l u refl) c.upper_allowed.ensures.allowed
    (c.in_default.ensures.none o (only c.args.lower) table es lower) (c.in-Some-refused.ensures.some o (only c.args.upper) table es upper)
