use Rattle.channel_model.specs.Rows.{only}
use Rattle.channel_plan.proofs.Finding.{finds, first_is_lower, second_is_lower}
use Rattle.channel_plan.proofs.needs.zones_of.Goals as goal

pub returns-then-first_pairs-second_pairs-clause-plan : goal.returns-then-first_pairs-second_pairs-clause-plan
returns-then-first_pairs-second_pairs-clause-plan c = λ o table es drums parts a b.
    let of_a = finds c.need_laws.ensures.determined c.fewest_channels.ensures.counted o (only c.args.first) table es c.args.port c.args.first_pairs.now a in
    let of_b = finds c.need_laws.ensures.determined c.fewest_channels.ensures.counted o (only c.args.second) table es c.args.port c.args.second_pairs.now b in
    c.two_zones.ensures.plan o table es drums (second_is_lower o table es c.args.port c.args.first c.args.second c.args.first_pairs.now.need c.args.second_pairs.now.need parts
    of_a.number of_b.number c.if-first_pairs-second_pairs.true) b a

pub returns-then-first_pairs-second_pairs-clause-fault : goal.returns-then-first_pairs-second_pairs-clause-fault
returns-then-first_pairs-second_pairs-clause-fault c = λ o table es drums parts a b.
    let of_a = finds c.need_laws.ensures.determined c.fewest_channels.ensures.counted o (only c.args.first) table es c.args.port c.args.first_pairs.now a in
    let of_b = finds c.need_laws.ensures.determined c.fewest_channels.ensures.counted o (only c.args.second) table es c.args.port c.args.second_pairs.now b in
    c.two_zones.ensures.fault o table es drums (second_is_lower o table es c.args.port c.args.first c.args.second c.args.first_pairs.now.need c.args.second_pairs.now.need parts
    of_a.number of_b.number c.if-first_pairs-second_pairs.true) b a

pub returns-clause-plan : goal.returns-clause-plan
returns-clause-plan c = λ o table es drums parts a b.
    let of_a = finds c.need_laws.ensures.determined c.fewest_channels.ensures.counted o (only c.args.first) table es c.args.port c.args.first_pairs.now a in
    let of_b = finds c.need_laws.ensures.determined c.fewest_channels.ensures.counted o (only c.args.second) table es c.args.port c.args.second_pairs.now b in
    c.two_zones-2.ensures.plan o table es drums (first_is_lower o table es c.args.port c.args.first c.args.second c.args.first_pairs.now.need c.args.second_pairs.now.need parts
    of_a.number of_b.number c.if-first_pairs-second_pairs.false) a b

pub returns-clause-fault : goal.returns-clause-fault
returns-clause-fault c = λ o table es drums parts a b.
    let of_a = finds c.need_laws.ensures.determined c.fewest_channels.ensures.counted o (only c.args.first) table es c.args.port c.args.first_pairs.now a in
    let of_b = finds c.need_laws.ensures.determined c.fewest_channels.ensures.counted o (only c.args.second) table es c.args.port c.args.second_pairs.now b in
    c.two_zones-2.ensures.fault o table es drums (first_is_lower o table es c.args.port c.args.first c.args.second c.args.first_pairs.now.need c.args.second_pairs.now.need parts
    of_a.number of_b.number c.if-first_pairs-second_pairs.false) a b
