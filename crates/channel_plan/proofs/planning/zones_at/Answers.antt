use Rattle.std.proofs.Common.{◌∙◌, [], ◌∷◌, refl, sym}
use Rattle.lifetimes.specs.Views.{options_of}
use Rattle.channel_plan.proofs.Ported.{one_item, two_items, first_counts, second_counts}
use Rattle.channel_plan.proofs.planning.zones_at.Goals as goal

pub returns-in-len1-clause-plan : goal.returns-in-len1-clause-plan
returns-in-len1-clause-plan c = λ table es mpe is parts few.
    let o = options_of c.args.options.now in
    let same = sym parts ∙ one_item c.args.parts.now c.part-item.result c.in-len1.len_at_least c.in-len1.len_below c.part-item.is in
    c.zone_of.ensures.plan o table es (c.keeps_drums-drums.ensures o table es is refl) same
    (c.counter.ensures o table es is (first_counts o es c.args.port c.part-item.result [] mpe (sym same)))

pub returns-in-len1-clause-fault : goal.returns-in-len1-clause-fault
returns-in-len1-clause-fault c = λ table es mpe is parts few.
    let o = options_of c.args.options.now in
    let same = sym parts ∙ one_item c.args.parts.now c.part-item.result c.in-len1.len_at_least c.in-len1.len_below c.part-item.is in
    c.zone_of.ensures.fault o table es (c.keeps_drums-drums.ensures o table es is refl) same
    (c.counter.ensures o table es is (first_counts o es c.args.port c.part-item.result [] mpe (sym same)))

pub returns-in-len2-up-clause-plan : goal.returns-in-len2-up-clause-plan
returns-in-len2-up-clause-plan c = λ table es mpe is parts few.
    let o = options_of c.args.options.now in
    let a = c.first-item.result in
    let b = c.second-item.result in
    let same = sym parts ∙ two_items c.args.parts.now a b c.in-len2-up.len_at_least few c.first-item.is c.second-item.is in
    c.zones_of.ensures.plan o table es (c.keeps_drums-drums.ensures o table es is refl) same
    (c.counter-in-len2-up.ensures o table es is (first_counts o es c.args.port a (b ∷ []) mpe (sym same)))
    (c.counter-in-len2-up-2.ensures o table es is (second_counts o es c.args.port a b [] mpe (sym same)))

pub returns-in-len2-up-clause-fault : goal.returns-in-len2-up-clause-fault
returns-in-len2-up-clause-fault c = λ table es mpe is parts few.
    let o = options_of c.args.options.now in
    let a = c.first-item.result in
    let b = c.second-item.result in
    let same = sym parts ∙ two_items c.args.parts.now a b c.in-len2-up.len_at_least few c.first-item.is c.second-item.is in
    c.zones_of.ensures.fault o table es (c.keeps_drums-drums.ensures o table es is refl) same
    (c.counter-in-len2-up.ensures o table es is (first_counts o es c.args.port a (b ∷ []) mpe (sym same)))
    (c.counter-in-len2-up-2.ensures o table es is (second_counts o es c.args.port a b [] mpe (sym same)))
