use Rattle.std.proofs.Common.{◌≡◌, ◌∙◌, ◌++◌, [], ◌∷◌, length, rules}
use Rattle.lifetimes.specs.Views.{options_of}
use Rattle.channel_plan.specs.Layouts.{allows}
use Rattle.channel_plan.specs.Surveyed.{IsFaultAt}
use Rattle.channel_plan.proofs.Noting.{PairLaws, no_parts}
use Rattle.channel_plan.proofs.Ported.{handed_on, silent_fits, port_put, port_passed, no_parts_there, some_parts_there}
use Rattle.channel_plan.proofs.planning.add_port.Goals as goal

pub returns-then-is_empty-clause-plan : goal.returns-then-is_empty-clause-plan
returns-then-is_empty-clause-plan c = λ table es is to.
    let o = options_of c.args.options.now in
    let laws : PairLaws = record {
      told = c.pair_laws.ensures.told;
      runs = c.rests_are_runs.ensures.one_begins;
      next = c.held_laws.ensures.next;
      was = c.held_laws.ensures.within;
      aimed = c.sound_sources.ensures.aimed;
    } in
    let empty : length c.parts_of-parts.result.items ≡ 0 = search rules in
    let none = no_parts_there o es c.args.port c.parts_of-parts.result.items (c.parts_of-parts.ensures o table es is.surveys) empty in
    port_passed o (allows c.args.layout) table es c.args.port c.args.needs.now.numbers.items c.args.needs.now.ports.items to (search rules)
    (no_parts o es c.args.port is.asked.valid none) (silent_fits laws o (allows c.args.layout) table es c.args.port is.asked is.faultless none)

pub returns-in_err-plan-clause-fault : goal.returns-in_err-plan-clause-fault
returns-in_err-plan-clause-fault c = λ table es is.
    let o = options_of c.args.options.now in
    handed_on c.from_residual.result c.in_err-plan.field-0.0 (IsFaultAt o.route o (allows c.args.layout) table es c.args.port)
    c.from_residual.ensures.1 (c.in_err-plan.ensures.fault table es is (c.as_slice.ensures.value ∙ c.parts_of-parts.ensures o table es is.surveys))

pub returns-clause-plan : goal.returns-clause-plan
returns-clause-plan c = λ table es is to.
    let o = options_of c.args.options.now in
    let parts = c.parts_of-parts.ensures o table es is.surveys in
    let ys : c.push.new.self.items ≡ c.args.needs.now.numbers.items ++ c.args.port ∷ [] = search rules in
    let qs : c.push-2.new.self.items ≡ c.args.needs.now.ports.items ++ c.in_ok-plan.plan ∷ [] = search rules in
    port_put o (allows c.args.layout) table es c.args.port c.args.needs.now.numbers.items c.push.new.self.items
    c.args.needs.now.ports.items c.push-2.new.self.items c.in_ok-plan.plan to (search rules)
    (some_parts_there o es c.args.port c.parts_of-parts.result.items c.is_empty.result parts c.is_empty.ensures c.if-is_empty.false)
    (c.in_ok-plan.ensures.plan table es is (c.as_slice.ensures.value ∙ parts)) ys qs
