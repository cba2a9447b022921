use Rattle.std.proofs.Common.{◌≡◌, subst, rules, arith}
use Rattle.lifetimes.specs.Views.{options_of}
use Rattle.channel_plan.specs.Layouts.{allows}
use Rattle.channel_plan.specs.Refused.{IsRefused}
use Rattle.channel_plan.specs.Surveyed.{ArePlannedTo}
use Rattle.channel_plan.proofs.Noting.{PairLaws}
use Rattle.channel_plan.proofs.Ported.{handed_on, refused_at, all_planned}
use Rattle.channel_plan.proofs.planning.plan_ports.Goals as goal

pub returns-in_err-add_port-clause-fault : goal.returns-in_err-add_port-clause-fault
returns-in_err-add_port-clause-fault c = λ table es is.
    let o = options_of c.args.options.now in
    handed_on c.from_residual.result c.in_err-add_port.field-0.0 (IsRefused o (allows c.args.layout) table es) c.from_residual.ensures.1
    (refused_at o (allows c.args.layout) table es is.faultless is.few c.loop-number.number c.in_err-add_port.field-0.0
    (c.in_err-add_port.ensures.fault table es is) (c.loop-number.invariant.planned table es is).fits)

pub loop-number-preserved : goal.loop-number-preserved
loop-number-preserved c = record {
  within = search rules;
  planned = λ table es is. c.in_ok-add_port.ensures.plan table es is (c.loop-number.invariant.planned table es is);
}

pub returns-clause-plan : goal.returns-clause-plan
returns-clause-plan c = λ table es is.
    let o = options_of c.args.options.now in
    let laws : PairLaws = record {
      told = c.pair_laws.ensures.told;
      runs = c.rests_are_runs.ensures.one_begins;
      next = c.held_laws.ensures.next;
      was = c.held_laws.ensures.within;
      aimed = c.sound_sources.ensures.aimed;
    } in
    let n = c.loop-number.number in
    let end = c.loop-number-test.false in
    let within = c.loop-number.invariant.within in
    let last : n ≡ 256 = omega (arith, end, within) in
    all_planned laws o table es c.args.survey.now c.args.layout c.args.row.now.items c.loop-number.needs is
    (subst (λ m. ArePlannedTo o (allows c.args.layout) table es m c.loop-number.needs.numbers.items c.loop-number.needs.ports.items) last
    (c.loop-number.invariant.planned table es is))
