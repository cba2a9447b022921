use Rattle.std.proofs.Common.{subst, sym}
use Rattle.retune_model.specs.Options.{Route}
use Rattle.channel_model.specs.Refusals.{RefusesOn, TooManyParts}
use Rattle.lifetimes.specs.Views.{options_of}
use Rattle.channel_plan.specs.Layouts.{IsLayoutOf, allows}
use Rattle.channel_plan.proofs.planning.needs_of.Goals as goal

pub returns-in-Some-clause-fault : goal.returns-in-Some-clause-fault
returns-in-Some-clause-fault c = λ table es is asked faultless of.
    let o = options_of c.args.options.now in
    let crowded = c.in-Some.ensures.some o table es is of in (
      faultless,
      subst (λ (r : Route). RefusesOn r o (allows c.args.layout) table es (TooManyParts c.in-Some.port c.in-Some.parts)) (sym crowded.0)
          crowded.1,
    )

pub returns-clause-plan : goal.returns-clause-plan
returns-clause-plan c = λ table es is asked faultless of.
    let o = options_of c.args.options.now in
    c.plan_ports.ensures.plan table es (record {
      surveys = is;
      asked = asked;
      faultless = faultless;
      layout = of;
      row = λ bend. c.row_of-row.ensures (subst (λ (r : Route). IsLayoutOf r c.args.layout) bend of);
      few = c.in_default.ensures.none o table es is of;
    })

pub returns-clause-fault : goal.returns-clause-fault
returns-clause-fault c = λ table es is asked faultless of.
    let o = options_of c.args.options.now in
    c.plan_ports.ensures.fault table es (record {
      surveys = is;
      asked = asked;
      faultless = faultless;
      layout = of;
      row = λ bend. c.row_of-row.ensures (subst (λ (r : Route). IsLayoutOf r c.args.layout) bend of);
      few = c.in_default.ensures.none o table es is of;
    })
