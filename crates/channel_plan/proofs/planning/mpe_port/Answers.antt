use Rattle.std.proofs.Common.{◌∙◌, map, sym, ap, subst}
use Rattle.retune_model.specs.Options.{Route}
use Rattle.retune_model.specs.Faults.{is_bend}
use Rattle.lifetimes.specs.Views.{options_of}
use Rattle.channel_plan.specs.Planned.{zones_told, zone_told, zone_pairs_told}
use Rattle.channel_plan.specs.Finding.{IsZoneFault}
use Rattle.channel_plan.specs.Surveyed.{FitsAt}
use Rattle.channel_plan.proofs.Ported.{handed_on}
use Rattle.channel_plan.proofs.planning.mpe_port.Goals as goal

pub returns-in_err-zones-clause-fault : goal.returns-in_err-zones-clause-fault
returns-in_err-zones-clause-fault c = λ table es mpe is parts few.
    handed_on c.from_residual.result c.in_err-zones.field-0.0 (IsZoneFault (options_of c.args.options.now) table es c.args.port)
    c.from_residual.ensures.1 (c.in_err-zones.ensures.fault table es mpe is parts few)

pub returns-clause-plan : goal.returns-clause-plan
returns-clause-plan c = λ allowed table es mpe is parts few.
    let o = options_of c.args.options.now in
    let are = c.in_ok-zones.ensures.plan table es mpe is parts few in
    let told = ap (λ (r : Route). zones_told r o table es c.args.port) (sym mpe) in
    record {
      plan = c.unbent_port.ensures.plan o allowed table es (ap is_bend mpe)
          (are.zones ∙ ap (map (zone_told o table es c.args.port)) told) (are.pairs ∙ ap (map (zone_pairs_told o table es c.args.port)) told);
      begun = c.unbent_port.ensures.begun;
      fits = subst (λ (r : Route). FitsAt r o allowed table es c.args.port) (sym mpe) are.fit;
    }
