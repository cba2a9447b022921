use Rattle.std.proofs.Common.{◌∙◌, map, sym, ap}
use Rattle.lifetimes.specs.Views.{pair_of}
use Rattle.channel_plan.specs.Planned.{zone_told, zone_pairs_told}
use Rattle.channel_plan.proofs.Ported.{own_unbent, own_told, own_fits}
use Rattle.channel_plan.proofs.planning.own_port.Goals as goal

pub returns : goal.returns
returns c = λ o allowed table es own. record {
  plan = c.unbent_port.ensures.plan o allowed table es (own_unbent o.route own)
      (ap (map (λ p. p.zone)) c.new.ensures.items ∙ sym (ap (map (zone_told o table es c.args.port)) (own_told o.route o table es c.args.port own)))
      (ap (map (λ p. map pair_of p.pairs.items)) c.new.ensures.items
      ∙ sym (ap (map (zone_pairs_told o table es c.args.port)) (own_told o.route o table es c.args.port own)));
  begun = c.unbent_port.ensures.begun;
  fits = own_fits o.route o allowed table es c.args.port own;
}
