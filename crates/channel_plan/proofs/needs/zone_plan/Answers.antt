use Rattle.std.proofs.Common.{map, ap, ◌∙◌}
use Rattle.retune_model.specs.PortNeed.{need_of}
use Rattle.channel_model.specs.Rows.{only}
use Rattle.lifetimes.specs.Views.{pair_of}
use Rattle.channel_plan.specs.Planned.{instant_of}
use Rattle.channel_plan.proofs.Finding.{finds, zone_is}
use Rattle.channel_plan.proofs.needs.zone_plan.Goals as goal

pub returns-clause-zone : goal.returns-clause-zone
returns-clause-zone c = λ o table es is.
    let found = finds c.need_laws.ensures.determined c.fewest_channels.ensures.counted o (only c.args.part) table es c.args.port c.args.counter.now is in
    record {
      told = zone_is c.args.port c.args.part c.args.counter.now.need c.args.upper c.args.counter.now.instant
          (instant_of es (need_of o (only c.args.part) table es c.args.port).1) found.first;
      pairs = ap (map pair_of) c.in_ok-pairs.ensures.pairs ∙ found.most;
    }
