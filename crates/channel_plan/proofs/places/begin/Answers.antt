use Rattle.std.proofs.Common.{map, set, ap, ◌∙◌}
use Rattle.std.proofs.lemmas.List.{map-set}
use Rattle.lifetimes.specs.Views.{pair_of}
use Rattle.channel_plan.specs.declared.choice.Place.{Place}
use Rattle.channel_plan.proofs.Seen.{begun_there}
use Rattle.channel_plan.proofs.places.begin.Goals as goal

pub returns-clause-seen : goal.returns-clause-seen
returns-clause-seen c = begun_there c.args.places.now c.args.place c.index-places-place.result c.begin_one.new.place (pair_of c.args.pair.now)
    c.requires c.begin_one.ensures.seen

pub returns-clause-runs : goal.returns-clause-runs
returns-clause-runs c =
    map-set (λ (p : Place). p.run) c.args.places.now c.args.place c.begin_one.new.place
    ∙ ap (set (map (λ (p : Place). p.run) c.args.places.now) c.args.place) c.begin_one.ensures.run
