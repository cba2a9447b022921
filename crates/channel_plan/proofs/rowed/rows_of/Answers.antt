use Rattle.std.proofs.Common.{◌∙◌, ◌++◌, sym, ap, subst}
use Rattle.std.specs.List.{AllByRecursion}
use Rattle.channel_plan.specs.Serving.{heads}
use Rattle.channel_plan.specs.Heads.{heads_of, IsFresh}
use Rattle.channel_plan.proofs.Heading.{are_rows}
use Rattle.channel_plan.proofs.rowed.rows_of.Goals as goal

pub returns-clause-rows : goal.returns-clause-rows
returns-clause-rows c = λ o table es is asked faultless planned.
    are_rows c.fewest_channels.ensures.counted c.event_laws.ensures.begun o table es c.args.layout c.args.ports.now c.add_ports.new.rows.items is
    asked faultless planned
    (c.in_ok-add_ports.ensures.heads ∙ ap (λ xs. heads xs ++ heads_of c.args.layout c.args.ports.now) c.new-rows.ensures.items)
    (c.in_ok-add_ports.ensures.fresh (subst (AllByRecursion IsFresh) (sym c.new-rows.ensures.items) tt))
