use Rattle.std.proofs.Common.{◌∙◌, sym, ap, subst, length}
use Rattle.std.specs.List.{AllByRecursion}
use Rattle.channel_plan.specs.Heads.{IsFresh}
use Rattle.channel_plan.proofs.Heading.{each_and}
use Rattle.channel_plan.proofs.rowed.add_row.Goals as goal

pub returns-clause-fresh : goal.returns-clause-fresh
returns-clause-fresh c = λ all. subst (AllByRecursion IsFresh) (sym c.in_ok-push.ensures.items) (each_and IsFresh c.args.rows.now.items
    c.in_ok-row.row all (record {
      long = c.in_ok-row.ensures.places ∙ sym (ap length c.in_ok-row.ensures.channels);
      first = c.in_ok-row.ensures.first;
    }))
