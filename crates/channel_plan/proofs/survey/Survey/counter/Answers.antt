use Rattle.std.proofs.Common.{◌∙◌, sym, ap}
use Rattle.std.specs.Option.{option_copied}
use Rattle.channel_plan.specs.Surveys.{tally_in}
use Rattle.channel_plan.proofs.Surveyed.{counts_found, counts_none}
use Rattle.channel_plan.proofs.survey.Survey.counter.Goals as goal

pub returns-in-Some : goal.returns-in-Some
returns-in-Some c o table es survey is =
    counts_found o table es c.args.self.now.tallies.items c.args.port c.args.part c.in-Some.tally.now survey.tallies
    (ap (λ l. tally_in l c.args.port c.args.part) (sym c.as_slice.ensures.value) ∙ sym c.find_tally.ensures ∙ ap option_copied c.in-Some.is)

pub returns-in-None : goal.returns-in-None
returns-in-None c o table es survey is =
    counts_none o table es c.args.self.now.tallies.items c.args.port c.args.part c.args.self.now.empty survey.empty is survey.tallies
    (ap (λ l. tally_in l c.args.port c.args.part) (sym c.as_slice.ensures.value) ∙ sym c.find_tally.ensures ∙ ap option_copied c.in-None.is)
