use Rattle.plan_laws.proofs.RunCounting.{one_run, no_run, none_unbegun, run_of_part, begins_of_part}
use Rattle.plan_laws.proofs.runs.run_counts.Goals as goal

pub returns : goal.returns
returns c = record {
  one = one_run c.pair_laws.ensures.told c.fewest_channels.ensures.once c.sound_sources.ensures.aimed
      c.held_laws.ensures.next c.held_laws.ensures.within;
  none = no_run c.sound_sources.ensures.aimed c.held_laws.ensures.next c.held_laws.ensures.within;
  unbegun = none_unbegun c.sound_sources.ensures.aimed c.held_laws.ensures.next c.held_laws.ensures.within;
  part = run_of_part c.counting_laws.ensures.holding;
  begins = begins_of_part c.counting_laws.ensures.holding;
}
