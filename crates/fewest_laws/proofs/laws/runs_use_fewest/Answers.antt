use Rattle.fewest_laws.proofs.Using.{uses_fewest}
use Rattle.fewest_laws.proofs.laws.runs_use_fewest.Goals as goal

pub returns : goal.returns
returns c = uses_fewest (record {
  fewest = c.fewest_channels.ensures.fewest;
  valid = c.fewest_channels.ensures.valid;
  all_used = c.fewest_channels.ensures.all_used;
  once = c.fewest_channels.ensures.once;
  aimed = c.sound_sources.ensures.aimed;
  pairs = c.rests_are_runs.ensures.pairs;
  one = c.rests_are_runs.ensures.one_begins;
  unbroken = c.rests_are_runs.ensures.unbroken;
})
