use Rattle.fewest_laws.proofs.Bent.{bent_uses_fewest}
use Rattle.fewest_laws.proofs.laws.bent_uses_fewest.Goals as goal

pub returns : goal.returns
returns c = bent_uses_fewest (record {
  using = record {
    fewest = c.fewest_channels.ensures.fewest;
    valid = c.fewest_channels.ensures.valid;
    all_used = c.fewest_channels.ensures.all_used;
    once = c.fewest_channels.ensures.once;
    aimed = c.sound_sources.ensures.aimed;
    pairs = c.rests_are_runs.ensures.pairs;
    one = c.rests_are_runs.ensures.one_begins;
    unbroken = c.rests_are_runs.ensures.unbroken;
  };
  channels = c.bend_plays_the_same.ensures.channels;
  on_row = c.bend_plays_the_same.ensures.on_row;
  free = c.best_is_free.ensures.shortest;
  counted = c.fewest_channels.ensures.counted;
  determined = c.need_laws.ensures.determined;
  age = c.music_laws.ensures.age;
})
