use Rattle.fewest_laws.proofs.Zoned.{zoned_uses_fewest}
use Rattle.fewest_laws.proofs.laws.zoned_uses_fewest.Goals as goal

pub returns : goal.returns
returns c = zoned_uses_fewest (record {
  using = record {
    fewest = c.fewest_channels.ensures.fewest;
    valid = c.fewest_channels.ensures.valid;
    all_used = c.fewest_channels.ensures.all_used;
    once = c.fewest_channels.ensures.once;
    aimed = c.sound_sources.ensures.aimed;
    pairs = c.rests_are_runs.ensures.pairs;
    one = c.rests_are_runs.ensures.one_begins;
    unbroken = c.rests_are_runs.ensures.unbroken;
  };
  serve = c.plans_serve.ensures.serve;
  blocks = c.mpe_plays_the_same.ensures.out;
  ports = c.outputs_apart.ensures.mpe;
  channels = c.mpe_plays_the_same.ensures.channels;
  on_zones = c.mpe_plays_the_same.ensures.on_zones;
  free = c.best_is_free.ensures.member;
  counted = c.fewest_channels.ensures.counted;
  determined = c.need_laws.ensures.determined;
  age = c.music_laws.ensures.age;
})
