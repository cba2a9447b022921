use Rattle.lifetimes.proofs.bends.bend_laws.Goals as goal

pub returns : goal.returns
returns c = record {
  fade = c.music_laws.ensures.fade;
  one_note = c.receiver_laws.ensures.one_note;
  music = c.position_laws.ensures.music;
  timed = c.position_laws.ensures.timed;
  aimed = c.sound_sources.ensures.aimed;
  holds = c.rests_as_written.ensures.holds;
  pairs = c.rests_are_runs.ensures.pairs;
  ends = c.last_ends.ensures.next;
  forget = c.last_ends.ensures.reset;
  some = c.beyond_laws.ensures.some;
  none = c.beyond_laws.ensures.none;
}
