use Rattle.lifetimes.proofs.Beyond.{within}
use Rattle.lifetimes.proofs.bends.pairs_are_within.Goals as goal

pub returns : goal.returns
returns c = within (record {
  none = c.beyond_laws.ensures.none;
  zones = c.zone_entries_set_zones.ensures;
  fine = c.sound_sources.ensures.fine;
  aimed = c.sound_sources.ensures.aimed;
  port = c.port_laws.ensures.port;
  own = c.position_laws.ensures.own;
  other = c.position_laws.ensures.other;
  was_there = c.held_laws.ensures.within;
  next = c.held_laws.ensures.next;
  elsewhere = c.elsewhere.ensures.other;
  reset = c.elsewhere.ensures.reset;
  begins = c.rests_are_runs.ensures.one_begins;
})
