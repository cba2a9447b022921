use Rattle.plan_laws.proofs.Rowing.{RowKit, row_first, row_parts, row_leaves, row_cleared, row_stays, row_goes_on, row_takes, row_room, row_has, row_keeps, row_begins}
use Rattle.plan_laws.proofs.places.row_laws.Goals as goal

pub returns : goal.returns
returns c =
    let kit : RowKit = record {
      told = c.pair_laws.ensures.told;
      aimed = c.sound_sources.ensures.aimed;
      runs = c.rests_are_runs.ensures.one_begins;
      ends = c.elsewhere.ensures.reset;
      begun = c.held_laws.ensures.begun;
      next = c.held_laws.ensures.next;
      was = c.held_laws.ensures.within;
      room = c.fewest_channels.ensures.room;
      music = c.position_laws.ensures.music;
      taken = c.taken_laws.ensures.next;
      front = c.taken_laws.ensures.pairs;
      holding = c.counting_laws.ensures.holding;
      own = c.counting_laws.ensures.own;
      alone = c.leaving_laws.ensures.alone;
      cleared = c.leaving_laws.ensures.cleared;
      leaves = c.leaving_laws.ensures.leaves;
      rests = c.leaving_laws.ensures.rests;
      member_alone = c.leaving_laws.ensures.member_alone;
      member_cleared = c.leaving_laws.ensures.member_cleared;
      member_leaves = c.leaving_laws.ensures.member_leaves;
      member_costs = c.leaving_laws.ensures.member_costs;
    } in
    record {
      first = row_first kit;
      parts = row_parts kit;
      leaves = row_leaves kit;
      cleared = row_cleared kit;
      stays = row_stays kit;
      goes_on = row_goes_on kit;
      takes = row_takes kit;
      room = row_room kit;
      has = row_has kit;
      keeps = row_keeps kit;
      begins = row_begins kit;
    }
