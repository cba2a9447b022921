use Rattle.plan_laws.proofs.From.{RestKit, member_alone, member_cleared, member_leaves, member_costs, bend_alone, bend_cleared, bend_leaves, held_holds, rests_before}
use Rattle.plan_laws.proofs.places.leaving_laws.Goals as goal

pub returns : goal.returns
returns c =
    let kit : RestKit = record {
      told = c.pair_laws.ensures.told;
      written = c.rests_as_written.ensures.holds;
      held = c.rests_as_written.ensures.held;
      notes = c.rests_are_runs.ensures.pairs;
      tell = c.last_ends.ensures.holds;
      kept = c.last_ends.ensures.next;
    } in
    record {
      alone = bend_alone;
      cleared = bend_cleared c.elsewhere.ensures.reset;
      leaves = bend_leaves kit c.without_rests.ensures.held c.rests_are_runs.ensures.one_begins;
      rests = rests_before kit;
      held = held_holds kit;
      member_alone = member_alone;
      member_cleared = member_cleared;
      member_leaves = member_leaves;
      member_costs = member_costs;
    }
