use Rattle.std.proofs.Common.{◌≡◌, ◌≤◌, ◌-◌, length}
use Rattle.plan_laws.specs.PlacingLaws.{AllAreNowhere}
use Rattle.channel_plan.specs.Seeing.{all_seen}
use Rattle.channel_plan.proofs.rowing.free_places.Given as goal

abbrev pub invariant-loop-made : goal.invariant-loop-made
invariant-loop-made l = record {
  within : l.made ≤ l.count;
  long : length l.places.items ≡ l.made;
  free : AllAreNowhere (all_seen l.places.items);
}

abbrev pub decreases-loop-made : goal.decreases-loop-made
decreases-loop-made l = l.count - l.made
