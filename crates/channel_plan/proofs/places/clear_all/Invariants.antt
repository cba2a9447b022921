use Rattle.std.proofs.Common.{◌≡◌, ◌≤◌, ◌-◌, ◌++◌, length, map, take, drop}
use Rattle.plan_laws.specs.Placing.{clear}
use Rattle.channel_plan.specs.Seeing.{all_seen, runs_in}
use Rattle.channel_plan.proofs.places.clear_all.Given as goal

abbrev pub invariant-loop-place : goal.invariant-loop-place
invariant-loop-place l = record {
  within : l.place ≤ length l.places;
  same : length l.places ≡ length l.fn.places;
  runs : runs_in l.places ≡ runs_in l.fn.places;
  done : all_seen l.places ≡ map (clear l.position) (take l.place (all_seen l.fn.places)) ++ drop l.place (all_seen l.fn.places);
}

abbrev pub decreases-loop-place : goal.decreases-loop-place
decreases-loop-place l = length l.places - l.place
