use Rattle.std.proofs.Common.{◌≡◌, ◌≤◌, ◌+◌, ◌-◌, length, map, drop}
use Rattle.lifetimes.specs.Views.{pair_of}
use Rattle.channel_plan.specs.Counts.{place_in}
use Rattle.channel_plan.proofs.counter.place_of.Given as goal

abbrev pub invariant-loop-place : goal.invariant-loop-place
invariant-loop-place l = record {
  within : l.place ≤ length l.pairs;
  passed : place_in (pair_of l.pair) (map pair_of l.pairs) ≡ l.place + place_in (pair_of l.pair) (map pair_of (drop l.place l.pairs));
}

abbrev pub decreases-loop-place : goal.decreases-loop-place
decreases-loop-place l = length l.pairs - l.place
