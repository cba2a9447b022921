use Rattle.std.proofs.Common.{◌≡◌, ◌≤◌, ◌<◌, ◌-◌, ℕ, Some, length}
use Rattle.lifetimes.specs.Views.{pair_of}
use Rattle.plan_laws.specs.Placing.{seen_at}
use Rattle.channel_plan.specs.Seeing.{all_seen}
use Rattle.channel_plan.proofs.places.place_of.Given as goal

abbrev pub invariant-loop-place : goal.invariant-loop-place
invariant-loop-place l = record {
  within : l.place ≤ length l.places;
  none : (c : ℕ) → c < l.place → (seen_at (all_seen l.places) c).pair ≡ Some (pair_of l.pair) → ⊥;
}

abbrev pub decreases-loop-place : goal.decreases-loop-place
decreases-loop-place l = length l.places - l.place
