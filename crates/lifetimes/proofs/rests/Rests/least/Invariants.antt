use Rattle.std.proofs.Common.{◌≡◌, ◌<◌, ◌≤◌, ℕ, false, get_or}
use Rattle.retune_model.specs.Rests.{is_within_tail}
use Rattle.lifetimes.specs.Resting.{no_rest}
use Rattle.lifetimes.proofs.rests.Rests.least.Given as goal

abbrev pub invariant-loop-place : goal.invariant-loop-place
invariant-loop-place l = (k : ℕ) → l.first ≤ k → k < l.place → is_within_tail l.tail l.tick (get_or l.self.items.items k no_rest).end ≡ false
