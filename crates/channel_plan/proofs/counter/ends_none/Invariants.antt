use Rattle.std.proofs.Common.{◌≡◌, ◌≤◌, ◌<◌, ◌-◌, ℕ, length, slice_index}
use Rattle.channel_plan.proofs.counter.ends_none.Given as goal

abbrev pub invariant-loop-channel : goal.invariant-loop-channel
invariant-loop-channel l = record {
  within : l.channel ≤ 16;
  long : length l.ended.keys ≡ 16;
  none : (c : ℕ) → c < l.channel → slice_index l.ended.keys c ≡ 0;
}

abbrev pub decreases-loop-channel : goal.decreases-loop-channel
decreases-loop-channel l = 16 - l.channel
