use Rattle.std.proofs.Common.{◌≡◌, ◌≤◌, take, length}
use Rattle.channel_plan.proofs.needs.first_channels.Given as goal

abbrev pub invariant-loop-channel : goal.invariant-loop-channel
invariant-loop-channel l = record {
  room : l.channel-index ≤ l.count;
  there : l.channel-index ≤ length l.channels;
  first : l.first.items ≡ take l.channel-index l.channels;
}
