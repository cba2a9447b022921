use Rattle.std.proofs.Common.{◌≡◌, ◌≤◌, ◌+◌, ◌-◌, length, filter}
use Rattle.retune_model.specs.Dump.{from_up}
use Rattle.receiver.specs.Notes.{has}
use Rattle.mtune_core.proofs.reporting.channels_in.Given as goal

abbrev pub invariant-loop-channel : goal.invariant-loop-channel
invariant-loop-channel l = record {
  few : l.count ≤ l.channel;
  left : l.count + length (filter (λ c. has l.mask c) (from_up l.channel (16 - l.channel))) ≡ length (filter (λ c. has l.mask c) (from_up 0 16));
}
