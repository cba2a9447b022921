use Rattle.std.proofs.Common.{◌≡◌, ◌<◌, ℕ, length, slice_index, is_some}
use Rattle.receiver.specs.Notes.{has}
use Rattle.receiver.specs.Stands.{slot}
use Rattle.receiver.proofs.player.Player.sounding_keys.Given as goal

abbrev pub invariant-loop-channel : goal.invariant-loop-channel
invariant-loop-channel l = record {
  length : length l.keys ≡ 16;
  keys : (c k : ℕ) → c < l.channel → k < 128 → has (slice_index l.keys c) k ≡ is_some (slot l.self c k);
}
