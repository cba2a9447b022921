use Rattle.std.proofs.Common.{◌≡◌, ◌<◌, ℕ, cond, nat_lt, get_or, length, None}
use Rattle.midi_model.specs.Channel.{default_channel}
use Rattle.receiver.specs.Stands.{states_of, selected_in}
use Rattle.receiver.proofs.Here.{slot_in}
use Rattle.receiver.proofs.player.Player.reset.Given as goal

abbrev pub invariant-loop-channel : goal.invariant-loop-channel
invariant-loop-channel l = let old = l.fn.self in record {
  many : length (states_of l.self) ≡ 16;
  notes : (c k : ℕ) → c < 16 → k < 128 → slot_in l.self.channels c k ≡ cond (nat_lt c l.channel) None (slot_in old.channels c k);
  states : (c : ℕ) → c < 16 → get_or (states_of l.self) c default_channel ≡ cond (nat_lt c l.channel) default_channel (get_or (states_of old) c default_channel);
  selected : (c : ℕ) → c < 16 → get_or (selected_in l.self) c None ≡ cond (nat_lt c l.channel) None (get_or (selected_in old) c None);
  begun : l.self.begun ≡ old.begun;
}
