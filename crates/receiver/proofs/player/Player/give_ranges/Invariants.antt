use Rattle.std.proofs.Common.{◌≡◌, ◌<◌, ℕ, cond, nat_lt, get_or, length}
use Rattle.midi_model.specs.Channel.{default_channel}
use Rattle.midi_model.specs.Zones.{bend_range_at}
use Rattle.receiver.specs.Stands.{states_of, selected_in}
use Rattle.receiver.specs.Zones.{zones_in}
use Rattle.receiver.proofs.Here.{slot_in}
use Rattle.receiver.proofs.player.Player.give_ranges.Given as goal

abbrev pub invariant-loop-number : goal.invariant-loop-number
invariant-loop-number l = let old = l.fn.self in record {
  many : length (states_of l.self) ≡ 16;
  notes : (c k : ℕ) → c < 16 → k < 128 → slot_in l.self.channels c k ≡ slot_in old.channels c k;
  states : (c : ℕ) → c < 16 → get_or (states_of l.self) c default_channel ≡ cond (nat_lt c l.number) (bend_range_at (zones_in old.zones) l.master c (get_or (states_of old) c default_channel)) (get_or (states_of old) c default_channel);
  selected : selected_in l.self ≡ selected_in old;
  zones : l.self.zones ≡ old.zones;
  begun : l.self.begun ≡ old.begun;
}
