use Rattle.std.proofs.Common.{◌≡◌, ◌<◌, ℕ, cond, nat_lt}
use Rattle.receiver.specs.Following.{SameSetUp, turn_of}
use Rattle.receiver.specs.Turns.{kept}
use Rattle.receiver.specs.Zones.{zones_in}
use Rattle.receiver.proofs.Here.{slot_in}
use Rattle.receiver.proofs.player.Player.turn.Given as goal

abbrev pub invariant-loop-number : goal.invariant-loop-number
invariant-loop-number l = let old = l.fn.self in record {
  notes : (c k : ℕ) → c < 16 → k < 128 → slot_in l.self.channels c k ≡ cond (nat_lt c l.number) (kept (turn_of l.turn l.tick (zones_in old.zones) l.channel) (slot_in old.channels c k)) (slot_in old.channels c k);
  rest : SameSetUp old l.self;
}
