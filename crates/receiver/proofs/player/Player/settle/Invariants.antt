use Rattle.std.proofs.Common.{◌≡◌, ◌<◌, ℕ, cond, nat_lt}
use Rattle.midi_model.specs.Music.{settle_note}
use Rattle.receiver.specs.Following.{SameSetUp}
use Rattle.receiver.specs.Stands.{states_of}
use Rattle.receiver.specs.Turns.{kept}
use Rattle.receiver.specs.Zones.{zones_in}
use Rattle.receiver.proofs.Here.{slot_in}
use Rattle.receiver.proofs.player.Player.settle.Given as goal

abbrev pub invariant-loop-number : goal.invariant-loop-number
invariant-loop-number l = let old = l.fn.self in record {
  notes : (t c k : ℕ) → c < 16 → k < 128 → slot_in l.self.channels c k ≡ cond (nat_lt c l.number) (kept (settle_note (states_of old) (zones_in old.zones) t) (slot_in old.channels c k)) (slot_in old.channels c k);
  rest : SameSetUp old l.self;
}
