use Rattle.std.proofs.Common.{◌≡◌, length}
use Rattle.lifetimes.specs.OnePart.{PartForgets}
use Rattle.lifetimes.specs.Port.{EachPart}
use Rattle.lifetimes.proofs.port.Port.run_out.Given as goal

abbrev pub invariant-loop-channel : goal.invariant-loop-channel
invariant-loop-channel l = record {
  number : l.self.number ≡ l.initial.self.number;
  player : l.self.player ≡ l.initial.self.player;
  long : length l.self.parts ≡ 16;
  parts : EachPart (λ c. PartForgets l.tick l.tail) l.initial.self l.self;
}

abbrev pub decreases-loop-channel : goal.decreases-loop-channel
decreases-loop-channel l = length l.self.ends.items
