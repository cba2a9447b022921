use Rattle.std.proofs.Common.{◌≡◌, ℕ, Bool, true}
use Rattle.lifetimes.specs.OnePart.{PartEnds}
use Rattle.lifetimes.proofs.EachPart.{Done}
use Rattle.lifetimes.proofs.port.Port.clear.Given as goal

abbrev pub invariant-loop-place : goal.invariant-loop-place
invariant-loop-place l = record {
  number : l.self.number ≡ l.fn.self.number;
  player : l.self.player ≡ l.fn.self.player;
  parts : (which : ℕ → ℕ → Bool) (tick tail : ℕ) → Done (λ c. PartEnds true (which c) tick tail) l.place l.fn.self.parts l.self.parts;
}
