use Rattle.std.proofs.Common.{◌≡◌, false, slice_index}
use Rattle.receiver.specs.Notes.{has}
use Rattle.lifetimes.specs.OnePart.{PartEnds}
use Rattle.lifetimes.proofs.EachPart.{Done}
use Rattle.lifetimes.proofs.port.Port.end_all.Given as goal

abbrev pub invariant-loop-place : goal.invariant-loop-place
invariant-loop-place l = record {
  number : l.self.number ≡ l.fn.self.number;
  player : l.self.player ≡ l.fn.self.player;
  parts : Done (λ c. PartEnds false (has (slice_index l.ends.keys c)) l.tick l.tail) l.place l.fn.self.parts l.self.parts;
}
