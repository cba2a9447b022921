use Rattle.std.proofs.Common.{◌≡◌, ◌<◌, ◌^◌, ℕ, true, false, not, ◌&&◌}
use Rattle.receiver.specs.Notes.{has}
use Rattle.lifetimes.specs.OnePart.{PartEnds}
use Rattle.lifetimes.proofs.notes.Notes.end_each.Given as goal

abbrev pub invariant-loop-rest : goal.invariant-loop-rest
invariant-loop-rest l = record {
  fits : l.rest < 2 ^ 128;
  within : (k : ℕ) → k < 128 → has l.rest k ≡ true → has l.keys k ≡ true;
  ended : PartEnds false (λ k. has l.keys k && not (has l.rest k)) l.tick l.tail l.initial.self l.self;
}

abbrev pub decreases-loop-rest : goal.decreases-loop-rest
decreases-loop-rest l = l.rest
