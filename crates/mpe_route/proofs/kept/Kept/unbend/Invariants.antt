use Rattle.std.proofs.Common.{◌≡◌, ◌<◌, ℕ}
use Rattle.mpe_route.specs.Kept.{begun_in, bend_in}
use Rattle.mpe_route.proofs.Unbent.{unbent}
use Rattle.mpe_route.proofs.kept.Kept.unbend.Given as goal

abbrev pub invariant-loop-number : goal.invariant-loop-number
invariant-loop-number l = record {
  bends : (z d : ℕ) → z < 256 → d < 16 → bend_in l.self z d ≡ unbent l.port l.number (bend_in l.fn.self) z d;
  begun : begun_in l.self ≡ begun_in l.fn.self;
}
