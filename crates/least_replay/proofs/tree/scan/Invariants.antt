use Rattle.std.proofs.Common.{◌≡◌, ℕ, ◌<◌, ◌≤◌, ◌+◌, length}
use Rattle.least_replay.specs.Tree.{at}
use Rattle.least_replay.proofs.tree.scan.Given as goal

abbrev pub invariant-loop-i : goal.invariant-loop-i
invariant-loop-i l = record {
  held : l.least ≡ at l.slack l.nearest;
  within : l.nearest < length l.slack;
  outside : at l.place l.nearest ≡ 0;
  no_farther : at l.slack l.nearest ≤ at l.slack l.best;
  least : (j : ℕ) → l.first + l.last ≤ j + l.i → j < l.last → at l.place j ≡ 0 → at l.slack l.nearest ≤ at l.slack j;
}
