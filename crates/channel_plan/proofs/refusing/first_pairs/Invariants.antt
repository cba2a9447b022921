use Rattle.std.proofs.Common.{◌≡◌, ◌≤◌, take, length}
use Rattle.channel_plan.proofs.refusing.first_pairs.Given as goal

abbrev pub invariant-loop-pair : goal.invariant-loop-pair
invariant-loop-pair l = record {
  room : l.pair-index ≤ l.count;
  there : l.pair-index ≤ length l.pairs;
  first : l.first.items ≡ take l.pair-index l.pairs;
}
