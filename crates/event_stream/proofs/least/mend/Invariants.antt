use Rattle.std.proofs.Common.{◌≡◌, ◌*◌, ◌/◌, ◌<◌, length, get_or, take, drop}
use Rattle.event_stream.specs.Tree.{IsTreeBut}
use Rattle.event_stream.proofs.Under.{IsBelowLeaves}
use Rattle.event_stream.proofs.least.mend.Given as goal

abbrev pub invariant-loop-at : goal.invariant-loop-at
invariant-loop-at l = record {
  size : length l.tree ≡ 2048;
  some : 0 < l.at;
  inside : l.at < 2 * l.count;
  but_one : IsTreeBut (l.at / 2) l.count l.tree;
  least : l.least ≡ get_or l.tree l.at 0;
  others : IsBelowLeaves l.others l.at l.leaf l.count l.tree;
  leaves : take l.count (drop l.count l.tree) ≡ take l.count (drop l.count l.fn.tree);
}

abbrev pub decreases-loop-at : goal.decreases-loop-at
decreases-loop-at l = l.at
