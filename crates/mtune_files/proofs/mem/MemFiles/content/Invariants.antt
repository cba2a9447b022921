use Rattle.std.proofs.Common.{◌≡◌, map as map_list}
use Rattle.std.specs.Ordering.{nat_cmp}
use Rattle.std.specs.Cmp.Lexicographic.{slice_cmp}
use Rattle.std.specs.FinMap.{get, find}
use Rattle.std.specs.VecDeque.Iter.{deque_iter_rest}
use Rattle.mtune_files.specs.Mem.{held_by, pair_of}
use Rattle.mtune_files.proofs.mem.MemFiles.content.Given as goal

abbrev pub invariant-loop-entry : goal.invariant-loop-entry
invariant-loop-entry l = get (held_by l.self.entries.items) l.name ≡ find (slice_cmp nat_cmp) l.name (map_list pair_of (deque_iter_rest l.entry-iterator))
