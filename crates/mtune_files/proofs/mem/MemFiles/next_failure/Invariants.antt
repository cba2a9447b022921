use Rattle.std.proofs.Common.{◌≡◌, map}
use Rattle.std.specs.VecDeque.Iter.{deque_iter_rest}
use Rattle.mtune_files.specs.Mem.{next_failure, bytes_before, setting_of}
use Rattle.mtune_files.proofs.mem.MemFiles.next_failure.Given as goal

abbrev pub invariant-loop-failure : goal.invariant-loop-failure
invariant-loop-failure l = next_failure l.self ≡ bytes_before l.call (map setting_of (deque_iter_rest l.failure-iterator))
