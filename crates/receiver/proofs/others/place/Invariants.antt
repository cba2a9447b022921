use Rattle.std.proofs.Common.{◌<◌, ℕ, map, slice_index}
use Rattle.receiver.specs.Params.{rank_at}
use Rattle.receiver.proofs.others.place.Given as goal

abbrev pub invariant-loop-at : goal.invariant-loop-at
invariant-loop-at l = (k : ℕ) → k < l.at → slice_index (map rank_at l.others) k < l.rank
