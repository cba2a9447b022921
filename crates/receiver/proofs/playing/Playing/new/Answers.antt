use Rattle.std.proofs.Common.{slice_index, ap, ◌∙◌}
use Rattle.receiver.proofs.Low.{zero_of}
use Rattle.receiver.proofs.playing.Playing.new.Goals as goal

pub invariant_of-result : goal.invariant_of-result
invariant_of-result c = record { calm = λ k below silent. ap (λ ks. slice_index ks k) c.new.ensures.keys ∙ zero_of 128 k }
