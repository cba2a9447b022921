use Rattle.std.proofs.Common.{◌≡◌, ◌<◌, ℕ, drop}
use Rattle.midi_model.specs.Tuning.{retuned}
use Rattle.receiver.specs.Tunings.{value_in}
use Rattle.receiver.proofs.tunings.Tunings.change.Given as goal

abbrev pub invariant-loop-change : goal.invariant-loop-change
invariant-loop-change l = (p k : ℕ) → p < 128 → k < 128
    → retuned l.program (drop l.change-index l.list) (value_in l.self) p k ≡ retuned l.program l.list (value_in l.initial.self) p k
