use Rattle.std.proofs.Common.{◌≡◌, ◌<◌, ℕ, drop, length}
use Rattle.midi_model.specs.Tuning.{retuned}
use Rattle.midi_model.specs.TuningBytes.{numbered}
use Rattle.receiver.specs.Tunings.{value_in}
use Rattle.receiver.proofs.tunings.Tunings.fill.Given as goal

abbrev pub invariant-loop-key : goal.invariant-loop-key
invariant-loop-key l = record {
  length : length l.values ≡ 128;
  values : (p k : ℕ) → p < 128 → k < 128
      → retuned l.program (numbered l.key (drop l.key l.values)) (value_in l.self) p k ≡ retuned l.program (numbered 0 l.values) (value_in l.initial.self) p k;
}
