use Rattle.std.proofs.Common.{◌≡◌, ℕ, ◌<◌, length, get_or, None}
use Rattle.std.specs.List.{AllByRecursion}
use Rattle.midi_model.specs.TuningBytes.{IsTuningValue}
use Rattle.retune_model.specs.Dump.{tuning_at}
use Rattle.routes.proofs.device.dump_targets.Given as goal

abbrev pub invariant-loop-key : goal.invariant-loop-key
invariant-loop-key g l = record {
  full : length l.targets ≡ 128;
  each : (k : ℕ) → k < l.key → get_or l.targets k None ≡ tuning_at (g.T.Aims.table l.table) k;
  fit : AllByRecursion IsTuningValue l.targets;
}
