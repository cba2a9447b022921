use Rattle.std.proofs.Common.{◌≤◌, ◌<◌, ℕ, List}
use Rattle.mt_base.specs.Midi.{MidiEvent}
use Rattle.retune_model.specs.Options.{Options}
use Rattle.retune_model.specs.Faults.{Targets}
use Rattle.channel_model.specs.Refusals.{HasFewParts}
use Rattle.channel_plan.specs.Surveys.{Surveys}
use Rattle.channel_plan.proofs.planning.crowded.Given as goal

abbrev pub invariant-loop-number : goal.invariant-loop-number
invariant-loop-number l = record {
  within : l.number ≤ 256;
  few : (o : Options) (table : Targets) (es : List MidiEvent) → Surveys o table es l.survey → (z : ℕ) → z < l.number → HasFewParts o es z;
}
