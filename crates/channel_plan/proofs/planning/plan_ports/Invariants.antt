use Rattle.std.proofs.Common.{◌≤◌, List}
use Rattle.mt_base.specs.Midi.{MidiEvent}
use Rattle.retune_model.specs.Faults.{Targets}
use Rattle.lifetimes.specs.Views.{options_of}
use Rattle.channel_plan.specs.Layouts.{allows}
use Rattle.channel_plan.specs.Surveyed.{IsSurveyed, ArePlannedTo}
use Rattle.channel_plan.proofs.planning.plan_ports.Given as goal

abbrev pub invariant-loop-number : goal.invariant-loop-number
invariant-loop-number l = record {
  within : l.number ≤ 256;
  planned : (table : Targets) (es : List MidiEvent) → IsSurveyed (options_of l.options) table es l.survey l.layout l.row.items
      → ArePlannedTo (options_of l.options) (allows l.layout) table es l.number l.needs.numbers.items l.needs.ports.items;
}
