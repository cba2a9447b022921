-- What the bend route writes for a source with a plan of its channels.
use Rattle.std.specs.Prelude.{ℕ, List, Bool}
use Rattle.mt_base.specs.Midi.{MidiEvent}
use Rattle.midi_model.specs.Writing.{Written}
use Rattle.retune_model.specs.Options.{Options}
use Rattle.retune_model.specs.Faults.{Targets}
use Rattle.channel_model.specs.BendOutput.{bend_output}
use Rattle.channel_plan.specs.declared.plan.Plan.{Plan}
use Rattle.channel_plan.specs.Planned.{IsPlan, bend_channel}
use Rattle.channel_plan.specs.Refused.{IsTaken}
use Rattle.routes.specs.Putting.{AllMayPut}

-- the output of the bend route, each run on the channel that the plan gives its notes
abbrev pub bent : Options → (ℕ → Bool) → Targets → List MidiEvent → Plan → List MidiEvent
bent o allowed table es plan = bend_output o table (bend_channel o allowed table es plan) es

-- A plan of some allowed channels, whose output may be put into tracks.
pub record IsPlanned (o : Options) (table : Targets) (es : List MidiEvent) (plan : Plan) (texts : List Written) : Type 0 where
  pub allowed : ℕ → Bool
  pub planned : IsPlan o allowed table es plan
  pub may : AllMayPut texts (bent o allowed table es plan)

-- A plan that was built of these events: one of some allowed channels, where the source isn't refused.
pub record IsPlanOf (o : Options) (table : Targets) (es : List MidiEvent) (plan : Plan) : Type 0 where
  pub allowed : ℕ → Bool
  pub gives : IsPlan o allowed table es plan
  pub taken : IsTaken o allowed table es
