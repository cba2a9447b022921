-- The output of the MPE route by a plan of the program.
use Rattle.std.specs.Prelude.{ℕ, List, Bool}
use Rattle.mt_base.specs.Midi.{MidiEvent}
use Rattle.retune_model.specs.Options.{Options}
use Rattle.retune_model.specs.Faults.{Targets}
use Rattle.retune_model.specs.Pairs.{Pair}
use Rattle.channel_model.specs.MpeOutput.{mpe_output}
use Rattle.channel_model.specs.Rows.{zones_on}
use Rattle.mpe_laws.specs.Sources.{zoned_channel}
use Rattle.channel_plan.specs.Planned.{IsPlan, zone_channel}
use Rattle.channel_plan.specs.Refused.{IsTaken}
use Rattle.channel_plan.specs.declared.plan.Plan.{Plan}

-- A plan of a source that isn't refused, as it is built; on this route any channel is allowed, and none is asked for.
pub record IsPlanOf (o : Options) (table : Targets) (es : List MidiEvent) (plan : Plan) : Type 0 where
  pub allowed : ℕ → Bool
  pub gives : IsPlan o allowed table es plan
  pub taken : IsTaken o allowed table es

-- the member that the run of a pair has on a port at a position
abbrev pub planned_channel : Options → Targets → List MidiEvent → Plan → ℕ → ℕ → Pair → ℕ
planned_channel o table es plan z k p = zoned_channel (zones_on o table es) (zone_channel o table es plan) z k p

-- the output
abbrev pub zoned : Options → Targets → List MidiEvent → Plan → List MidiEvent
zoned o table es plan = mpe_output o table (zones_on o table es) (planned_channel o table es plan) es
