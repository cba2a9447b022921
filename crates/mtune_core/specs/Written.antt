-- What the program writes for a source, and what it says of a plan.
use Rattle.std.specs.Prelude.{◌≡◌, ◌++◌, ℕ, List, [], Bool, Option, Some, None}
use Rattle.mt_base.specs.Midi.{MidiEvent}
use Rattle.midi_model.specs.FileText.{MidiFile}
use Rattle.midi_model.specs.Merged.{merged}
use Rattle.midi_model.specs.Writing.{file_bytes}
use Rattle.retune_model.specs.Options.{Route, ByDump, ByLive, ByBend, ByMpe, Options}
use Rattle.retune_model.specs.Faults.{Targets}
use Rattle.channel_plan.specs.Planned.{IsPlan}
use Rattle.channel_plan.specs.Refused.{IsTaken}
use Rattle.channel_plan.specs.declared.plan.Plan.{Plan}
use Rattle.mpe_route.specs.Planned.{zoned}
use Rattle.route_bend.specs.Bent.{bent}
use Rattle.mtune_core.specs.declared.made.Made.{Made}
use Rattle.mtune_core.specs.Output.{routed_file, with_events}
use Rattle.mtune_core.specs.Report.{report_of, needs_told}

-- the events that are written by a plan; on dump and live there is none
abbrev pub planned_events : Route → Options → (ℕ → Bool) → Targets → Plan → List MidiEvent → List MidiEvent
planned_events ByBend o allowed table plan es = bent o allowed table es plan
planned_events ByMpe o allowed table plan es = zoned o table es plan
planned_events _ o allowed table plan es = []

abbrev pub planned_file : Options → (ℕ → Bool) → Targets → Plan → MidiFile → MidiFile
planned_file o allowed table plan source = with_events source (planned_events o.route o allowed table plan (merged source))

-- a plan, and the file that is written by it
pub record IsByPlan (o : Options) (allowed : ℕ → Bool) (table : Targets) (source file : MidiFile) : Type 0 where
  pub plan : Plan
  pub is_plan : IsPlan o allowed table (merged source) plan
  pub exact : file ≡ planned_file o allowed table plan source

abbrev pub IsWritten : Route → Options → (ℕ → Bool) → Targets → MidiFile → MidiFile → Type 0
IsWritten ByDump o allowed table source file = file ≡ routed_file o table source
IsWritten ByLive o allowed table source file = file ≡ routed_file o table source
IsWritten ByBend o allowed table source file = IsByPlan o allowed table source file
IsWritten ByMpe o allowed table source file = IsByPlan o allowed table source file

-- the plan by which it is written, if there is one
abbrev pub plan_written : (r : Route) (o : Options) (allowed : ℕ → Bool) (table : Targets) (source file : MidiFile)
    → IsWritten r o allowed table source file → Option Plan
plan_written ByDump o allowed table source file h = None
plan_written ByLive o allowed table source file h = None
plan_written ByBend o allowed table source file h = Some h.plan
plan_written ByMpe o allowed table source file h = Some h.plan

-- What is made of a source that isn't refused: the bytes of the file that is written, and the report, with an audit or without.
pub record IsFileMade (audit : Bool) (o : Options) (allowed : ℕ → Bool) (table : Targets) (source : MidiFile) (made : Made) : Type 0 where
  pub taken : IsTaken o allowed table (merged source)
  pub file : MidiFile
  pub written : IsWritten o.route o allowed table source file
  pub output : made.output.items ≡ file_bytes file
  pub report : made.report.items
      ≡ report_of audit o table (plan_written o.route o allowed table source file written) (merged source)

-- what is said of the needs of a source is put behind a text, whichever source the plan is of
abbrev pub IsSaidOf : Plan → Route → List ℕ → List ℕ → Type 0
IsSaidOf plan route old new = (o : Options) (allowed : ℕ → Bool) (table : Targets) (es : List MidiEvent) → o.route ≡ route
    → IsPlan o allowed table es plan → new ≡ old ++ needs_told route o table es
