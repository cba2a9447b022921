-- What is made of an input, and what is refused of it.
use Rattle.std.specs.Prelude.{ℕ, ◌≡◌, List, Bool, Option, Some, None, All}
use Rattle.std.specs.List.{AllByRecursion}
use Rattle.mt_base.specs.Midi.{MidiEvent}
use Rattle.midi_model.specs.FileText.{MidiFile}
use Rattle.midi_model.specs.Faults.{FirstFault}
use Rattle.midi_model.specs.Merged.{merged}
use Rattle.midi_model.specs.Spelling.{Spells}
use Rattle.midi_model.specs.Writing.{file_bytes}
use Rattle.retune_model.specs.Table.{Scaling}
use Rattle.retune_model.specs.Options.{Route, ByDump, ByLive, ByBend, ByMpe, Options}
use Rattle.retune_model.specs.Faults.{Targets}
use Rattle.retune_model.specs.PlaysTheSame.{PlaysTheSame}
use Rattle.channel_plan.specs.Planned.{IsPlan}
use Rattle.channel_plan.specs.Refused.{IsTaken, IsRefused}
use Rattle.channel_plan.specs.declared.plan.Plan.{Plan}
use Rattle.channel_plan.specs.declared.fault.PlanFault.TheVariants as plans
use Rattle.command_line.specs.Words.{Command}
use Rattle.key_report.specs.KeyLaws.{HasError}
use Rattle.audit_report.specs.Laws.{HasNoteError, HasLine}
use Rattle.audit_report.specs.Played.{played_notes}
use Rattle.mtune_core.specs.declared.outcome.Fault.{Fault}
use Rattle.mtune_core.specs.declared.outcome.Fault.TheVariants.{Smf, Source, TooManyParts, TooManyChannels, Memory}
use Rattle.mtune_core.specs.Asked.{allowed_by}
use Rattle.fewest_laws.specs.Fewest.{IsFewestOn, AreFewestIn}
use Rattle.mtune_core.specs.Output.{routed_file, bent_file, zoned_file}
use Rattle.mtune_core.specs.Report.{bend_range, errors_of, report_of}

-- ---- what is refused

-- The first fault of the events; or where they have none, that on MPE a port has too many parts with notes, or that a port or a zone
-- needs more channels than it may have.
abbrev pub EventCause : Options → (ℕ → Bool) → Targets → List MidiEvent → Fault → Type 0
EventCause o allowed table es (Source f) = IsRefused o allowed table es (plans.Source f)
EventCause o allowed table es (TooManyParts port parts) = IsRefused o allowed table es (plans.TooManyParts port parts)
EventCause o allowed table es (TooManyChannels t) = IsRefused o allowed table es (plans.TooManyChannels t)
EventCause o allowed table es Memory = Unit {0}
EventCause o allowed table es _ = ⊥

-- it is that of the events of the file that some bytes spell
abbrev pub FileCause : Command → Targets → List ℕ → Fault → Type 0
FileCause c table input fault = (source : MidiFile) × Spells input source × EventCause c.options (allowed_by c) table (merged source) fault

-- the first fault of the bytes; or that of the file that they spell
abbrev pub InputCause : Command → Targets → List ℕ → Fault → Type 0
InputCause c table input (Smf offset kind) = FirstFault input offset kind
InputCause c table input Memory = Unit {0}
InputCause c table input fault = FileCause c table input fault

-- ---- what is made

-- On bend the output is just that of a plan: what it plays on the channels that the plan gives each run. On each port it uses the fewest
-- channels.
pub record IsBentBy (o : Options) (allowed : ℕ → Bool) (table : Targets) (source out : MidiFile) : Type 0 where
  pub plan : Plan
  pub is_plan : IsPlan o allowed table (merged source) plan
  pub exact_file : out ≡ bent_file o allowed table plan source
  pub fewest : (z : ℕ) → IsFewestOn o allowed table (merged source) (merged out) z

-- On MPE the same with zones: in each zone it uses the fewest members.
pub record IsZonedBy (o : Options) (allowed : ℕ → Bool) (table : Targets) (source out : MidiFile) : Type 0 where
  pub plan : Plan
  pub is_plan : IsPlan o allowed table (merged source) plan
  pub exact_file : out ≡ zoned_file o table plan source
  pub fewest : (z : ℕ) → AreFewestIn o table (merged source) (merged out) z

-- The file that a route makes of a source; on dump and live there is just one.
abbrev pub IsMadeOn : Route → Options → (ℕ → Bool) → Targets → MidiFile → MidiFile → Type 0
IsMadeOn ByDump o allowed table source out = out ≡ routed_file o table source
IsMadeOn ByLive o allowed table source out = out ≡ routed_file o table source
IsMadeOn ByBend o allowed table source out = IsBentBy o allowed table source out
IsMadeOn ByMpe o allowed table source out = IsZonedBy o allowed table source out

-- the plan by which it is made, if there is one
abbrev pub plan_of : (r : Route) (o : Options) (allowed : ℕ → Bool) (table : Targets) (source out : MidiFile)
    → IsMadeOn r o allowed table source out → Option Plan
plan_of ByDump o allowed table source out h = None
plan_of ByLive o allowed table source out h = None
plan_of ByBend o allowed table source out h = Some h.plan
plan_of ByMpe o allowed table source out h = Some h.plan

-- What is made for a command of an input that has no reason to be refused: bytes that spell a file that plays the same, the file that the
-- route makes, and the report, each error of which holds of the scale. An audit has a line for each retuned note and tells the channels of the
-- file's plan. No event of the source has a fault of the table of source faults, and on bend and MPE it needs no more channels than it may
-- have.
pub record IsRetuned (scaling : Scaling) (c : Command) (table : Targets) (input output report : List ℕ) : Type 0 where
  pub source : MidiFile
  pub out : MidiFile
  pub spelled : Spells input source
  pub taken : IsTaken c.options (allowed_by c) table (merged source)
  pub is_out : Spells output out
  pub same : PlaysTheSame scaling c.options table source out
  pub made : IsMadeOn c.options.route c.options (allowed_by c) table source out
  pub exact_bytes : output ≡ file_bytes out
  pub errors : All (HasError scaling (bend_range c.options) 0) (errors_of c.options table (merged source))
  pub note_errors : AllByRecursion (HasNoteError scaling table (bend_range c.options)) (played_notes c.options (merged source))
  pub note_lines : AllByRecursion (HasLine table (bend_range c.options)) (played_notes c.options (merged source))
  pub is_report : report ≡ report_of c.audit c.options table
      (plan_of c.options.route c.options (allowed_by c) table source out made) (merged source)
