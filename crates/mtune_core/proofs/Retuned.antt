-- What an input gives, and what is refused of it.
use Rattle.std.proofs.Common.{Fits, w8, suc, ◌∷◌, [], ◌≡◌, ◌<◌, ◌≤◌, ℕ, List, Bool, true, false, cond, Option, Some, None, length, get_or, refl, ap, sym, subst, ◌∙◌, arith}
use Rattle.std.specs.Prelude.{Result, Ok, Err, IfOk, IfErr, OnOk}
use Rattle.std.specs.List.{AllByRecursion}
use Rattle.mt_base.specs.Midi.{MidiEvent}
use Rattle.midi_model.specs.FileText.{MidiFile}
use Rattle.midi_model.specs.Merged.{merged, IsPlayable}
use Rattle.midi_model.specs.Spelling.{Spells}
use Rattle.retune_model.specs.Options.{Route, ByDump, ByLive, ByBend, ByMpe, Options, bends_notes}
use Rattle.retune_model.specs.Faults.{Targets}
use Rattle.retune_model.specs.FaultLaws.{NoFirstNoFault}
use Rattle.retune_model.specs.SourceFaults.{IsFaultless, first_fault}
use Rattle.lifetimes.specs.declared.fault.StepFault.{StepFault}
use Rattle.lifetimes.specs.declared.fault.StepFault.TheVariants as step
use Rattle.lifetimes.specs.Told.{told_fault, IsCaused}
use Rattle.channel_plan.specs.declared.plan.Plan.{Plan}
use Rattle.key_report.specs.KeyLaws.{KeyErrorsHold}
use Rattle.key_report.specs.Targets.{IsDevice}
use Rattle.audit_report.specs.Laws.{NoteErrorsHold, EachNoteIsTold}
use Rattle.audit_report.specs.Played.{played_notes}
use Rattle.mtune_core.specs.declared.outcome.Fault.{Fault}
use Rattle.mtune_core.specs.declared.outcome.Fault.TheVariants.{Source, TooManyParts, TooManyChannels, Memory}
use Rattle.mtune_core.specs.declared.made.Made.{Made}
use Rattle.mtune_core.specs.Causes.{of_step}
use Rattle.command_line.specs.Words.{Command}
use Rattle.mtune_core.specs.Asked.{AreInRange, allowed_by}
use Rattle.mtune_core.specs.Limits.{input_limit}
use Rattle.mtune_core.specs.Made.{MadeOf}
use Rattle.mtune_core.specs.Output.{with_events}
use Rattle.mtune_core.specs.OutputLaws.{IsOutput, OutputIsSpelt, OutputPlaysTheSame, BentUsesFewest, ZonedUsesFewest}
use Rattle.mtune_core.specs.Report.{bend_range, uses_key, report_of}
use Rattle.mtune_core.specs.Retuned.{EventCause, InputCause, IsMadeOn, plan_of}
use Rattle.mtune_core.specs.Written.{IsWritten, IsFileMade, plan_written, planned_events}
use Rattle.mtune_core.proofs.Writable.{division_below}

-- ---- the first pass

pub no_fault : {A : Type 0} → NoFirstNoFault → (r : Result A StepFault) (o : Options) (table : Targets) (es : List MidiEvent)
    → told_fault r ≡ first_fault o table es → OnOk r (IsFaultless o table es)
no_fault law (Ok x) o table es h = law o table es (sym h)
no_fault law (Err e) o table es h = tt

-- without a tail no memory is wanting
pub its_cause : (e : StepFault) (o : Options) (allowed : ℕ → Bool) (table : Targets) (es : List MidiEvent) (tail : ℕ) → tail ≡ 0 → IsCaused tail e
    → told_fault {A = ℕ} (Err e) ≡ first_fault o table es → EventCause o allowed table es (of_step e)
its_cause (step.Source f) o allowed table es tail zero caused h = sym h
its_cause step.Memory o allowed table es tail zero caused h = absurd (omega (arith, zero, caused))

-- ---- the input

pub below : (xs : List ℕ) → ((i : ℕ) → Fits w8 (get_or xs i 0)) → AllByRecursion (λ (b : ℕ). b < 256) xs
below [] h = tt
below (x ∷ xs) h = (omega (arith, h 0), below xs (λ i. h (suc i)))

-- what is refused of a file that some bytes spell
pub input_refused : (c : Command) (table : Targets) (input : List ℕ) (source : MidiFile) (fault : Fault) → Spells input source
    → EventCause c.options (allowed_by c) table (merged source) fault → InputCause c table input fault
input_refused c table input source (Source f) spelled h = (source, spelled, h)
input_refused c table input source (TooManyParts port parts) spelled h = (source, spelled, h)
input_refused c table input source (TooManyChannels t) spelled h = (source, spelled, h)
input_refused c table input source Memory spelled h = tt
input_refused c table input source fault spelled h = absurd h

pub input_refuses : {T : Type 0} (r : Result T Fault) (c : Command) (table : Targets) (input : List ℕ) (source : MidiFile) → Spells input source
    → IfErr r (EventCause c.options (allowed_by c) table (merged source)) → IfErr r (λ e. InputCause c table input e)
input_refuses (Ok x) c table input source spelled h = tt
input_refuses (Err fault) c table input source spelled h = input_refused c table input source fault spelled h

-- What it rests on, as contracts have it.
pub record MadeLaws : Type 0 where
  pub spelt : OutputIsSpelt
  pub same : OutputPlaysTheSame
  pub bend : BentUsesFewest
  pub mpe : ZonedUsesFewest
  pub errors : KeyErrorsHold
  pub notes : NoteErrorsHold
  pub lines : EachNoteIsTold

-- it is the file that the route makes, with the same plan
abbrev IsSo : Route → (o : Options) (allowed : ℕ → Bool) (table : Targets) (source file : MidiFile) → Option Plan → Type 0
IsSo r o allowed table source file plan = (m : IsMadeOn r o allowed table source file) × (plan_of r o allowed table source file m ≡ plan)

-- the file that is written, by the route
made_on : MadeLaws → (o : Options) (allowed : ℕ → Bool) (table : Targets) (source file : MidiFile) (h : IsOutput o allowed table source file)
    → IsSo o.route o allowed table source file (plan_written o.route o allowed table source file h.written)
made_on laws o allowed table source file h = pick o.route refl h.written
  where
    pick : (r : Route) → o.route ≡ r → (w : IsWritten r o allowed table source file)
        → IsSo r o allowed table source file (plan_written r o allowed table source file w)
    pick ByDump e w = (w, refl)
    pick ByLive e w = (w, refl)
    pick ByBend e w = (
      record {
        plan = w.plan;
        is_plan = w.is_plan;
        exact_file = w.exact ∙ ap (λ r. with_events source (planned_events r o allowed table w.plan (merged source))) e;
        fewest = laws.bend o allowed table source file e h;
      },
      refl,
    )
    pick ByMpe e w = (
      record {
        plan = w.plan;
        is_plan = w.is_plan;
        exact_file = w.exact ∙ ap (λ r. with_events source (planned_events r o allowed table w.plan (merged source))) e;
        fewest = laws.mpe o allowed table source file e h;
      },
      refl,
    )

-- what the options ask of a device
pub of_device : (o : Options) → 1 ≤ o.range → o.range ≤ 96 → IsDevice (bend_range o)
of_device o some few = pick (bends_notes o.route)
  where
    pick : (b : Bool) → IsDevice (cond b (Some o.range) None)
    pick true = (some, few)
    pick false = tt

pub made_is_retuned : MadeLaws → (r : Result Made Fault) (c : Command) (table : Targets) (input : List ℕ) (source : MidiFile) → AreInRange c.options
    → ((key onset : ℕ) → table key onset ≡ table key 0) → Spells input source → length input ≤ input_limit → AllByRecursion (λ (b : ℕ). b < 256) input
    → IsPlayable (length source.tracks) (merged source) → IfOk r (IsFileMade c.audit c.options (allowed_by c) table source)
    → IfOk r (λ made. MadeOf c table input made.output.items made.report.items)
made_is_retuned laws (Ok made) c table input source range one spelled short bytes playable m = λ scaling is_table few. (
    let o = c.options in
    let h : IsOutput o (allowed_by c) table source m.file = record { playable = playable; range = range; taken = m.taken; written = m.written } in
    let made = made_on laws o (allowed_by c) table source m.file h in
    let device = of_device o range.range_some range.range_high in
    record {
      source = source;
      out = m.file;
      spelled = spelled;
      taken = m.taken;
      is_out = subst (λ (b : List ℕ). Spells b m.file) (sym m.output)
          (laws.spelt input source m.file o (allowed_by c) table spelled short (division_below input source spelled bytes) h);
      same = laws.same scaling o (allowed_by c) table source m.file is_table.is_table few one h;
      made = made.0;
      exact_bytes = m.output;
      errors = laws.errors scaling table (bend_range o) 0 (λ key. uses_key o key (merged source)) is_table.is_table few device;
      note_errors = laws.notes scaling table (bend_range o) (played_notes o (merged source)) is_table.is_table few device;
      note_lines = laws.lines o table (merged source) playable.valid m.taken.faultless;
      is_report = m.report ∙ ap (λ p. report_of c.audit o table p (merged source)) (sym made.1);
    })
made_is_retuned laws (Err fault) c table input source range one spelled short bytes playable m = tt
