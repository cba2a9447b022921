-- What is made by a plan on bend and MPE.
use Rattle.std.proofs.Common.{◌≡◌, ◌≤◌, ◌⊎◌, ℕ, zero, suc, List, [], Bool, true, false, Option, Some, None, Result, Ok, Err, length, refl, ap, sym, subst, ◌∙◌, inl, inr, arith}
use Rattle.std.specs.Prelude.{OnOk}
use Rattle.mt_base.specs.Midi.{MidiEvent}
use Rattle.midi_model.specs.FileText.{MidiFile}
use Rattle.midi_model.specs.Merged.{merged, IsPlayable}
use Rattle.midi_model.specs.Writing.{Written, file_bytes}
use Rattle.event_stream.specs.Distributed.{StandFor}
use Rattle.retune_model.specs.Options.{Route, ByDump, ByLive, ByBend, ByMpe, Options, bends_notes}
use Rattle.retune_model.specs.Faults.{Targets}
use Rattle.retune_model.specs.SourceFaults.{IsFaultless}
use Rattle.channel_model.specs.Refusals.{FitsOn}
use Rattle.channel_plan.specs.Layouts.{IsLayoutOf}
use Rattle.channel_plan.specs.Passing.{AreAsked}
use Rattle.channel_plan.specs.Planned.{IsPlan}
use Rattle.channel_plan.specs.Refused.{IsTaken, IsRefused}
use Rattle.channel_plan.specs.declared.plan.Plan.{Plan}
use Rattle.channel_plan.specs.declared.fault.PlanFault.{PlanFault}
use Rattle.channel_plan.specs.declared.fault.PlanFault.TheVariants as plans
use Rattle.routes.specs.Laws.{PlayableMayBePut, PutIsDealt}
use Rattle.routes.specs.Putting.{put_all, AllMayPut}
use Rattle.mtune_core.specs.declared.made.Made.{Made}
use Rattle.mtune_core.specs.Asked.{AreInRange, layout_by}
use Rattle.mtune_core.specs.Causes.{of_plan}
use Rattle.mtune_core.specs.OutputLaws.{IsSourceOf, PlannedIsPlayable}
use Rattle.mtune_core.specs.Report.{report_of}
use Rattle.mtune_core.specs.Retuned.{EventCause}
use Rattle.mtune_core.specs.Output.{routed_file}
use Rattle.mtune_core.specs.Written.{IsByPlan, IsFileMade, IsWritten, plan_written, planned_events, planned_file}
use Rattle.mtune_core.proofs.Plans.{by_route}
use Rattle.mtune_core.proofs.PlaysSame.{PlayableIsInOrder}
use Rattle.mtune_core.proofs.Put.{few_tracks}

-- ---- a plan

-- what holds of the options, channels, table and events that are used holds of those that are asked for
pub given : (P : Options → (ℕ → Bool) → Targets → List MidiEvent → Type 0) (o p : Options) (a b : ℕ → Bool) (t u : Targets) (es fs : List MidiEvent)
    → p ≡ o → b ≡ a → u ≡ t → fs ≡ es → P p b u fs → P o a t es
given P o p a b t u es fs options allowed table events h =
    subst (λ x. P o a t x) events (subst (λ x. P o a x fs) table (subst (λ x. P o x u fs) allowed (subst (λ x. P x b u fs) options h)))

-- the other way round
pub given_back : (P : Options → (ℕ → Bool) → Targets → List MidiEvent → Type 0) (o p : Options) (a b : ℕ → Bool) (t u : Targets)
    (es fs : List MidiEvent)
    → p ≡ o → b ≡ a → u ≡ t → fs ≡ es → P o a t es → P p b u fs
given_back P o p a b t u es fs options allowed table events h = given P p o b a u t fs es (sym options) (sym allowed) (sym table) (sym events) h

pub layout_fits : (r : Route) (channels : ℕ) → IsLayoutOf r (layout_by r channels)
layout_fits ByDump channels = tt
layout_fits ByLive channels = tt
layout_fits ByBend channels = tt
layout_fits ByMpe channels = tt

pub are_asked : PlayableIsInOrder → (n : ℕ) (es : List MidiEvent) → IsPlayable n es → n ≤ 1024 → length es ≤ 2097152 → AreAsked es
are_asked order n es playable few many =
    record { valid = playable.valid; order = order n es playable; tracks = few_tracks n es playable few; few = many }

pub cause_of_plan : (e : PlanFault) (o : Options) (allowed : ℕ → Bool) (table : Targets) (es : List MidiEvent) → IsRefused o allowed table es e
    → EventCause o allowed table es (of_plan e)
cause_of_plan (plans.Source f) o allowed table es h = h
cause_of_plan (plans.TooManyParts port parts) o allowed table es h = h
cause_of_plan (plans.TooManyChannels t) o allowed table es h = h
cause_of_plan plans.Memory o allowed table es h = tt

-- ---- what is put by it

pub on_ok : {A E P Q : Type 0} (r : Result A E) → (P → Q) → OnOk r P → OnOk r Q
on_ok (Ok x) f h = f h
on_ok (Err e) f h = tt

pub stands_for : {A E : Type 0} → PutIsDealt → (r : Result A E) (n : ℕ) (old new : List Written) (es : List MidiEvent) → StandFor old n []
    → OnOk r (new ≡ put_all old es) → IsPlayable n es
    → OnOk r (StandFor new n es)
stands_for dealt r n old new es begun put playable = on_ok r (λ h. h ∙ ap (λ (w : List Written). put_all w es) begun ∙ dealt n es playable) put

pub source_of : (o : Options) (allowed : ℕ → Bool) (table : Targets) (source : MidiFile) (plan : Plan) (es : List MidiEvent) → es ≡ merged source
    → IsPlayable (length source.tracks) es
    → bends_notes o.route ≡ true → AreInRange o → IsTaken o allowed table (merged source) → IsPlan o allowed table (merged source) plan
    → IsSourceOf o allowed table source plan
source_of o allowed table source plan es same playable bends range taken is = record {
  playable = subst (IsPlayable (length source.tracks)) same playable;
  bends = bends;
  range = range;
  taken = taken;
  is_plan = is;
}

pub may_be_put : PlayableMayBePut → PlannedIsPlayable → (o : Options) (allowed : ℕ → Bool) (table : Targets) (source : MidiFile) (plan : Plan)
    (texts : List Written)
    → IsSourceOf o allowed table source plan → StandFor texts (length source.tracks) []
    → AllMayPut texts (planned_events o.route o allowed table plan (merged source))
may_be_put may law o allowed table source plan texts h none =
    let events = planned_events o.route o allowed table plan (merged source) in
    subst (λ (w : List Written). AllMayPut w events) (sym none) (may (length source.tracks) events (law o allowed table source plan h))

-- what is put by the parts' options and table is put by those that are given
pub put_by_plan : {A E : Type 0} → PutIsDealt → (r : Result A E) (n : ℕ) (old new : List Written) (write : Options → Targets → List MidiEvent
    → List MidiEvent)
    (o p : Options) (t u : Targets) (es fs wanted : List MidiEvent) → StandFor old n [] → p ≡ o → u ≡ t → fs ≡ es → write o t es ≡ wanted
    → OnOk r (new ≡ put_all old (write p u fs))
    → IsPlayable n wanted → OnOk r (StandFor new n wanted)
put_by_plan dealt r n old new write o p t u es fs wanted none options table events same put playable =
    let all : write p u fs ≡ wanted = ap (λ x. write x u fs) options ∙ ap (λ x. write o x fs) table ∙ ap (λ x. write o t x) events ∙ same in
    stands_for dealt r n old new wanted none (on_ok r (λ h. h ∙ ap (λ w. put_all old w) all) put) playable

pub formats : (f k n : ℕ) → f ≤ 1 → (f ≡ 0 → n ≡ 1) → k ≡ n → ((f ≡ 0) × (k ≡ 1)) ⊎ (f ≡ 1)
formats zero k n few one same = inl (refl, same ∙ one refl)
formats (suc zero) k n few one same = inr refl
formats (suc (suc f)) k n few one same = absurd (omega (arith, few))

-- ---- the file

-- it is written so, by this plan
abbrev IsSo : Options → (ℕ → Bool) → Targets → MidiFile → MidiFile → Option Plan → Route → Type 0
IsSo o allowed table source file plan r = (w : IsWritten r o allowed table source file) × (plan_written r o allowed table source file w ≡ plan)

its_file : (audit : Bool) (o : Options) (allowed : ℕ → Bool) (table : Targets) (source file : MidiFile) (plan : Option Plan) (made : Made)
    → IsSo o allowed table source file plan o.route → IsTaken o allowed table (merged source) → made.output.items ≡ file_bytes file
    → made.report.items ≡ report_of audit o table plan (merged source) → IsFileMade audit o allowed table source made
its_file audit o allowed table source file plan made so taken output report = record {
  taken = taken;
  file = file;
  written = so.0;
  output = output;
  report = report ∙ ap (λ p. report_of audit o table p (merged source)) (sym so.1);
}

pub file_made : (audit : Bool) (o : Options) (allowed : ℕ → Bool) (table : Targets) (source : MidiFile) (plan : Plan) (made : Made)
    → bends_notes o.route ≡ true → IsPlan o allowed table (merged source) plan → IsTaken o allowed table (merged source)
    → made.output.items ≡ file_bytes (planned_file o allowed table plan source)
    → made.report.items ≡ report_of audit o table (Some plan) (merged source) → IsFileMade audit o allowed table source made
file_made audit o allowed table source plan made bends is taken output report =
    let file = planned_file o allowed table plan source in
    let by : IsByPlan o allowed table source file = record { plan = plan; is_plan = is; exact = refl } in
    its_file audit o allowed table source file (Some plan) made
    (by_route o (IsSo o allowed table source file (Some plan)) bends (λ e. (by, refl)) (λ e. (by, refl))) taken output report

-- on dump and live, where nothing is planned
pub plain_made : (audit : Bool) (o : Options) (allowed : ℕ → Bool) (table : Targets) (source : MidiFile) (made : Made)
    → bends_notes o.route ≡ false → IsFaultless o table (merged source) → made.output.items ≡ file_bytes (routed_file o table source)
    → made.report.items ≡ report_of audit o table None (merged source) → IsFileMade audit o allowed table source made
plain_made audit o allowed table source made plain faultless output report =
    let file = routed_file o table source in
    its_file audit o allowed table source file None made (so o.route plain) (record { faultless = faultless; fits = fits o.route plain }) output
    report
  where
    so : (r : Route) → bends_notes r ≡ false → IsSo o allowed table source (routed_file o table source) None r
    so ByDump e = (refl, refl)
    so ByLive e = (refl, refl)
    so ByBend e = absurd cc
    so ByMpe e = absurd cc

    fits : (r : Route) → bends_notes r ≡ false → FitsOn r o allowed table (merged source)
    fits ByDump e = tt
    fits ByLive e = tt
    fits ByBend e = absurd cc
    fits ByMpe e = absurd cc
