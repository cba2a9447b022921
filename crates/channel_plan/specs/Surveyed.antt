-- What is known when the ports of a source are planned, and what is planned port by port.
use Rattle.std.specs.Prelude.{◌≡◌, ◌<◌, ◌++◌, ◌-◌, ℕ, List, Bool, map, filter}
use Rattle.std.specs.List.{AllByRecursion}
use Rattle.mt_base.specs.Midi.{MidiEvent}
use Rattle.retune_model.specs.Options.{Options, Route, ByBend, ByMpe}
use Rattle.retune_model.specs.Faults.{Targets}
use Rattle.retune_model.specs.Dump.{from_up}
use Rattle.retune_model.specs.SourceFaults.{IsFaultless}
use Rattle.channel_model.specs.Refusals.{PortFits, ZonesFit, HasFewParts}
use Rattle.channel_model.specs.Rows.{allowed_row}
use Rattle.channel_plan.specs.Layouts.{IsLayoutOf, allows}
use Rattle.channel_plan.specs.Passing.{AreAsked}
use Rattle.channel_plan.specs.Planned.{is_noted, noted_ports}
use Rattle.channel_plan.specs.Finding.{IsBendFault, IsZoneFault, IsPortPlan, ArePlanned}
use Rattle.channel_plan.specs.Surveys.{Surveys}
use Rattle.channel_plan.specs.declared.fault.PlanFault.{PlanFault}
use Rattle.channel_plan.specs.declared.fault.PlanFault.TheVariants.{Memory}
use Rattle.channel_plan.specs.declared.layout.Layout.{Layout}
use Rattle.channel_plan.specs.declared.plan.PortPlan.{PortPlan}
use Rattle.channel_plan.specs.declared.planning.Needs.{Needs}
use Rattle.channel_plan.specs.declared.survey.Survey.{Survey}

-- a port fits; of ports with too many parts more is said apart
abbrev pub FitsAt : Route → Options → (ℕ → Bool) → Targets → List MidiEvent → ℕ → Type 0
FitsAt ByBend o allowed table es z = PortFits o allowed table es z
FitsAt ByMpe o allowed table es z = ZonesFit o table es z
FitsAt _ o allowed table es z = Unit {0}

-- why a port gets no plan
abbrev pub IsFaultAt : Route → Options → (ℕ → Bool) → Targets → List MidiEvent → ℕ → PlanFault → Type 0
IsFaultAt ByBend o allowed table es z f = IsBendFault o allowed table es z f
IsFaultAt ByMpe o allowed table es z f = IsZoneFault o table es z f
IsFaultAt _ o allowed table es z f = f ≡ Memory

-- a port that fits, with its plan before any run begins
pub record IsPlannedAt (o : Options) (allowed : ℕ → Bool) (table : Targets) (es : List MidiEvent) (z : ℕ) (p : PortPlan) : Type 0 where
  pub plan : IsPortPlan o allowed table es z p
  pub begun : p.runs ≡ 0
  pub fits : FitsAt o.route o allowed table es z

-- What is known when the ports are planned; `channels` are the allowed ones on bend. On MPE no port has too many parts.
pub record IsSurveyed (o : Options) (table : Targets) (es : List MidiEvent) (survey : Survey) (of : Layout) (channels : List ℕ) : Type 0 where
  pub surveys : Surveys o table es survey
  pub asked : AreAsked es
  pub faultless : IsFaultless o table es
  pub layout : IsLayoutOf o.route of
  pub row : o.route ≡ ByBend → channels ≡ allowed_row o (allows of)
  pub few : o.route ≡ ByMpe → (z : ℕ) → HasFewParts o es z

-- the ports below n are planned
pub record ArePlannedTo (o : Options) (allowed : ℕ → Bool) (table : Targets) (es : List MidiEvent) (n : ℕ) (zs : List ℕ)
    (plans : List PortPlan) : Type 0 where
  pub numbers : zs ++ filter (is_noted o es) (from_up n (256 - n)) ≡ noted_ports o es
  pub same : map (λ p. p.number) plans ≡ zs
  pub each : AllByRecursion (λ (p : PortPlan). IsPortPlan o allowed table es p.number p) plans
  pub begun : AllByRecursion (λ (p : PortPlan). p.runs ≡ 0) plans
  pub fits : (z : ℕ) → z < n → FitsAt o.route o allowed table es z

-- the ports of a source that isn't refused, with their numbers
pub record AreNeeds (o : Options) (allowed : ℕ → Bool) (table : Targets) (es : List MidiEvent) (needs : Needs) : Type 0 where
  pub numbers : needs.numbers.items ≡ noted_ports o es
  pub planned : ArePlanned o allowed table es needs.ports.items
