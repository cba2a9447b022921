-- What is planned for a port before its runs are given channels: what it needs, or why it gets no plan.
use Rattle.std.specs.Prelude.{◌≡◌, ℕ, List, Bool, false, None, map, length}
use Rattle.std.specs.List.{AllByRecursion}
use Rattle.mt_base.specs.Midi.{MidiEvent}
use Rattle.mt_base.specs.declared.pair.Pair.{Pair}
use Rattle.retune_model.specs.Options.{Options, ByBend}
use Rattle.retune_model.specs.Ports.{events_on}
use Rattle.retune_model.specs.Faults.{Targets, is_part}
use Rattle.retune_model.specs.Dump.{has_note_on}
use Rattle.retune_model.specs.PortNeed.{pairs_on, need_of}
use Rattle.channel_model.specs.Refusals.{NeedsMore, PortFits, FirstNeedsMore, ZonesFit, zones_allowed, Fits}
use Rattle.channel_model.specs.MpeOutput.{Zone as ZoneOf}
use Rattle.channel_model.specs.Rows.{allowed_row, used_row, zones_on}
use Rattle.lifetimes.specs.Views.{pair_of}
use Rattle.channel_plan.specs.Planned.{instant_of, need_told, position_told, pairs_told, zones_told, zone_told, zone_pairs_told, bend_row, noted_ports}
use Rattle.channel_plan.specs.Refused.{too_many_of}
use Rattle.channel_plan.specs.Told.{port_in}
use Rattle.channel_plan.specs.declared.fault.Instant.{Instant}
use Rattle.channel_plan.specs.declared.fault.PlanFault.{PlanFault}
use Rattle.channel_plan.specs.declared.fault.PlanFault.TheVariants.{TooManyChannels, Memory}
use Rattle.channel_plan.specs.declared.plan.PortPlan.{PortPlan}
use Rattle.channel_plan.specs.declared.plan.ZonePlan.{ZonePlan}

-- what a port needs, the first instant at which it does, and the pairs then
pub record Finds (o : Options) (part : ℕ → Bool) (table : Targets) (es : List MidiEvent) (z need : ℕ) (instant : Instant)
    (pairs : List Pair) : Type 0 where
  pub number : need ≡ (need_of o part table es z).0
  pub first : instant ≡ instant_of es (need_of o part table es z).1
  pub most : map pair_of pairs ≡ pairs_on o part table es z (need_of o part table es z).1

-- a port on bend that fits, with its used row
pub record IsBendPort (o : Options) (allowed : ℕ → Bool) (table : Targets) (es : List MidiEvent) (z : ℕ) (p : PortPlan) : Type 0 where
  pub number : p.number ≡ z
  pub found : Finds o (is_part o) table es z p.need p.instant p.pairs.items
  pub used : p.used.items ≡ used_row o allowed (need_of o (is_part o) table es z).0
  pub fits : PortFits o allowed table es z

-- why a port on bend gets no plan
abbrev pub IsBendFault : Options → (ℕ → Bool) → Targets → List MidiEvent → ℕ → PlanFault → Type 0
IsBendFault o allowed table es z (TooManyChannels t) = NeedsMore o (is_part o) table es z (length (allowed_row o allowed)) (too_many_of t)
IsBendFault o allowed table es z Memory = Unit {0}
IsBendFault o allowed table es z _ = ⊥

-- a zone, with its pairs where there were most
pub record IsZoneTold (o : Options) (table : Targets) (es : List MidiEvent) (z : ℕ) (zone : ZoneOf) (p : ZonePlan) : Type 0 where
  pub told : p.zone ≡ zone_told o table es z zone
  pub pairs : map pair_of p.pairs.items ≡ zone_pairs_told o table es z zone

-- the zones of a port on MPE that fit, the lower one first
pub record AreZones (o : Options) (table : Targets) (es : List MidiEvent) (z : ℕ) (plans : List ZonePlan) : Type 0 where
  pub zones : map (λ p. p.zone) plans ≡ map (zone_told o table es z) (zones_on o table es z)
  pub pairs : map (λ p. map pair_of p.pairs.items) plans ≡ map (zone_pairs_told o table es z) (zones_on o table es z)
  pub fit : ZonesFit o table es z

-- why a port on MPE gets no zones
abbrev pub IsZoneFault : Options → Targets → List MidiEvent → ℕ → PlanFault → Type 0
IsZoneFault o table es z (TooManyChannels t) = FirstNeedsMore o table es z (zones_allowed o table es z) (too_many_of t)
IsZoneFault o table es z Memory = Unit {0}
IsZoneFault o table es z _ = ⊥

-- What is planned for a port, before its runs are given channels and counted.
pub record IsPortPlan (o : Options) (allowed : ℕ → Bool) (table : Targets) (es : List MidiEvent) (z : ℕ) (p : PortPlan) : Type 0 where
  pub number : p.number ≡ z
  pub need : p.need ≡ need_told o table es z
  pub instant : p.instant ≡ instant_of es (position_told o table es z)
  pub pairs : map pair_of p.pairs.items ≡ pairs_told o table es z
  pub zones : map (λ p. p.zone) p.zones.items ≡ map (zone_told o table es z) (zones_told o.route o table es z)
  pub zone_pairs : map (λ p. map pair_of p.pairs.items) p.zones.items ≡ map (zone_pairs_told o table es z) (zones_told o.route o table es z)
  pub used : o.route ≡ ByBend → p.used.items ≡ bend_row o allowed table es z

-- the ports with a retuned note, ascending, each with what is planned for it
pub record ArePorts (o : Options) (allowed : ℕ → Bool) (table : Targets) (es : List MidiEvent) (ports : List PortPlan) : Type 0 where
  pub numbers : map (λ p. p.number) ports ≡ noted_ports o es
  pub each : AllByRecursion (λ (p : PortPlan). IsPortPlan o allowed table es p.number p) ports

-- What is planned for the ports of a source that isn't refused, before any run begins. A port without a plan has no retuned note.
pub record ArePlanned (o : Options) (allowed : ℕ → Bool) (table : Targets) (es : List MidiEvent) (plans : List PortPlan) : Type 0 where
  pub ports : ArePorts o allowed table es plans
  pub begun : AllByRecursion (λ (p : PortPlan). p.runs ≡ 0) plans
  pub silent : (z : ℕ) → port_in plans z ≡ None → has_note_on (is_part o) (events_on z es) ≡ false
  pub fits : Fits o allowed table es
