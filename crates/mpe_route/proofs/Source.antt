-- A source with a plan of the program is one with zones and plans for each of its ports.
use Rattle.std.proofs.Common.{◌≡◌, ℕ, List, Some, ap, subst, length}
use Rattle.mt_base.specs.Midi.{MidiEvent}
use Rattle.retune_model.specs.Options.{Options, Route, bends_notes, has_drums, keeps_drums}
use Rattle.retune_model.specs.Faults.{Targets}
use Rattle.retune_model.specs.Ports.{of_port, events_on}
use Rattle.retune_model.specs.Pairs.{Pair}
use Rattle.retune_model.specs.Places.{nth}
use Rattle.retune_model.specs.SourceFaults.{IsSound}
use Rattle.channel_model.specs.MpeOutput.{Zone, zone_of}
use Rattle.channel_model.specs.BendOutput.{runs_on}
use Rattle.channel_model.specs.Refusals.{FitsOn}
use Rattle.channel_model.specs.Rows.{zones_on, zone_row}
use Rattle.mpe_laws.specs.Sources.{on_port, in_its_zone, IsMpe, IsPlannedMpe}
use Rattle.mpe_laws.specs.FileLaws.{PlansServe}
use Rattle.mpe_laws.proofs.Standing.{Laws}
use Rattle.mpe_laws.proofs.Planning.{IsPlanned}
use Rattle.mpe_laws.proofs.Allowed.{Asked, allowed_zones, allowed_as}
use Rattle.mpe_laws.proofs.Ported.{PortFacts, planned_port}
use Rattle.channel_plan.specs.Planned.{GivesChannels, GivesInZone, zone_position, row_of, zone_channel}
use Rattle.channel_plan.specs.declared.plan.Plan.{Plan}
use Rattle.mpe_route.specs.Planned.{planned_channel}
use Rattle.mpe_route.specs.Laws.{IsZonable}
use Rattle.mpe_laws.proofs.Whole.{parts_stay}

pub sound_of : (o : Options) (table : Targets) (es : List MidiEvent) (plan : Plan) → IsZonable o table es plan → IsSound o table es
sound_of o table es plan h =
    record { bends = ap bends_notes h.route; in_order = h.in_order; faultless = h.planned.taken.faultless }

-- what the plan gives in each zone
pub gives_in : (o : Options) (table : Targets) (es : List MidiEvent) (plan : Plan) → IsZonable o table es plan
    → (z i : ℕ) (w : Zone) → nth i (zones_on o table es z) ≡ Some w → GivesInZone o table es plan z w
gives_in o table es plan h = subst (λ (r : Route). GivesChannels r o h.planned.allowed table es plan) h.route h.planned.gives.channels

planned_mpe : (o : Options) (table : Targets) (es : List MidiEvent) (plan : Plan) → IsZonable o table es plan
    → IsPlannedMpe o table es (zone_channel o table es plan)
planned_mpe o table es plan h = record {
  route = h.route;
  range = h.range;
  valid = h.valid;
  sound = sound_of o table es plan h;
  fits = subst (λ (r : Route). FitsOn r o h.planned.allowed table es) h.route h.planned.taken.fits;
  plans = λ z i w is. record {
    instant = zone_position o table es z w;
    row = row_of o es plan (zone_row w);
    plan = (gives_in o table es plan h z i w is).chosen;
  };
}

pub is_mpe : PlansServe → (o : Options) (table : Targets) (es : List MidiEvent) (plan : Plan) → IsZonable o table es plan
    → IsMpe o table es (zones_on o table es) (planned_channel o table es plan)
is_mpe serve o table es plan h = serve o table es (zone_channel o table es plan) (planned_mpe o table es plan h)

-- the channel of a pair's run in its zone
pub in_zone_is : (o : Options) (table : Targets) (es : List MidiEvent) (plan : Plan) (z k : ℕ) (p : Pair) (w : Zone)
    → zone_of p.part.channel (zones_on o table es z) ≡ Some w → planned_channel o table es plan z k p ≡ zone_channel o table es plan z w k p
in_zone_is o table es plan z k p w of = ap (in_its_zone (zone_channel o table es plan z) k p) of

-- ---- a port

pub asked_port : Laws → (o : Options) (table : Targets) (es : List MidiEvent) (zones : ℕ → List Zone) (channel : ℕ → ℕ → Pair → ℕ)
    → IsMpe o table es zones channel → (z : ℕ) → Asked (on_port o es z) (zones z)
asked_port laws o table es zones channel b z =
    allowed_zones laws (on_port o es z) b.route (zones z)
    (allowed_as o (on_port o es z) (keeps_drums o (events_on z es)) (parts_stay o.keep_drums (has_drums (events_on z es))) (zones z)
    (b.ports z).allowed)

pub planned_there : Laws → PortFacts → (o : Options) (table : Targets) (es : List MidiEvent) (zones : ℕ → List Zone)
    (channel : ℕ → ℕ → Pair → ℕ) → IsMpe o table es zones channel → (z : ℕ)
    → IsPlanned o table (zones z) (runs_on o table es channel z) (of_port z es) (length es)
planned_there laws facts o table es zones channel b z =
    planned_port facts o table es zones channel b z (on_port o es z) (asked_port laws o table es zones channel b z)
