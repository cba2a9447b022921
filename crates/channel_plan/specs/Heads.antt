-- Which rows of channels the notes of a source are given, by what is planned for each port.
use Rattle.std.specs.Prelude.{◌≡◌, ℕ, List, [], ◌∷◌, ◌++◌, Some, None, map, length, min}
use Rattle.mt_base.specs.Midi.{MidiEvent}
use Rattle.retune_model.specs.Options.{Options}
use Rattle.retune_model.specs.Faults.{Targets}
use Rattle.channel_model.specs.MpeOutput.{Zone as ZoneOf, members_from}
use Rattle.channel_plan.specs.Serving.{Head}
use Rattle.channel_plan.specs.Stepping.{IsUsedOf, StandsAt}
use Rattle.channel_plan.specs.declared.layout.Layout.{Layout}
use Rattle.channel_plan.specs.declared.layout.Layout.TheVariants.{Own, Bend, Mpe}
use Rattle.channel_plan.specs.declared.plan.Zone.{Zone}
use Rattle.channel_plan.specs.declared.plan.PortPlan.{PortPlan}
use Rattle.channel_plan.specs.declared.rowing.Used.{Used}

-- a zone as it is kept, with its members; there are never more than 15
abbrev pub zone_by : Zone → ZoneOf
zone_by x = record { part = x.part; upper = x.upper; members = x.need }

abbrev pub zone_head : ℕ → Zone → Head
zone_head z x = record { port = z; part = Some x.part; channels = members_from (zone_by x) 0 (min x.need 15) }

-- of a port: on bend its used row, on MPE one for each zone, on dump and live none
abbrev pub heads_by : Layout → PortPlan → List Head
heads_by Own p = []
heads_by (Bend allowed) p = record { port = p.number; part = None; channels = p.used.items } ∷ []
heads_by Mpe p = map (zone_head p.number) (map (λ q. q.zone) p.zones.items)

abbrev pub heads_of : Layout → List PortPlan → List Head
heads_of layout [] = []
heads_of layout (p ∷ ps) = heads_by layout p ++ heads_of layout ps

-- a row before any event, with a place for each channel
pub record IsFresh (u : Used) : Type 0 where
  pub long : length u.places.items ≡ length u.channels.items
  pub first : (o : Options) (table : Targets) (es : List MidiEvent) (row number : ℕ → ℕ) → IsUsedOf o table es u → StandsAt o table es row number 0 u
