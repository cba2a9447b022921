-- What the report says of the plan of a source, in the words of the definitions: pairs, needs and zones.
use Rattle.std.specs.Prelude.{◌≡◌, ℕ, ◌+◌, List, ◌++◌, Bool, flat_map, sum_by}
use Rattle.mt_base.specs.Midi.{MidiEvent}
use Rattle.retune_model.specs.Options.{Options}
use Rattle.retune_model.specs.Faults.{Targets}
use Rattle.retune_model.specs.Dump.{from_up}
use Rattle.channel_model.specs.MpeOutput.{Zone as ZoneOf}
use Rattle.channel_plan.specs.declared.plan.Plan.{Plan}
use Rattle.channel_plan.specs.Planned.{IsPlan, instant_of, noted_ports, need_told, position_told, pairs_told, zone_told, zone_pairs_told, zones_told}
use Rattle.plan_report.specs.Texts.{need_line, pair_lines, zone_line, port_lines}
use Rattle.plan_report.specs.Told.{need_lines, zone_lines, channels_told}

-- on bend: of each port what it needs, the instant, and the pairs that sound or rest then
abbrev pub port_need : Options → Targets → List MidiEvent → ℕ → List ℕ
port_need o table es z = need_line (need_told o table es z) (instant_of es (position_told o table es z)) ++ pair_lines (pairs_told o table es z)

abbrev pub needs_reported : Options → Targets → List MidiEvent → List ℕ
needs_reported o table es = port_lines (port_need o table es) (noted_ports o es)

-- on MPE: of each zone of each port what its part needs, the instant, and the pairs of the part then
abbrev pub port_zone : Options → Targets → List MidiEvent → ℕ → ZoneOf → List ℕ
port_zone o table es z zone = zone_line (zone_told o table es z zone) ++ pair_lines (zone_pairs_told o table es z zone)

abbrev pub port_zones : Options → Targets → List MidiEvent → ℕ → List ℕ
port_zones o table es z = flat_map (port_zone o table es z) (zones_told o.route o table es z)

abbrev pub zones_reported : Options → Targets → List MidiEvent → List ℕ
zones_reported o table es = port_lines (port_zones o table es) (noted_ports o es)

-- on how many channels the notes of all ports are: as many as each port needs, and as each zone has members
abbrev pub port_channels : Options → Targets → List MidiEvent → ℕ → ℕ
port_channels o table es z = need_told o table es z + sum_by (λ (zone : ZoneOf). zone.members) (zones_told o.route o table es z)

unfoldable pub channels_reported : Options → Targets → List MidiEvent → ℕ
channels_reported o table es = sum_by (port_channels o table es) (from_up 0 256)

-- What is printed of a source's plan is what the definitions say of the source.
pub record IsReported (o : Options) (table : Targets) (es : List MidiEvent) (plan : Plan) : Type 0 where
  pub needs : need_lines plan ≡ needs_reported o table es
  pub zones : zone_lines plan ≡ zones_reported o table es
  pub channels : channels_told plan ≡ channels_reported o table es

abbrev pub PlansAreReported : Type 0
PlansAreReported = (o : Options) (allowed : ℕ → Bool) (table : Targets) (es : List MidiEvent) (plan : Plan) → IsPlan o allowed table es plan
    → IsReported o table es plan
