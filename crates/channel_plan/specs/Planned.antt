-- What a plan says of a source that is given one: what each port needs, and the channel of each note.
use Rattle.std.specs.Prelude.{◌≡◌, ◌<◌, ◌≤◌, ◌+◌, ◌*◌, ◌↔◌, ℕ, zero, suc, pos, List, [], ◌∷◌, Bool, nat_eq, if◌then◌else◌, Some, IsSome, option_map, unwrap_or, map, filter, length, take}
use Rattle.mt_base.specs.Midi.{MidiEvent}
use Rattle.retune_model.specs.Options.{Options, Route, ByBend, ByMpe, bends_notes}
use Rattle.retune_model.specs.Ports.{port_at, tick_to, events_on}
use Rattle.retune_model.specs.PlaysTheSame.{begins_note}
use Rattle.retune_model.specs.Faults.{Targets, is_part, is_bend}
use Rattle.retune_model.specs.Pairs.{Pair, is_same_pair}
use Rattle.retune_model.specs.Rests.{begun_at}
use Rattle.retune_model.specs.Runs.{since}
use Rattle.retune_model.specs.Places.{nth}
use Rattle.retune_model.specs.PortNeed.{pairs_on, need_of}
use Rattle.retune_model.specs.Dump.{from_up, has_note_on}
use Rattle.channel_model.specs.Choice.{beginning_at}
use Rattle.channel_model.specs.Rows.{IsBendPlan, IsZonePlan, only, zones_on, zone_row, used_row, channel_by}
use Rattle.channel_model.specs.MpeOutput.{Zone as ZoneOf}
use Rattle.lifetimes.specs.Views.{pair_of}
use Rattle.channel_plan.specs.Told.{ports_in, need_in, instant_in, witness_in, zone_in, zone_pairs_in, channel_in, run_in, run_count_in, used_in}
use Rattle.channel_plan.specs.declared.fault.Instant.{Instant}
use Rattle.channel_plan.specs.declared.plan.Zone.{Zone}
use Rattle.channel_plan.specs.declared.plan.Plan.{Plan}

-- a position, with its tick
abbrev pub instant_of : List MidiEvent → ℕ → Instant
instant_of es k = record { position = k; tick = tick_to es k }

-- ---- ports

-- whether some retuned part of a port has a note on
abbrev pub is_noted : Options → List MidiEvent → ℕ → Bool
is_noted o es z = has_note_on (is_part o) (events_on z es)

-- the ports with a retuned note, ascending
abbrev pub noted_ports : Options → List MidiEvent → List ℕ
noted_ports o es = filter (is_noted o es) (from_up 0 256)

-- ---- on bend: what a port needs, the instant, and the pairs then

abbrev pub need_told : Options → Targets → List MidiEvent → ℕ → ℕ
need_told o table es z = if is_bend o.route then (need_of o (is_part o) table es z).0 else 0

abbrev pub position_told : Options → Targets → List MidiEvent → ℕ → ℕ
position_told o table es z = if is_bend o.route then (need_of o (is_part o) table es z).1 else 0

abbrev pub pairs_told : Options → Targets → List MidiEvent → ℕ → List Pair
pairs_told o table es z = if is_bend o.route then pairs_on o (is_part o) table es z (position_told o table es z) else []

-- ---- on MPE: the zones of a port, the lower one first

-- the position at which a zone's part has most pairs
abbrev pub zone_position : Options → Targets → List MidiEvent → ℕ → ZoneOf → ℕ
zone_position o table es z zone = (need_of o (only zone.part) table es z).1

abbrev pub zone_told : Options → Targets → List MidiEvent → ℕ → ZoneOf → Zone
zone_told o table es z zone =
    record { port = z; part = zone.part; upper = zone.upper; need = zone.members; instant = instant_of es (zone_position o table es z zone) }

abbrev pub zone_pairs_told : Options → Targets → List MidiEvent → ℕ → ZoneOf → List Pair
zone_pairs_told o table es z zone = pairs_on o (only zone.part) table es z (zone_position o table es z zone)

-- ---- notes

-- the events that begin a retuned note, on any port
abbrev pub note_ons : Options → List MidiEvent → List MidiEvent
note_ons o es = filter (λ (e : MidiEvent). begins_note (is_part o) e.what) es

-- The number of the note that begins at a position: how many have begun by then.
abbrev pub notes_to : Options → List MidiEvent → ℕ → ℕ
notes_to o es k = length (note_ons o (take k es))

-- Each key at its own pitch. Where no note is bent, the pair of a note is its part, with the steps of this table: none.
abbrev pub unbent : Targets
unbent k t = Some (record { lo = pos (3200000000000 * k); hi = pos (3200000000000 * k) })

abbrev pub targets_by : Options → Targets → Targets
targets_by o table = if bends_notes o.route then table else unbent

-- a note that begins at position k has this pair, on port z
abbrev pub Begins : Options → Targets → List MidiEvent → ℕ → ℕ → Pair → Type 0
Begins o table es z k p = begun_at o (is_part o) (targets_by o table) (port_at es z) k ≡ p ∷ []

-- ---- runs

-- how many runs begin up to a position
abbrev pub runs_to : (ℕ → List Pair) → ℕ → ℕ
runs_to at zero = 0
runs_to at (suc k) = runs_to at k + length (beginning_at at k)

-- On a port: where notes are bent, those of its pairs; else each note is a run of its own.
abbrev pub runs_on : Options → Targets → List MidiEvent → ℕ → ℕ → ℕ
runs_on o table es z k =
    if bends_notes o.route then runs_to (pairs_on o (is_part o) table es z) k else length (note_ons o (events_on z (take k es)))

-- the position at which the run of a note begins that begins at position k
abbrev pub run_from : Options → Targets → List MidiEvent → ℕ → ℕ → Pair → ℕ
run_from o table es z k p = if bends_notes o.route then since is_same_pair (pairs_on o (is_part o) table es z) p k else k

-- the number of the run that begins at a position: how many began before
abbrev pub number_at : (ℕ → ℕ) → ℕ → ℕ
number_at count zero = 0
number_at count (suc k) = count k

-- the number of the run of a note
abbrev pub run_told : Options → Targets → List MidiEvent → ℕ → ℕ → Pair → ℕ
run_told o table es z k p = number_at (runs_on o table es z) (run_from o table es z k p)

-- ---- channels

-- the place of a channel in a row; behind it where it isn't there
abbrev pub place_among : List ℕ → ℕ → ℕ
place_among [] c = 0
place_among (d ∷ ds) c = if nat_eq d c then 0 else suc (place_among ds c)

-- the place of the run that begins at a position: that of the channel of the note with which it begins
abbrev pub row_of : Options → List MidiEvent → Plan → List ℕ → ℕ → ℕ
row_of o es plan used b = place_among used (unwrap_or (channel_in plan (notes_to o es b)) 0)

-- the channel of a pair's run at a position, where `used` is the row of channels and `at` has the pairs
abbrev pub channel_of : Options → List MidiEvent → Plan → List ℕ → (ℕ → List Pair) → ℕ → Pair → ℕ
channel_of o es plan used at k p = channel_by used (row_of o es plan used) at k p

-- on bend, for a port
abbrev pub bend_row : Options → (ℕ → Bool) → Targets → List MidiEvent → ℕ → List ℕ
bend_row o allowed table es z = used_row o allowed (need_of o (is_part o) table es z).0

abbrev pub bend_channel : Options → (ℕ → Bool) → Targets → List MidiEvent → Plan → ℕ → ℕ → Pair → ℕ
bend_channel o allowed table es plan z k p = channel_of o es plan (bend_row o allowed table es z) (pairs_on o (is_part o) table es z) k p

-- on MPE, for a zone of a port
abbrev pub zone_channel : Options → Targets → List MidiEvent → Plan → ℕ → ZoneOf → ℕ → Pair → ℕ
zone_channel o table es plan z zone k p = channel_of o es plan (zone_row zone) (pairs_on o (only zone.part) table es z) k p

-- On bend the channels of a port are those of its plan, and each note has that of its run.
pub record GivesByBend (o : Options) (allowed : ℕ → Bool) (table : Targets) (es : List MidiEvent) (plan : Plan) (z : ℕ) : Type 0 where
  pub chosen : IsBendPlan o allowed table es z (need_told o table es z) (position_told o table es z)
      (row_of o es plan (bend_row o allowed table es z)) (bend_channel o allowed table es plan z)
  pub given : (k : ℕ) (p : Pair) → Begins o table es z k p → channel_in plan (notes_to o es k) ≡ Some (bend_channel o allowed table es plan z k p)

-- On MPE the channels of a part are members of its zone, by the zone's plan.
pub record GivesInZone (o : Options) (table : Targets) (es : List MidiEvent) (plan : Plan) (z : ℕ) (zone : ZoneOf) : Type 0 where
  pub chosen : IsZonePlan o table es z zone (zone_position o table es z zone) (row_of o es plan (zone_row zone)) (zone_channel o table es plan z zone)
  pub given : (k : ℕ) (p : Pair) → p.part.channel ≡ zone.part → Begins o table es z k p
      → channel_in plan (notes_to o es k) ≡ Some (zone_channel o table es plan z zone k p)

-- On dump and live each note keeps its own channel.
abbrev pub GivesChannels : Route → Options → (ℕ → Bool) → Targets → List MidiEvent → Plan → Type 0
GivesChannels ByBend o allowed table es plan = (z : ℕ) → GivesByBend o allowed table es plan z
GivesChannels ByMpe o allowed table es plan =
    (z i : ℕ) (zone : ZoneOf) → nth i (zones_on o table es z) ≡ Some zone → GivesInZone o table es plan z zone
GivesChannels _ o allowed table es plan = (z k : ℕ) (p : Pair) → Begins o table es z k p → channel_in plan (notes_to o es k) ≡ Some p.part.channel

-- ---- the plan

-- the zones of a port; none but on MPE
abbrev pub zones_told : Route → Options → Targets → List MidiEvent → ℕ → List ZoneOf
zones_told ByMpe o table es z = zones_on o table es z
zones_told _ o table es z = []

-- A plan of the allowed channels for a source without a fault, on its route.
pub record IsPlan (o : Options) (allowed : ℕ → Bool) (table : Targets) (es : List MidiEvent) (plan : Plan) : Type 0 where
  pub ports : ports_in plan ≡ noted_ports o es
  pub need : (z : ℕ) → need_in plan z ≡ need_told o table es z
  pub instant : (z : ℕ) → instant_in plan z ≡ instant_of es (position_told o table es z)
  pub witness : (z : ℕ) → map pair_of (witness_in plan z) ≡ pairs_told o table es z
  pub zones : (z i : ℕ) → zone_in plan z i ≡ option_map (zone_told o table es z) (nth i (zones_told o.route o table es z))
  pub zone_pairs : (z i : ℕ) → map pair_of (zone_pairs_in plan z i)
      ≡ unwrap_or (option_map (zone_pairs_told o table es z) (nth i (zones_told o.route o table es z))) []
  pub used : (z : ℕ) → o.route ≡ ByBend → used_in plan z ≡ bend_row o allowed table es z
  pub channels : GivesChannels o.route o allowed table es plan
  -- notes count from 1
  pub notes : (n : ℕ) → IsSome (channel_in plan n) ↔ ((0 < n) × (n ≤ length (note_ons o es)))
  -- runs count from 0, in the order in which they begin on the port
  pub runs : (z k : ℕ) (p : Pair) → Begins o table es z k p → run_in plan (notes_to o es k) ≡ Some (run_told o table es z k p)
  pub run_count : (z : ℕ) → run_count_in plan z ≡ runs_on o table es z (length es)
