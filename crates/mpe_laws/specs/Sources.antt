-- A source with zones and a plan of their members for each of its ports, as the MPE route is given one.
use Rattle.std.specs.Prelude.{◌≡◌, ◌≢◌, ◌≤◌, ◌<◌, ℕ, Bool, true, false, List, [], ◌∷◌, Option, Some, None}
use Rattle.std.specs.List.{AllByRecursion}
use Rattle.std.specs.Set.{is_member}
use Rattle.mt_base.specs.declared.event.Msg.{Msg}
use Rattle.mt_base.specs.Midi.{MidiEvent, Says, channel_of}
use Rattle.mt_base.specs.Valid.{IsValidEvent}
use Rattle.retune_model.specs.Options.{Options, ByMpe, keeps_drums}
use Rattle.retune_model.specs.Ports.{events_on}
use Rattle.retune_model.specs.Faults.{Targets, is_part}
use Rattle.retune_model.specs.Pairs.{Pair, is_same_pair}
use Rattle.retune_model.specs.SourceFaults.{IsSound}
use Rattle.retune_model.specs.PortNeed.{pairs_on}
use Rattle.channel_model.specs.MpeOutput.{Zone, zone_of, lower_allowed, upper_allowed}
use Rattle.retune_model.specs.Places.{nth}
use Rattle.channel_model.specs.Rows.{IsZonePlan, zones_on}
use Rattle.channel_model.specs.Refusals.{HasFewParts, ZonesFit}
use Rattle.mpe_laws.specs.Zoned.{IsOfZone}

-- Where drums are kept and a port has none, channel 10 is a channel as any other there.
abbrev pub on_port : Options → List MidiEvent → ℕ → Options
on_port o es z = record o { keep_drums = keeps_drums o (events_on z es) }

-- a zone of a part, the upper one or the lower one, of at least one member and at most so many
pub record IsZone (o : Options) (upper : Bool) (most : ℕ) (zone : Zone) : Type 0 where
  pub channel : zone.part < 16
  pub retuned : is_part o zone.part ≡ true
  pub side : zone.upper ≡ upper
  pub some : 0 < zone.members
  pub few : zone.members ≤ most

-- No zone; or the lower one; or the lower and the upper one, of two parts. Each with an allowed number of members,
-- which leaves channel 10 out where the port keeps drums.
abbrev pub AreAllowed : Options → Bool → List Zone → Type 0
AreAllowed o drums [] = Unit {0}
AreAllowed o drums (l ∷ []) = IsZone o false (lower_allowed drums (l ∷ [])) l
AreAllowed o drums (l ∷ u ∷ []) = IsZone o false (lower_allowed drums (l ∷ u ∷ [])) l ×
    (IsZone o true (upper_allowed drums) u × (l.part ≢ u.part))
AreAllowed o drums (l ∷ u ∷ _ ∷ _) = ⊥

-- the plan of a zone, with its instant and its row
pub record HasZonePlan (o : Options) (table : Targets) (es : List MidiEvent) (z : ℕ) (zone : Zone)
    (channel : ℕ → Pair → ℕ) : Type 0 where
  pub instant : ℕ
  pub row : ℕ → ℕ
  pub plan : IsZonePlan o table es z zone instant row channel

-- What a port has: allowed zones, among them one of each part that has a pair; and a plan of each zone.
pub record IsZonedPort (o : Options) (table : Targets) (es : List MidiEvent) (z : ℕ) (zones : List Zone)
    (channel : ℕ → Pair → ℕ) : Type 0 where
  pub allowed : AreAllowed o (keeps_drums o (events_on z es)) zones
  pub zoned : (k : ℕ) (p : Pair) → is_member is_same_pair (pairs_on o (is_part o) table es z k) p ≡ true →
      (zone : Zone) × (zone_of p.part.channel zones ≡ Some zone)
  pub plans : (c : ℕ) (zone : Zone) → zone_of c zones ≡ Some zone → HasZonePlan o table es z zone channel

-- The events are valid and have no fault, and each port has zones and plans.
pub record IsMpe (o : Options) (table : Targets) (es : List MidiEvent) (zones : ℕ → List Zone)
    (channel : ℕ → ℕ → Pair → ℕ) : Type 0 where
  pub route : o.route ≡ ByMpe
  pub range : o.range ≤ 127
  pub valid : AllByRecursion IsValidEvent es
  pub sound : IsSound o table es
  pub ports : (z : ℕ) → IsZonedPort o table es z (zones z) (channel z)

-- A message of a part is on the master of a part's zone or on one of its members; what is no such message, as a kept
-- drum, is not looked at.
abbrev pub IsOnZones : (ℕ → Bool) → List Zone → MidiEvent → Type 0
IsOnZones part zones e = (msg : Msg) → e.what ≡ Says msg → part (channel_of msg) ≡ true →
    IsOfZone zones (channel_of msg)

-- ---- as a plan gives them

-- the channel that a run has in the zone of its part
abbrev pub in_its_zone : (Zone → ℕ → Pair → ℕ) → ℕ → Pair → Option Zone → ℕ
in_its_zone channel k p (Some zone) = channel zone k p
in_its_zone channel k p None = 0

abbrev pub zoned_channel : (ℕ → List Zone) → (ℕ → Zone → ℕ → Pair → ℕ) → ℕ → ℕ → Pair → ℕ
zoned_channel zones channel z k p = in_its_zone (channel z) k p (zone_of p.part.channel (zones z))

-- A source that fits on this route, with a plan of each zone of each port: of the zones that the parts with notes
-- need.
pub record IsPlannedMpe (o : Options) (table : Targets) (es : List MidiEvent)
    (channel : ℕ → Zone → ℕ → Pair → ℕ) : Type 0 where
  pub route : o.route ≡ ByMpe
  pub range : o.range ≤ 127
  pub valid : AllByRecursion IsValidEvent es
  pub sound : IsSound o table es
  pub fits : (z : ℕ) → HasFewParts o es z × ZonesFit o table es z
  pub plans : (z i : ℕ) (zone : Zone) → nth i (zones_on o table es z) ≡ Some zone →
      HasZonePlan o table es z zone (channel z zone)
