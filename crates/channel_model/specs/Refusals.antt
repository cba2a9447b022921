-- Why a source that has no fault gets no channels: a port has too many parts for zones, or needs more channels than it may have (this
-- project's own).
use Rattle.std.specs.Prelude.{◌≡◌, ◌≤◌, ◌<◌, ◌⊎◌, ℕ, suc, List, [], ◌∷◌, Bool, length, take}
use Rattle.std.specs.List.{AllByRecursion, IsDistinct}
use Rattle.mt_base.specs.Midi.{MidiEvent}
use Rattle.retune_model.specs.Options.{Options, Route, ByBend, ByMpe, keeps_drums}
use Rattle.retune_model.specs.Ports.{tick_to, events_on}
use Rattle.retune_model.specs.Faults.{Targets, is_part}
use Rattle.retune_model.specs.Pairs.{Pair, is_same_pair}
use Rattle.retune_model.specs.PortNeed.{pairs_on, IsNeedOf, AreParts, IsValidOn, size_on}
use Rattle.retune_model.specs.SourceFaults.{IsSound}
use Rattle.retune_model.specs.Dump.{parts_with_notes}
use Rattle.channel_model.specs.MpeOutput.{Zone, lower_allowed, upper_allowed}
use Rattle.channel_model.specs.Rows.{allowed_row, only, zones_on}

-- ---- more channels than there may be

-- What is said of it: the port, what it or its zone needs, how many there may be, the first position with so many pairs and its tick, and
-- one pair more than there may be channels.
pub record TooMany : Type 0 where
  pub port : ℕ
  pub need : ℕ
  pub allowed : ℕ
  pub position : ℕ
  pub tick : ℕ
  pub pairs : List Pair

-- the notes of these channels of port z need no more than `most`
abbrev pub NeedsAtMost : Options → (ℕ → Bool) → Targets → List MidiEvent → ℕ → ℕ → Type 0
NeedsAtMost o part table es z most = (n instant : ℕ) → IsNeedOf o part table es z n instant → n ≤ most

-- they need more; the pairs are the first of those at the instant, by part and then by steps
pub record NeedsMore (o : Options) (part : ℕ → Bool) (table : Targets) (es : List MidiEvent) (z most : ℕ) (t : TooMany) : Type 0 where
  pub port : t.port ≡ z
  pub allowed : t.allowed ≡ most
  pub need : IsNeedOf o part table es z t.need t.position
  pub more : most < t.need
  pub tick : t.tick ≡ tick_to es t.position
  pub pairs : t.pairs ≡ take (suc most) (pairs_on o part table es z t.position)

-- ---- on bend

abbrev pub PortFits : Options → (ℕ → Bool) → Targets → List MidiEvent → ℕ → Type 0
PortFits o allowed table es z = NeedsAtMost o (is_part o) table es z (length (allowed_row o allowed))

-- the least port that needs more than the allowed channels
pub record PortRefuses (o : Options) (allowed : ℕ → Bool) (table : Targets) (es : List MidiEvent) (t : TooMany) : Type 0 where
  pub here : NeedsMore o (is_part o) table es t.port (length (allowed_row o allowed)) t
  pub least : (z : ℕ) → z < t.port → PortFits o allowed table es z

-- ---- on MPE

-- how many parts of a port have a note on
abbrev pub part_count : Options → List MidiEvent → ℕ → ℕ
part_count o es z = length (parts_with_notes o (events_on z es))

abbrev pub HasFewParts : Options → List MidiEvent → ℕ → Type 0
HasFewParts o es z = part_count o es z ≤ 2

-- the least port of which more than two parts have a note on, with their number
pub record PartsRefuse (o : Options) (es : List MidiEvent) (z parts : ℕ) : Type 0 where
  pub here : part_count o es z ≡ parts
  pub more : 2 < parts
  pub least : (y : ℕ) → y < z → HasFewParts o es y

-- the zones of a port, the lower one first, each with the number of members that it may have
abbrev pub with_allowed : Bool → List Zone → List (Zone × ℕ)
with_allowed drums [] = []
with_allowed drums (l ∷ []) = (l, lower_allowed drums (l ∷ [])) ∷ []
with_allowed drums (l ∷ u ∷ _) = (l, lower_allowed drums (l ∷ u ∷ [])) ∷ (u, upper_allowed drums) ∷ []

abbrev pub zones_allowed : Options → Targets → List MidiEvent → ℕ → List (Zone × ℕ)
zones_allowed o table es z = with_allowed (keeps_drums o (events_on z es)) (zones_on o table es z)

abbrev pub ZoneFits : Options → Targets → List MidiEvent → ℕ → Zone × ℕ → Type 0
ZoneFits o table es z x = NeedsAtMost o (only x.0.part) table es z x.1

abbrev pub ZonesFit : Options → Targets → List MidiEvent → ℕ → Type 0
ZonesFit o table es z = AllByRecursion (ZoneFits o table es z) (zones_allowed o table es z)

-- the first zone of some that needs more members than it may have
abbrev pub FirstNeedsMore : Options → Targets → List MidiEvent → ℕ → List (Zone × ℕ) → TooMany → Type 0
FirstNeedsMore o table es z [] t = ⊥
FirstNeedsMore o table es z (x ∷ xs) t = NeedsMore o (only x.0.part) table es z x.1 t ⊎ (ZoneFits o table es z x × FirstNeedsMore o table es z xs t)

-- the least port with such a zone, where no port has too many parts
pub record ZoneRefuses (o : Options) (table : Targets) (es : List MidiEvent) (t : TooMany) : Type 0 where
  pub few : (z : ℕ) → HasFewParts o es z
  pub here : FirstNeedsMore o table es t.port (zones_allowed o table es t.port) t
  pub least : (z : ℕ) → z < t.port → ZonesFit o table es z

-- ---- the refusals of a route

pub data Refusal : Type 0 where
  TooManyParts : (port parts : ℕ) → Refusal
  TooManyChannels : TooMany → Refusal

abbrev pub RefusesOn : Route → Options → (ℕ → Bool) → Targets → List MidiEvent → Refusal → Type 0
RefusesOn ByBend o allowed table es (TooManyChannels t) = PortRefuses o allowed table es t
RefusesOn ByMpe o allowed table es (TooManyParts z n) = PartsRefuse o es z n
RefusesOn ByMpe o allowed table es (TooManyChannels t) = ZoneRefuses o table es t
RefusesOn _ o allowed table es _ = ⊥

abbrev pub FitsOn : Route → Options → (ℕ → Bool) → Targets → List MidiEvent → Type 0
FitsOn ByBend o allowed table es = (z : ℕ) → PortFits o allowed table es z
FitsOn ByMpe o allowed table es = (z : ℕ) → HasFewParts o es z × ZonesFit o table es z
FitsOn _ o allowed table es = Unit {0}

-- Why the source is refused; and that it isn't.
abbrev pub Refuses : Options → (ℕ → Bool) → Targets → List MidiEvent → Refusal → Type 0
Refuses o allowed table es r = RefusesOn o.route o allowed table es r

abbrev pub Fits : Options → (ℕ → Bool) → Targets → List MidiEvent → Type 0
Fits o allowed table es = FitsOn o.route o allowed table es

-- ---- laws

-- a source that fits isn't refused
abbrev pub FitsOrRefused : Type 0
FitsOrRefused = (o : Options) (allowed : ℕ → Bool) (table : Targets) (es : List MidiEvent) (r : Refusal) → Fits o allowed table es → Refuses o allowed table es r → ⊥

-- the pairs of a refusal are one more than there may be channels, and no two of them are the same
abbrev pub OnePairMore : Type 0
OnePairMore = (o : Options) (part : ℕ → Bool) (table : Targets) (es : List MidiEvent) (z most : ℕ) (t : TooMany) → NeedsMore o part table es z most t →
    (length t.pairs ≡ suc most) × IsDistinct is_same_pair t.pairs

-- so no valid assignment has as few channels as there may be
abbrev pub NoneIsAllowed : Type 0
NoneIsAllowed = (o : Options) (part : ℕ → Bool) (table : Targets) (es : List MidiEvent) (z most : ℕ) (t : TooMany) (channel : ℕ → ℕ) →
    AreParts o part → IsSound o table es → NeedsMore o part table es z most t → IsValidOn o part table es z channel → most < size_on part es z channel

-- a source has one refusal at most
abbrev pub OneRefusal : Type 0
OneRefusal = (o : Options) (allowed : ℕ → Bool) (table : Targets) (es : List MidiEvent) (r s : Refusal) → Refuses o allowed table es r → Refuses o allowed table es s → r ≡ s
