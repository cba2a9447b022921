-- The used row of a port or of a zone: the channels that its runs are given; and the plan of a port (this project's own).
use Rattle.std.specs.Prelude.{◌≡◌, ◌≤◌, ℕ, List, [], ◌∷◌, Bool, ◌&&◌, nat_eq, filter, take, get_or, length}
use Rattle.mt_base.specs.Midi.{MidiEvent}
use Rattle.retune_model.specs.Options.{Options, keeps_drums, is_retuned}
use Rattle.retune_model.specs.Ports.{port_at, events_on}
use Rattle.retune_model.specs.Faults.{Targets, is_part}
use Rattle.retune_model.specs.Pairs.{Pair, is_same_pair, channels_of}
use Rattle.retune_model.specs.Runs.{since}
use Rattle.retune_model.specs.PortNeed.{pairs_on, IsNeedOf, need_of}
use Rattle.retune_model.specs.Dump.{from_up, parts_with_notes}
use Rattle.channel_model.specs.Choice.{TakesShortest, TakesShortestMember}
use Rattle.channel_model.specs.MpeOutput.{Zone, members_from, zones_for}

-- ---- used rows

-- The allowed channels, ascending: those that are asked for, without channel 10 where drums are kept.
abbrev pub allowed_row : Options → (ℕ → Bool) → List ℕ
allowed_row o allowed = filter (λ c. allowed c && is_part o c) (from_up 0 16)

-- the first so many as the port needs
abbrev pub used_row : Options → (ℕ → Bool) → ℕ → List ℕ
used_row o allowed need = take need (allowed_row o allowed)

-- on MPE, as many members of a zone as its part needs, from the master outward
abbrev pub zone_row : Zone → List ℕ
zone_row zone = members_from zone 0 zone.members

-- the channel that the run of p has at position k: the one at its place of the row
abbrev pub channel_by : List ℕ → (ℕ → ℕ) → (ℕ → List Pair) → ℕ → Pair → ℕ
channel_by used row at k p = get_or used (row (since is_same_pair at p k)) 0

-- ---- plans

-- The plan of a port on the bend route: its need is within the allowed channels, and each run gets, of the used row, the free channel
-- with the shortest setup, among equals the one that is free longest, then the first.
pub record IsBendPlan (o : Options) (allowed : ℕ → Bool) (table : Targets) (es : List MidiEvent) (z n instant : ℕ) (row : ℕ → ℕ) (channel : ℕ → Pair → ℕ) : Type 0 where
  pub need : IsNeedOf o (is_part o) table es z n instant
  pub within : n ≤ length (allowed_row o allowed)
  pub takes : TakesShortest o table (port_at es z) (length es) n row
  pub given : (k : ℕ) (p : Pair) → channel k p ≡ channel_by (used_row o allowed n) row (pairs_on o (is_part o) table es z) k p

-- one channel of a port alone
abbrev pub only : ℕ → ℕ → Bool
only c d = nat_eq d c

-- The plan of a zone: as many members as its part needs, and each run gets a free member that has its bend, where there is one; among
-- equals the one that is free longest, then the one nearest the master.
pub record IsZonePlan (o : Options) (table : Targets) (es : List MidiEvent) (z : ℕ) (zone : Zone) (instant : ℕ) (row : ℕ → ℕ) (channel : ℕ → Pair → ℕ) : Type 0 where
  pub need : IsNeedOf o (only zone.part) table es z zone.members instant
  pub takes : TakesShortestMember o (only zone.part) table (port_at es z) (length es) zone.members row
  pub given : (k : ℕ) (p : Pair) → p.part.channel ≡ zone.part → channel k p ≡ channel_by (zone_row zone) row (pairs_on o (only zone.part) table es z) k p

-- the parts of a port that have a note on, with their needs
abbrev pub needs_of : (ℕ → ℕ) → List ℕ → List (ℕ × ℕ)
needs_of need [] = []
needs_of need (c ∷ cs) = (c, need c) ∷ needs_of need cs

-- The zones of a port of which at most two parts have a note on: one for each of them, with as many members as it needs.
abbrev pub zones_on : Options → Targets → List MidiEvent → ℕ → List Zone
zones_on o table es z = zones_for (needs_of (λ c. (need_of o (only c) table es z).0) (parts_with_notes o (events_on z es)))

-- ---- the assignment that is read from an output

-- The i-th retuned note of a port of the source has the channel of the i-th retuned note of the port in the output. Where drums are kept
-- and the port has none, channel 10 is a channel as any other.
abbrev pub read_channel : Options → (source out : List MidiEvent) → ℕ → ℕ → ℕ
read_channel o source out z i = get_or (channels_of (is_retuned (keeps_drums o (events_on z source))) z out) i 0
