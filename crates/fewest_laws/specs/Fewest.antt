-- How many channels the outputs of the bend and MPE routes use, and that there are no fewer that would do (this project's own).
use Rattle.std.specs.Prelude.{◌≡◌, ℕ, List, [], ◌∷◌, Bool, if◌then◌else◌, Some, length}
use Rattle.std.specs.List.{AllByRecursion}
use Rattle.mt_base.specs.Midi.{MidiEvent}
use Rattle.midi_model.specs.Notes.{Note}
use Rattle.midi_model.specs.Receiver.{after}
use Rattle.retune_model.specs.Options.{Options, keeps_drums, is_retuned}
use Rattle.retune_model.specs.Ports.{port_at, events_on}
use Rattle.retune_model.specs.PlaysTheSame.{retuned_notes}
use Rattle.retune_model.specs.Faults.{Targets, is_part}
use Rattle.retune_model.specs.Pairs.{channels_of}
use Rattle.retune_model.specs.Places.{nth}
use Rattle.retune_model.specs.PortNeed.{need_of}
use Rattle.channel_model.specs.Choice.{TakesShortest, TakesShortestMember}
use Rattle.channel_model.specs.MpeOutput.{Zone}
use Rattle.channel_model.specs.Rows.{only, used_row, zone_row, zones_on}
use Rattle.bend_laws.specs.Bent.{uses, IsOnUsed}
use Rattle.mpe_laws.specs.Sources.{IsOnZones}
use Rattle.fewest_laws.specs.Using.{UsesFewest, AreOfRuns}

-- ---- the channels that are read from an output

-- which notes of a port are retuned
abbrev pub retuned_on : Options → List MidiEvent → ℕ → ℕ → Bool
retuned_on o source z = is_retuned (keeps_drums o (events_on z source))

-- of two lists of notes, the channel of each in the second whose fellow in the first is of a part
abbrev pub channels_beside : (ℕ → Bool) → List Note → List Note → List ℕ
channels_beside part (n ∷ ns) (m ∷ ms) = if part n.channel then m.channel ∷ channels_beside part ns ms else channels_beside part ns ms
channels_beside part _ _ = []

-- The i-th retuned note of a port of the source has the channel of the i-th retuned note of the port in the output: of all retuned notes,
-- and of those of a part.
abbrev pub channels_read : Options → (source out : List MidiEvent) → ℕ → List ℕ
channels_read o source out z = channels_of (retuned_on o source z) z out

abbrev pub part_channels_read : Options → (ℕ → Bool) → (source out : List MidiEvent) → ℕ → List ℕ
part_channels_read o part source out z = channels_beside part
    (retuned_notes (retuned_on o source z) (after (events_on z source))) (retuned_notes (retuned_on o source z) (after (events_on z out)))

-- ---- on bend

-- what a port needs
abbrev pub port_need : Options → Targets → List MidiEvent → ℕ → ℕ × ℕ
port_need o table es z = need_of o (is_part o) table es z

-- A port of the output. Its retuned notes are on the first of the allowed channels, as many as are needed, and no other message of a part
-- is on another. Each run has the free channel that takes the shortest setup, of these the one that is free longest, and then the first.
pub record IsFewestOn (o : Options) (allowed : ℕ → Bool) (table : Targets) (es out : List MidiEvent) (z : ℕ) : Type 0 where
  pub channels : UsesFewest o (is_part o) table es z (port_need o table es z).0 (port_need o table es z).1
      (used_row o allowed (port_need o table es z).0) (channels_read o es out z)
  pub no_other : AllByRecursion (IsOnUsed o (uses o allowed (port_need o table es z).0)) (events_on z out)
  pub place : ℕ → ℕ
  pub chosen : TakesShortest o table (port_at es z) (length es) (port_need o table es z).0 place
  pub runs : AreOfRuns o (is_part o) table es z (used_row o allowed (port_need o table es z).0) place (channels_read o es out z)

-- ---- on MPE

-- A zone of a port. The notes of its part are on its members, as many as the part needs. Each run has the free member that has its bend,
-- where there is one, of these the one that is free longest, and then the one nearest the master.
pub record IsFewestIn (o : Options) (table : Targets) (es out : List MidiEvent) (z : ℕ) (zone : Zone) : Type 0 where
  pub channels : UsesFewest o (only zone.part) table es z zone.members (need_of o (only zone.part) table es z).1
      (zone_row zone) (part_channels_read o (only zone.part) es out z)
  pub place : ℕ → ℕ
  pub chosen : TakesShortestMember o (only zone.part) table (port_at es z) (length es) zone.members place
  pub runs : AreOfRuns o (only zone.part) table es z (zone_row zone) place (part_channels_read o (only zone.part) es out z)

-- A port: its zones, and that no message is on a channel that is neither a master of one of them nor a member, kept drums aside.
pub record AreFewestIn (o : Options) (table : Targets) (es out : List MidiEvent) (z : ℕ) : Type 0 where
  pub zones : (i : ℕ) (zone : Zone) → nth i (zones_on o table es z) ≡ Some zone → IsFewestIn o table es out z zone
  pub no_other : AllByRecursion (IsOnZones (retuned_on o es z) (zones_on o table es z)) (events_on z out)
