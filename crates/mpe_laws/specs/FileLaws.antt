-- What the MPE route writes for the events of a file, where each port has zones and plans.
use Rattle.std.specs.Prelude.{◌≡◌, ◌≤◌, ◌<◌, ◌+◌, ◌*◌, ℕ, List, length, map, false, Some}
use Rattle.std.specs.List.{AllByRecursion}
use Rattle.mt_base.specs.Midi.{MidiEvent}
use Rattle.midi_model.specs.Merged.{IsPlayable, merged, of_track, timed}
use Rattle.midi_model.specs.SizeLaws.{most_of_track}
use Rattle.midi_model.specs.FileText.{MidiFile}
use Rattle.midi_model.specs.Notes.{Note}
use Rattle.midi_model.specs.Music.{quiet, channel_at, play}
use Rattle.retune_model.specs.Table.{Scaling}
use Rattle.retune_model.specs.Options.{Options, keeps_drums, is_retuned}
use Rattle.retune_model.specs.Ports.{of_port, events_on, events_to, music_at, is_reset_at}
use Rattle.retune_model.specs.PortNeed.{pairs_on}
use Rattle.retune_model.specs.Plain.{has_begun}
use Rattle.retune_model.specs.PlaysTheSame.{plain_device, PlayTheSame, HasSameShape, PlaysTheSame}
use Rattle.retune_model.specs.Faults.{Targets}
use Rattle.retune_model.specs.Pairs.{Pair}
use Rattle.retune_model.specs.PortOutput.{through}
use Rattle.channel_model.specs.BendOutput.{runs_on}
use Rattle.channel_model.specs.MpeOutput.{Zone, zone_of, member_at, unzoned, zoned_block, next_zoned, mpe_output}
use Rattle.channel_model.specs.Choice.{last_on, member_bend}
use Rattle.bend_laws.specs.Bent.{IsTuned}
use Rattle.bend_laws.specs.Positions.{up_to_position}
use Rattle.bend_laws.specs.Simulation.{retuned, planned_channels}
use Rattle.mpe_laws.specs.Positions.{zoned_at, FollowsAt}
use Rattle.channel_model.specs.Rows.{only, IsZonePlan, zones_on}
use Rattle.mpe_laws.specs.Sources.{on_port, IsMpe, IsOnZones, zoned_channel, IsPlannedMpe}

-- a sentence about a source with zones and plans for each of its ports
abbrev pub OfMpe : (Options → Targets → List MidiEvent → (ℕ → List Zone) → (ℕ → ℕ → Pair → ℕ) → Type 0) → Type 0
OfMpe P = (o : Options) (table : Targets) (es : List MidiEvent) (zones : ℕ → List Zone) (channel : ℕ → ℕ → Pair → ℕ) →
    IsMpe o table es zones channel → P o table es zones channel

-- at every position of the file each port's output follows its source
abbrev pub PortsFollow : Type 0
PortsFollow = OfMpe (λ o table es zones channel. (z k : ℕ) → k ≤ length es →
    (let runs = runs_on o table es channel z in
    FollowsAt (on_port o es z) table (zones z) runs k (zoned_at o table (zones z) runs (of_port z es) k)))

-- the musics there are those of the port's events up to the position, and of what is written for them
abbrev pub PortsAreTheirEvents : Type 0
PortsAreTheirEvents = OfMpe (λ o table es zones channel. (z k : ℕ) →
    (zoned_at o table (zones z) (runs_on o table es channel z) (of_port z es) k).source ≡ music_at (of_port z es) k)

abbrev pub PortsAreTheirBlocks : Type 0
PortsAreTheirBlocks = OfMpe (λ o table es zones channel. (z k : ℕ) → (let runs = runs_on o table es channel z in
    (zoned_at o table (zones z) runs (of_port z es) k).out ≡ play quiet (through (zoned_block o table (zones z) runs)
    (next_zoned o table (zones z) runs) unzoned (up_to_position k (of_port z es)))))

-- and it stands at its setup from the port's first message on
abbrev pub PortsBegin : Type 0
PortsBegin = OfMpe (λ o table es zones channel. (z k : ℕ) →
    (zoned_at o table (zones z) (runs_on o table es channel z) (of_port z es) k).begun
    ≡ has_begun false (events_to k (of_port z es)))

-- its retuned notes are on the channels that the plan names
abbrev pub PortsAreOnTheirChannels : Type 0
PortsAreOnTheirChannels = OfMpe (λ o table es zones channel. (z k : ℕ) → k ≤ length es →
    (let runs = runs_on o table es channel z in
    map (λ (n : Note). n.channel)
    (retuned (on_port o es z) (zoned_at o table (zones z) runs (of_port z es) k).out.notes)
    ≡ planned_channels (on_port o es z) table runs (of_port z es) k))

-- Each member has the bend of the pair that was there last since the last reset, or none, as the choice of members
-- reckons. `i` is its place of the row.
abbrev pub MembersAreLeft : Type 0
MembersAreLeft = OfMpe (λ o table es zones channel. (z c : ℕ) (zone : Zone) → zone_of c (zones z) ≡ Some zone →
    (instant : ℕ) (row : ℕ → ℕ) → IsZonePlan o table es z zone instant row (channel z) →
    (k i : ℕ) → k ≤ length es → i < zone.members →
    (channel_at (zoned_at o table (zones z) (runs_on o table es channel z) (of_port z es) k).out
    (member_at zone i)).bend
    ≡ member_bend (last_on (is_reset_at (of_port z es)) (pairs_on o (only zone.part) table es z) row i k))

-- so the whole plays the same
abbrev pub ZonedPlaysTheSame : Type 0
ZonedPlaysTheSame = OfMpe (λ o table es zones channel. (scaling : Scaling) → IsTuned scaling o table →
    PlayTheSame scaling o table (plain_device o) es (mpe_output o table zones channel es))

-- and so does a file of it
abbrev pub ZonedFilePlaysTheSame : Type 0
ZonedFilePlaysTheSame = (o : Options) (table : Targets) (zones : ℕ → List Zone)
    (channel : ℕ → ℕ → Pair → ℕ) (source out : MidiFile) →
    HasSameShape source out → merged out ≡ mpe_output o table zones channel (merged source) →
    IsMpe o table (merged source) zones channel →
    (scaling : Scaling) → IsTuned scaling o table → PlaysTheSame scaling o table source out

-- and can be written as a file with the source's tracks
abbrev pub ZonedIsPlayable : Type 0
ZonedIsPlayable = OfMpe (λ o table es zones channel. (tracks : ℕ) → IsPlayable tracks es →
    IsPlayable tracks (mpe_output o table zones channel es))

-- on each port it speaks to masters and members of its zones alone, kept drums aside
abbrev pub ZonedIsOnZones : Type 0
ZonedIsOnZones = OfMpe (λ o table es zones channel. (z : ℕ) →
    AllByRecursion (IsOnZones (is_retuned (keeps_drums o (events_on z es))) (zones z))
    (events_on z (mpe_output o table zones channel es)))

-- in each track, each source event causes at most 1,600 bytes beside its own
abbrev pub ZonedAddsFewBytes : Type 0
ZonedAddsFewBytes = OfMpe (λ o table es zones channel. (track : ℕ) →
    most_of_track (map timed (of_track track (mpe_output o table zones channel es)))
    ≤ most_of_track (map timed (of_track track es)) + 1600 * length es)

-- the plans of a source that fits are such zones and plans
abbrev pub PlansServe : Type 0
PlansServe = (o : Options) (table : Targets) (es : List MidiEvent) (channel : ℕ → Zone → ℕ → Pair → ℕ) →
    IsPlannedMpe o table es channel →
    IsMpe o table es (zones_on o table es) (zoned_channel (zones_on o table es) channel)
