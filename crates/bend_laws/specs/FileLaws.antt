-- What the bend route writes for a file, where each port has a plan.
use Rattle.std.specs.Prelude.{◌≡◌, ◌≤◌, ◌<◌, ◌+◌, ◌*◌, ℕ, Bool, List, length, map, get_or}
use Rattle.std.specs.List.{AllByRecursion}
use Rattle.mt_base.specs.Midi.{MidiEvent}
use Rattle.midi_model.specs.Merged.{IsPlayable, merged, of_track, timed}
use Rattle.midi_model.specs.SizeLaws.{most_of_track}
use Rattle.midi_model.specs.Writing.{track_bytes}
use Rattle.midi_model.specs.FileText.{MidiFile}
use Rattle.midi_model.specs.Music.{quiet, play, state_at}
use Rattle.retune_model.specs.Table.{Scaling}
use Rattle.retune_model.specs.Options.{Options, keeps_drums, is_retuned}
use Rattle.retune_model.specs.Ports.{of_port, port_at, events_on, music_at}
use Rattle.retune_model.specs.PlaysTheSame.{plain_device, PlayTheSame, HasSameShape, PlaysTheSame}
use Rattle.retune_model.specs.Faults.{Targets}
use Rattle.retune_model.specs.Pairs.{Pair, channels_of}
use Rattle.channel_model.specs.Choice.{from_state}
use Rattle.channel_model.specs.Rows.{used_row, IsBendPlan}
use Rattle.channel_model.specs.BendOutput.{runs_on, bend_output}
use Rattle.bend_laws.specs.Moments.{port_output}
use Rattle.bend_laws.specs.Positions.{both_at, up_to_position}
use Rattle.bend_laws.specs.Simulation.{IsState, PlaysAt, planned_channels}
use Rattle.bend_laws.specs.Bent.{uses, IsBent, IsTuned, IsOnUsed, NoneHeld}

-- a sentence about a source with a plan for each of its ports
abbrev pub OfBent : (Options → (ℕ → Bool) → Targets → List MidiEvent → (ℕ → ℕ) → (ℕ → ℕ → Pair → ℕ) → Type 0) → Type 0
OfBent P = (o : Options) (allowed : ℕ → Bool) (table : Targets) (es : List MidiEvent) (need : ℕ → ℕ) (channel : ℕ → ℕ → Pair → ℕ) →
    IsBent o allowed table es need channel → P o allowed table es need channel

-- at every position of the file each port plays what the source's does
abbrev pub PortsPlay : Type 0
PortsPlay = OfBent (λ o allowed table es need channel. (z k : ℕ) → k ≤ length es →
    (let runs = runs_on o table es channel z in PlaysAt o table (uses o allowed (need z)) runs (of_port z es) k
    (both_at o table runs (of_port z es) k)))

-- the musics there are those of the port's events up to the position, and of what is written for them
abbrev pub PortsAreTheirEvents : Type 0
PortsAreTheirEvents = OfBent (λ o allowed table es need channel. (z k : ℕ) →
    (both_at o table (runs_on o table es channel z) (of_port z es) k).source ≡ music_at (of_port z es) k)

abbrev pub PortsAreTheirBlocks : Type 0
PortsAreTheirBlocks = OfBent (λ o allowed table es need channel. (z k : ℕ) →
    (let runs = runs_on o table es channel z in
    (both_at o table runs (of_port z es) k).out ≡ play quiet (port_output o table runs quiet quiet (up_to_position k (of_port z es)))))

-- so the whole plays the same
abbrev pub BentPlaysTheSame : Type 0
BentPlaysTheSame = OfBent (λ o allowed table es need channel. (scaling : Scaling) → IsTuned scaling o table →
    PlayTheSame scaling o table (plain_device o) es (bend_output o table channel es))

-- and so does a file of it
abbrev pub BentFilePlaysTheSame : Type 0
BentFilePlaysTheSame = (o : Options) (allowed : ℕ → Bool) (table : Targets) (need : ℕ → ℕ) (channel : ℕ → ℕ → Pair → ℕ) (source out : MidiFile) →
    HasSameShape source out → merged out ≡ bend_output o table channel (merged source) → IsBent o allowed table (merged source) need channel →
    (scaling : Scaling) → IsTuned scaling o table → PlaysTheSame scaling o table source out

-- and can be written as a file with the source's tracks
abbrev pub BentIsPlayable : Type 0
BentIsPlayable = OfBent (λ o allowed table es need channel. (tracks : ℕ) → IsPlayable tracks es → IsPlayable tracks (bend_output o table channel es))

-- In each track of the file that is written, each source event causes at most 1,600 bytes beside its own. The bytes are counted as they are
-- written: the messages that one event causes stand at its tick, so that each but the first has a delta of one byte.
abbrev pub BentAddsFewBytes : Type 0
BentAddsFewBytes = OfBent (λ o allowed table es need channel. (track : ℕ) →
    length (track_bytes (map timed (of_track track (bend_output o table channel es))))
    ≤ most_of_track (map timed (of_track track es)) + 1600 * length es)

-- on each port it speaks to no part but on the channels of the used row
abbrev pub BentIsOnTheRow : Type 0
BentIsOnTheRow = OfBent (λ o allowed table es need channel. (z : ℕ) → AllByRecursion (IsOnUsed o (uses o allowed (need z)))
    (events_on z (bend_output o table channel es)))

-- The retuned notes of each port are on the channels that the plan names. Where drums are kept and the port has none, channel 10 is a
-- channel as any other.
abbrev pub NotesAreOnTheirChannels : Type 0
NotesAreOnTheirChannels = OfBent (λ o allowed table es need channel. (z : ℕ) →
    channels_of (is_retuned (keeps_drums o (events_on z es))) z (bend_output o table channel es)
    ≡ planned_channels o table (runs_on o table es channel z) (of_port z es) (length es))

-- A channel of the used row that no run holds at the next event is in the state from which a run that begins there is brought, what is
-- selected aside: what its last run's pair needed right after the last event at which it was held. `i` is its place of the row.
abbrev pub PortsAreLeft : Type 0
PortsAreLeft = OfBent (λ o allowed table es need channel. (z instant : ℕ) (row : ℕ → ℕ) →
    IsBendPlan o allowed table es z (need z) instant row (channel z) → (k i : ℕ) → k < length es → i < need z →
    (let runs = runs_on o table es channel z in let c = get_or (used_row o allowed (need z)) i 0 in
    NoneHeld runs k c → IsState (state_at (both_at o table runs (of_port z es) k).out c) (from_state o table (port_at es z) row i k)))
