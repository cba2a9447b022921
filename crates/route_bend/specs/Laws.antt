-- Laws of what the bend route writes for a source that was given a plan.
use Rattle.std.specs.Prelude.{◌≡◌, ◌≤◌, ◌<◌, ◌+◌, ◌*◌, ℕ, Bool, List, length, map, get_or}
use Rattle.std.specs.List.{AllByRecursion}
use Rattle.mt_base.specs.Midi.{MidiEvent}
use Rattle.mt_base.specs.Valid.{IsValidEvent}
use Rattle.midi_model.specs.FileText.{MidiFile}
use Rattle.midi_model.specs.Merged.{IsPlayable, merged, of_track, timed}
use Rattle.midi_model.specs.SizeLaws.{most_of_track}
use Rattle.midi_model.specs.Writing.{track_bytes}
use Rattle.midi_model.specs.Music.{quiet, play, state_at}
use Rattle.midi_model.specs.Order.{AreInOrder}
use Rattle.retune_model.specs.Table.{Scaling}
use Rattle.retune_model.specs.Options.{Options, ByBend, keeps_drums, is_retuned}
use Rattle.retune_model.specs.Faults.{Targets}
use Rattle.retune_model.specs.SourceFaults.{IsFaultless}
use Rattle.retune_model.specs.Pairs.{channels_of}
use Rattle.retune_model.specs.PlaysTheSame.{plain_device, PlayTheSame, HasSameShape, PlaysTheSame}
use Rattle.retune_model.specs.Ports.{of_port, port_at, events_on, music_at}
use Rattle.channel_model.specs.Choice.{from_state}
use Rattle.channel_model.specs.Rows.{used_row}
use Rattle.bend_laws.specs.Moments.{port_output}
use Rattle.bend_laws.specs.Positions.{both_at, up_to_position}
use Rattle.bend_laws.specs.Simulation.{IsState, PlaysAt, planned_channels}
use Rattle.bend_laws.specs.Bent.{IsBent, IsTuned, IsOnUsed, NoneHeld}
use Rattle.channel_plan.specs.Planned.{IsPlan, need_told, bend_channel, bend_row, row_of}
use Rattle.channel_plan.specs.declared.plan.Plan.{Plan}
use Rattle.route_bend.specs.Bent.{bent}
use Rattle.route_bend.specs.Standing.{runs_by, used_by}

-- A source without a fault on bend, with its plan.
pub record IsBendable (o : Options) (allowed : ℕ → Bool) (table : Targets) (es : List MidiEvent) (plan : Plan) : Type 0 where
  pub route : o.route ≡ ByBend
  pub range : o.range ≤ 127
  pub valid : AllByRecursion IsValidEvent es
  pub in_order : AreInOrder 0 es
  pub faultless : IsFaultless o table es
  pub planned : IsPlan o allowed table es plan

-- a sentence about such a source
abbrev pub OfBendable : (Options → (ℕ → Bool) → Targets → List MidiEvent → Plan → Type 0) → Type 0
OfBendable P = (o : Options) (allowed : ℕ → Bool) (table : Targets) (es : List MidiEvent) (plan : Plan) →
    IsBendable o allowed table es plan → P o allowed table es plan

-- the plan gives each port what the laws of bends ask for
abbrev pub PlansBend : Type 0
PlansBend = OfBendable (λ o allowed table es plan. IsBent o allowed table es (need_told o table es) (bend_channel o allowed table es plan))

-- at every position of the file each port plays what the source's does, up to there
abbrev pub PortsPlayAlong : Type 0
PortsPlayAlong = OfBendable (λ o allowed table es plan. (z k : ℕ) → k ≤ length es →
    PlaysAt o table (used_by o allowed table es z) (runs_by o allowed table es plan z) (of_port z es) k
    (both_at o table (runs_by o allowed table es plan z) (of_port z es) k))

abbrev pub SourcesPlay : Type 0
SourcesPlay = OfBendable (λ o allowed table es plan. (z k : ℕ) →
    (both_at o table (runs_by o allowed table es plan z) (of_port z es) k).source ≡ music_at (of_port z es) k)

abbrev pub OutputsPlay : Type 0
OutputsPlay = OfBendable (λ o allowed table es plan. (z k : ℕ) →
    (both_at o table (runs_by o allowed table es plan z) (of_port z es) k).out
    ≡ play quiet (port_output o table (runs_by o allowed table es plan z) quiet quiet (up_to_position k (of_port z es))))

-- the retuned notes of each port are on the channels that the plan names
abbrev pub NotesAreOnPlan : Type 0
NotesAreOnPlan = OfBendable (λ o allowed table es plan. (z : ℕ) →
    channels_of (is_retuned (keeps_drums o (events_on z es))) z (bent o allowed table es plan)
    ≡ planned_channels o table (runs_by o allowed table es plan z) (of_port z es) (length es))

-- each other channel of the used row is as its last run left it
abbrev pub ChannelsAreLeft : Type 0
ChannelsAreLeft = OfBendable (λ o allowed table es plan. (z k i : ℕ) → k < length es → i < need_told o table es z →
    NoneHeld (runs_by o allowed table es plan z) k (get_or (used_row o allowed (need_told o table es z)) i 0) →
    IsState (state_at (both_at o table (runs_by o allowed table es plan z) (of_port z es) k).out
    (get_or (used_row o allowed (need_told o table es z)) i 0))
    (from_state o table (port_at es z) (row_of o es plan (bend_row o allowed table es z)) i k))

-- so the whole plays the same, and so does a file of it
abbrev pub OutputPlaysTheSame : Type 0
OutputPlaysTheSame = OfBendable (λ o allowed table es plan. (scaling : Scaling) → IsTuned scaling o table →
    PlayTheSame scaling o table (plain_device o) es (bent o allowed table es plan))

abbrev pub FilePlaysTheSame : Type 0
FilePlaysTheSame = (o : Options) (allowed : ℕ → Bool) (table : Targets) (plan : Plan) (source out : MidiFile) →
    HasSameShape source out → merged out ≡ bent o allowed table (merged source) plan → IsBendable o allowed table (merged source) plan →
    (scaling : Scaling) → IsTuned scaling o table → PlaysTheSame scaling o table source out

-- it can be written as a file with the source's tracks
abbrev pub OutputIsPlayable : Type 0
OutputIsPlayable = OfBendable (λ o allowed table es plan. (tracks : ℕ) → IsPlayable tracks es → IsPlayable tracks (bent o allowed table es plan))

-- in each track of it, each source event causes at most 1,600 bytes beside its own
abbrev pub OutputAddsFewBytes : Type 0
OutputAddsFewBytes = OfBendable (λ o allowed table es plan. (track : ℕ) →
    length (track_bytes (map timed (of_track track (bent o allowed table es plan))))
    ≤ most_of_track (map timed (of_track track es)) + 1600 * length es)

-- and on each port it speaks to no part but on the channels of the used row
abbrev pub OutputIsOnTheRow : Type 0
OutputIsOnTheRow = OfBendable (λ o allowed table es plan. (z : ℕ) → AllByRecursion (IsOnUsed o (used_by o allowed table es z))
    (events_on z (bent o allowed table es plan)))
