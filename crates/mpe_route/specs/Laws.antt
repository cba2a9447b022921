-- Laws of what the MPE route writes by a plan.
use Rattle.std.specs.Prelude.{◌≡◌, ◌≤◌, ◌+◌, ◌*◌, ℕ, List, length, map}
use Rattle.std.specs.List.{AllByRecursion}
use Rattle.mt_base.specs.Midi.{MidiEvent}
use Rattle.mt_base.specs.Valid.{IsValidEvent}
use Rattle.midi_model.specs.Order.{AreInOrder}
use Rattle.midi_model.specs.FileText.{MidiFile}
use Rattle.midi_model.specs.Merged.{IsPlayable, merged, of_track, timed}
use Rattle.midi_model.specs.SizeLaws.{most_of_track}
use Rattle.retune_model.specs.Table.{Scaling}
use Rattle.retune_model.specs.Options.{Options, ByMpe, keeps_drums, is_retuned}
use Rattle.retune_model.specs.Ports.{events_on}
use Rattle.retune_model.specs.PlaysTheSame.{plain_device, PlayTheSame, HasSameShape, PlaysTheSame}
use Rattle.retune_model.specs.Faults.{Targets}
use Rattle.channel_model.specs.Rows.{zones_on}
use Rattle.bend_laws.specs.Bent.{IsTuned}
use Rattle.mpe_laws.specs.Sources.{IsOnZones}
use Rattle.channel_plan.specs.declared.plan.Plan.{Plan}
use Rattle.mpe_route.specs.Planned.{IsPlanOf, zoned}

-- A source that the route takes, with a plan of it.
pub record IsZonable (o : Options) (table : Targets) (es : List MidiEvent) (plan : Plan) : Type 0 where
  pub route : o.route ≡ ByMpe
  pub range : o.range ≤ 127
  pub valid : AllByRecursion IsValidEvent es
  pub in_order : AreInOrder 0 es
  pub planned : IsPlanOf o table es plan

abbrev pub OfZonable : (Options → Targets → List MidiEvent → Plan → Type 0) → Type 0
OfZonable P = (o : Options) (table : Targets) (es : List MidiEvent) (plan : Plan) → IsZonable o table es plan → P o table es plan

-- it plays the same as the source, on every port
abbrev pub ZonedPlaysTheSame : Type 0
ZonedPlaysTheSame = OfZonable (λ o table es plan. (scaling : Scaling) → IsTuned scaling o table →
    PlayTheSame scaling o table (plain_device o) es (zoned o table es plan))

abbrev pub ZonedFilePlaysTheSame : Type 0
ZonedFilePlaysTheSame = (o : Options) (table : Targets) (plan : Plan) (source out : MidiFile) →
    HasSameShape source out → merged out ≡ zoned o table (merged source) plan → IsZonable o table (merged source) plan →
    (scaling : Scaling) → IsTuned scaling o table → PlaysTheSame scaling o table source out

-- it can be written as a file with the source's tracks
abbrev pub ZonedIsPlayable : Type 0
ZonedIsPlayable = OfZonable (λ o table es plan. (tracks : ℕ) → IsPlayable tracks es → IsPlayable tracks (zoned o table es plan))

-- on each port it speaks to masters and members of the port's zones alone, kept drums aside
abbrev pub ZonedIsOnZones : Type 0
ZonedIsOnZones = OfZonable (λ o table es plan. (z : ℕ) →
    AllByRecursion (IsOnZones (is_retuned (keeps_drums o (events_on z es))) (zones_on o table es z)) (events_on z (zoned o table es plan)))

-- in each track, each source event causes at most 1,600 bytes beside its own
abbrev pub ZonedAddsFewBytes : Type 0
ZonedAddsFewBytes = OfZonable (λ o table es plan. (track : ℕ) →
    most_of_track (map timed (of_track track (zoned o table es plan))) ≤ most_of_track (map timed (of_track track es)) + 1600 * length es)
