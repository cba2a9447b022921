-- A source with a plan on bend or MPE is one of which the laws of these routes speak.
use Rattle.std.proofs.Common.{◌≡◌, ◌≤◌, ◌<◌, ◌+◌, ◌*◌, ◌^◌, ℕ, zero, suc, Bool, true, List, length, map, refl, ap, subst, arith}
use Rattle.std.specs.Prelude.{All}
use Rattle.std.proofs.lemmas.List.Elements.{All-nil, All-cons}
use Rattle.mt_base.specs.Midi.{MidiEvent}
use Rattle.midi_model.specs.FileText.{MidiFile}
use Rattle.midi_model.specs.Merged.{merged, IsPlayable, of_track, timed}
use Rattle.midi_model.specs.SizeLaws.{most_of_track}
use Rattle.midi_model.specs.Writing.{Written, written, track_bytes}
use Rattle.event_stream.specs.Distributed.{distributed_from, events_in}
use Rattle.retune_model.specs.Options.{Route, ByDump, ByLive, ByBend, ByMpe, Options, bends_notes}
use Rattle.retune_model.specs.Faults.{Targets}
use Rattle.channel_model.specs.Refusals.{FitsOn}
use Rattle.channel_plan.specs.Planned.{GivesChannels, need_told, position_told, bend_channel, zone_channel}
use Rattle.channel_plan.specs.declared.plan.Plan.{Plan}
use Rattle.bend_laws.specs.Bent.{IsBent}
use Rattle.bend_laws.specs.FileLaws.{BentIsPlayable, BentAddsFewBytes}
use Rattle.mpe_laws.specs.FileLaws.{PlansServe, ZonedIsPlayable, ZonedAddsFewBytes}
use Rattle.mpe_laws.specs.Sources.{IsMpe, IsPlannedMpe, zoned_channel}
use Rattle.channel_model.specs.MpeOutput.{mpe_output}
use Rattle.channel_model.specs.Rows.{zones_on}
use Rattle.routes.proofs.Premises.{ShortLaws}
use Rattle.routes.proofs.Sizes.{source_most}
use Rattle.mtune_core.specs.OutputLaws.{IsSourceOf, PlannedIsPlayable, PlannedIsShort}
use Rattle.mtune_core.specs.Written.{planned_events}
use Rattle.mtune_core.proofs.PlaysSame.{PlayableIsInOrder}

pub is_bent : PlayableIsInOrder → (o : Options) (allowed : ℕ → Bool) (table : Targets) (source : MidiFile) (plan : Plan)
    → IsSourceOf o allowed table source plan → o.route ≡ ByBend
    → IsBent o allowed table (merged source) (need_told o table (merged source)) (bend_channel o allowed table (merged source) plan)
is_bent order o allowed table source plan h route =
    let es = merged source in
    let high = h.range.range_high in
    let given = subst (λ r. GivesChannels r o allowed table es plan) route h.is_plan.channels in
    record {
      route = route;
      range = omega (arith, high);
      valid = h.playable.valid;
      sound = record { bends = h.bends; in_order = order (length source.tracks) es h.playable; faultless = h.taken.faultless };
      ports = λ z. record { instant = position_told o table es z; row = _; plan = (given z).chosen };
    }

pub is_planned_mpe : PlayableIsInOrder → (o : Options) (allowed : ℕ → Bool) (table : Targets) (source : MidiFile) (plan : Plan)
    → IsSourceOf o allowed table source plan → o.route ≡ ByMpe
    → IsPlannedMpe o table (merged source) (zone_channel o table (merged source) plan)
is_planned_mpe order o allowed table source plan h route =
    let es = merged source in
    let high = h.range.range_high in
    let given = subst (λ r. GivesChannels r o allowed table es plan) route h.is_plan.channels in
    record {
      route = route;
      range = omega (arith, high);
      valid = h.playable.valid;
      sound = record { bends = h.bends; in_order = order (length source.tracks) es h.playable; faultless = h.taken.faultless };
      fits = subst (λ r. FitsOn r o allowed table es) route h.taken.fits;
      plans = λ z i zone stands. record { instant = _; row = _; plan = (given z i zone stands).chosen };
    }

pub is_mpe : PlayableIsInOrder → PlansServe → (o : Options) (allowed : ℕ → Bool) (table : Targets) (source : MidiFile) (plan : Plan)
    → IsSourceOf o allowed table source plan → o.route ≡ ByMpe
    → IsMpe o table (merged source) (zones_on o table (merged source))
    (zoned_channel (zones_on o table (merged source)) (zone_channel o table (merged source) plan))
is_mpe order serve o allowed table source plan h route =
    serve o table (merged source) (zone_channel o table (merged source) plan) (is_planned_mpe order o allowed table source plan h route)

-- ---- by the route

pub by_route : (o : Options) (P : Route → Type 0) → bends_notes o.route ≡ true → (o.route ≡ ByBend → P ByBend) → (o.route ≡ ByMpe → P ByMpe)
    → P o.route
by_route o P bends bend mpe = pick o.route refl
  where
    pick : (r : Route) → o.route ≡ r → P r
    pick ByDump e = absurd (let g = ap bends_notes e in cc)
    pick ByLive e = absurd (let g = ap bends_notes e in cc)
    pick ByBend e = bend e
    pick ByMpe e = mpe e

-- ---- what is written by a plan

pub record PlayableLaws : Type 0 where
  pub order : PlayableIsInOrder
  pub serve : PlansServe
  pub bend : BentIsPlayable
  pub mpe : ZonedIsPlayable

pub planned_is_playable : PlayableLaws → PlannedIsPlayable
planned_is_playable laws o allowed table source plan h =
    let es = merged source in
    let n = length source.tracks in
    by_route o (λ r. IsPlayable n (planned_events r o allowed table plan es)) h.bends
    (λ e. laws.bend o allowed table es (need_told o table es) (bend_channel o allowed table es plan)
    (is_bent laws.order o allowed table source plan h e) n h.playable)
    (λ e. laws.mpe o table es (zones_on o table es) (zoned_channel (zones_on o table es) (zone_channel o table es plan))
    (is_mpe laws.order laws.serve o allowed table source plan h e) n h.playable)

pub record FewLaws : Type 0 where
  pub order : PlayableIsInOrder
  pub serve : PlansServe
  pub bend : BentAddsFewBytes
  pub mpe : ZonedAddsFewBytes
  pub short : ShortLaws

abbrev most_on : ℕ → List MidiEvent → ℕ
most_on track es = most_of_track (map timed (of_track track es))

-- the bytes that are written of a track
abbrev bytes_on : ℕ → List MidiEvent → ℕ
bytes_on track es = length (track_bytes (map timed (of_track track es)))

few_bytes : FewLaws → (o : Options) (allowed : ℕ → Bool) (table : Targets) (source : MidiFile) (plan : Plan) → IsSourceOf o allowed table source plan
    → (track : ℕ)
    → bytes_on track (planned_events o.route o allowed table plan (merged source)) ≤ most_on track (merged source) + 1600 * length (merged source)
few_bytes laws o allowed table source plan h track =
    let es = merged source in
    let zones = zones_on o table es in
    let member = zoned_channel zones (zone_channel o table es plan) in
    by_route o (λ r. bytes_on track (planned_events r o allowed table plan es) ≤ most_on track es + 1600 * length es) h.bends
    (λ e. laws.bend o allowed table es (need_told o table es) (bend_channel o allowed table es plan)
    (is_bent laws.order o allowed table source plan h e) track)
    (λ e. (
    let put = laws.mpe o table es zones member (is_mpe laws.order laws.serve o allowed table source plan h e) track in
    let within = laws.short.within_most (map timed (of_track track (mpe_output o table zones member es))) in
    omega (arith, put, within)))

each_short : (n m : ℕ) (es : List MidiEvent) → ((t : ℕ) → t < n + m → bytes_on t es < 2 ^ 32) → All (λ (w : Written). length w.bytes < 2 ^ 32)
    (map written (distributed_from n m es))
each_short n zero es h = All-nil (λ (w : Written). length w.bytes < 2 ^ 32)
each_short n (suc m) es h =
    All-cons (λ (w : Written). length w.bytes < 2 ^ 32) (written (events_in n es)) (map written (distributed_from (suc n) m es))
    (h n (omega arith)) (each_short (suc n) m es (λ t lt. h t (omega (arith, lt))))

pub planned_is_short : FewLaws → PlannedIsShort
planned_is_short laws bytes o allowed table source plan is few h =
    each_short 0 (length source.tracks) (planned_events o.route o allowed table plan (merged source)) (λ t lt.
    let most = source_most laws.short bytes source is few t in
    let put = few_bytes laws o allowed table source plan h t in
    omega (arith, most, put, few, laws.short.few_events bytes source is))
