-- What is written for a source plays the same, its bytes spell it, and it uses the fewest channels: route by route.
use Rattle.std.proofs.Common.{◌≡◌, ℕ, Bool, true, false, length, refl, ap, sym, subst, ◌∙◌, arith}
use Rattle.midi_model.specs.FileText.{MidiFile}
use Rattle.midi_model.specs.Merged.{merged, IsPlayable}
use Rattle.midi_model.specs.Spelling.{Spells}
use Rattle.midi_model.specs.Writing.{file_bytes}
use Rattle.midi_model.specs.WritingLaws.{WrittenIsSpelt}
use Rattle.event_stream.specs.PutLaws.{DealtIsMerged}
use Rattle.retune_model.specs.Table.{Scaling, IsTable, AreFewTerms}
use Rattle.retune_model.specs.Options.{Route, ByDump, ByLive, ByBend, ByMpe, Options, bends_notes}
use Rattle.retune_model.specs.Faults.{Targets}
use Rattle.retune_model.specs.PlaysTheSame.{PlaysTheSame}
use Rattle.channel_model.specs.Rows.{zones_on}
use Rattle.channel_plan.specs.Planned.{need_told, bend_channel, zone_channel}
use Rattle.bend_laws.specs.Bent.{IsTuned}
use Rattle.bend_laws.specs.FileLaws.{BentFilePlaysTheSame}
use Rattle.fewest_laws.specs.Fewest.{IsFewestOn, AreFewestIn}
use Rattle.fewest_laws.specs.Laws as fewest
use Rattle.mpe_laws.specs.FileLaws.{PlansServe, ZonedFilePlaysTheSame}
use Rattle.mpe_laws.specs.Sources.{zoned_channel}
use Rattle.mpe_route.specs.Planned.{zoned}
use Rattle.route_bend.specs.Bent.{bent}
use Rattle.routes.specs.Laws.{RoutedFilePlaysTheSame, RoutedIsPlayable, TracksAreShort}
use Rattle.routes.specs.Routed.{routed}
use Rattle.mtune_core.specs.Output.{with_events, routed_file}
use Rattle.mtune_core.specs.OutputLaws.{IsSourceOf, PlannedIsPlayable, PlannedIsShort, IsOutput, OutputIsSpelt, OutputPlaysTheSame, BentUsesFewest, ZonedUsesFewest}
use Rattle.mtune_core.specs.Written.{IsByPlan, IsWritten, planned_events, planned_file}
use Rattle.mtune_core.proofs.Plans.{is_bent, is_planned_mpe, is_mpe, by_route}
use Rattle.mtune_core.proofs.PlaysSame.{PlayableIsInOrder, same_shape, its_events}
use Rattle.mtune_core.proofs.Writable.{events_are_written}

-- ---- by the route

-- the plan of a source on bend or MPE
pub source_of : (o : Options) (allowed : ℕ → Bool) (table : Targets) (source file : MidiFile) → IsOutput o allowed table source file
    → bends_notes o.route ≡ true
    → (p : IsByPlan o allowed table source file) → IsSourceOf o allowed table source p.plan
source_of o allowed table source file h bends p =
    record { playable = h.playable; bends = bends; range = h.range; taken = h.taken; is_plan = p.is_plan }

-- what holds of what dump and live write, and of what is written by a plan, holds of what is written
pub of_written : (o : Options) (allowed : ℕ → Bool) (table : Targets) (source file : MidiFile) (P : MidiFile → Type 0)
    → (bends_notes o.route ≡ false → P (routed_file o table source))
    → ((p : IsByPlan o allowed table source file) → bends_notes o.route ≡ true → P (planned_file o allowed table p.plan source))
    → IsWritten o.route o allowed table source file → P file
of_written o allowed table source file P routed_has planned_has h = pick o.route refl h
  where
    pick : (r : Route) → o.route ≡ r → IsWritten r o allowed table source file → P file
    pick ByDump e w = subst P (sym w) (routed_has (ap bends_notes e))
    pick ByLive e w = subst P (sym w) (routed_has (ap bends_notes e))
    pick ByBend e w = subst P (sym w.exact) (planned_has w (ap bends_notes e))
    pick ByMpe e w = subst P (sym w.exact) (planned_has w (ap bends_notes e))

-- ---- bytes

pub record SpeltLaws : Type 0 where
  pub short : TracksAreShort
  pub playable : RoutedIsPlayable
  pub planned_short : PlannedIsShort
  pub planned_playable : PlannedIsPlayable
  pub spelt : WrittenIsSpelt

pub output_is_spelt : SpeltLaws → OutputIsSpelt
output_is_spelt laws bytes source file o allowed table is few division h =
    let n = length source.tracks in
    let es = merged source in
    of_written o allowed table source file (λ f. Spells (file_bytes f) f)
    (λ plain. laws.spelt (routed_file o table source) (events_are_written bytes source (routed o table es) is division
    (laws.playable n o table es h.range.program h.playable) (laws.short bytes source o table is few)))
    (λ p bends. (
    let s = source_of o allowed table source file h bends p in
    laws.spelt (planned_file o allowed table p.plan source)
    (events_are_written bytes source (planned_events o.route o allowed table p.plan es) is division
    (laws.planned_playable o allowed table source p.plan s) (laws.planned_short bytes o allowed table source p.plan is few s))))
    h.written

-- ---- music

pub record SameLaws : Type 0 where
  pub playable : RoutedIsPlayable
  pub same : RoutedFilePlaysTheSame
  pub planned_playable : PlannedIsPlayable
  pub serve : PlansServe
  pub bend : BentFilePlaysTheSame
  pub mpe : ZonedFilePlaysTheSame
  pub in_order : PlayableIsInOrder
  pub merged_again : DealtIsMerged

routed_same : SameLaws → (scaling : Scaling) (o : Options) (allowed : ℕ → Bool) (table : Targets) (source file : MidiFile)
    → IsTable scaling table → AreFewTerms scaling → ((key onset : ℕ) → table key onset ≡ table key 0) → IsOutput o allowed table source file
    → bends_notes o.route ≡ false
    → PlaysTheSame scaling o table source (routed_file o table source)
routed_same laws scaling o allowed table source file bounds few one h plain =
    let n = length source.tracks in
    let es = merged source in
    let out = routed o table es in
    laws.same scaling o table source (routed_file o table source) (same_shape source out)
    (its_events laws.merged_again source out (laws.playable n o table es h.range.program h.playable))
    (record {
      route = plain;
      program = h.range.program;
      valid = h.playable.valid;
      in_order = laws.in_order n es h.playable;
      faultless = h.taken.faultless;
      bounds = bounds;
      few_terms = few;
      one_table = one;
    })

planned_same : SameLaws → (scaling : Scaling) (o : Options) (allowed : ℕ → Bool) (table : Targets) (source file : MidiFile)
    → IsTable scaling table → AreFewTerms scaling → IsOutput o allowed table source file → (p : IsByPlan o allowed table source file)
    → bends_notes o.route ≡ true
    → PlaysTheSame scaling o table source (planned_file o allowed table p.plan source)
planned_same laws scaling o allowed table source file bounds few h p bends =
    let es = merged source in
    let plan = p.plan in
    let s = source_of o allowed table source file h bends p in
    let some = h.range.range_some in
    let tuned : IsTuned scaling o table = record { bounds = bounds; few_terms = few; range = omega (arith, some) } in
    let may = laws.planned_playable o allowed table source plan s in
    by_route o (λ r. IsPlayable (length source.tracks) (planned_events r o allowed table plan es)
    → PlaysTheSame scaling o table source (with_events source (planned_events r o allowed table plan es))) bends
    (λ e playable. laws.bend o allowed table (need_told o table es) (bend_channel o allowed table es plan) source
    (with_events source (bent o allowed table es plan))
    (same_shape source (bent o allowed table es plan)) (its_events laws.merged_again source (bent o allowed table es plan) playable)
    (is_bent laws.in_order o allowed table source plan s e) scaling tuned)
    (λ e playable. laws.mpe o table (zones_on o table es) (zoned_channel (zones_on o table es) (zone_channel o table es plan)) source
    (with_events source (zoned o table es plan))
    (same_shape source (zoned o table es plan)) (its_events laws.merged_again source (zoned o table es plan) playable)
    (is_mpe laws.in_order laws.serve o allowed table source plan s e) scaling tuned)
    may

pub output_plays_the_same : SameLaws → OutputPlaysTheSame
output_plays_the_same laws scaling o allowed table source file bounds few one h =
    of_written o allowed table source file (PlaysTheSame scaling o table source)
    (routed_same laws scaling o allowed table source file bounds few one h)
    (planned_same laws scaling o allowed table source file bounds few h) h.written

-- ---- channels

pub record FewestLaws : Type 0 where
  pub planned_playable : PlannedIsPlayable
  pub in_order : PlayableIsInOrder
  pub merged_again : DealtIsMerged
  pub bend : fewest.BentUsesFewest
  pub mpe : fewest.ZonedUsesFewest

-- the events of what is written by a plan
planned_merged : FewestLaws → (o : Options) (allowed : ℕ → Bool) (table : Targets) (source file : MidiFile) → IsOutput o allowed table source file
    → (p : IsByPlan o allowed table source file)
    → (r : Route) → o.route ≡ r → bends_notes r ≡ true → merged file ≡ planned_events r o allowed table p.plan (merged source)
planned_merged laws o allowed table source file h p r route bends =
    let es = merged source in
    let may = laws.planned_playable o allowed table source p.plan (source_of o allowed table source file h (ap bends_notes route ∙ bends) p) in
    ap merged p.exact ∙ its_events laws.merged_again source (planned_events o.route o allowed table p.plan es) may
    ∙ ap (λ x. planned_events x o allowed table p.plan es) route

pub bent_uses_fewest : FewestLaws → BentUsesFewest
bent_uses_fewest laws o allowed table source file route h z =
    let es = merged source in
    let p : IsByPlan o allowed table source file = subst (λ r. IsWritten r o allowed table source file) route h.written in
    let s = source_of o allowed table source file h (ap bends_notes route) p in
    subst (λ out. IsFewestOn o allowed table es out z) (sym (planned_merged laws o allowed table source file h p ByBend route refl))
    (laws.bend o allowed table es (need_told o table es) (bend_channel o allowed table es p.plan)
    (is_bent laws.in_order o allowed table source p.plan s route) z)

pub zoned_uses_fewest : FewestLaws → ZonedUsesFewest
zoned_uses_fewest laws o allowed table source file route h z =
    let es = merged source in
    let p : IsByPlan o allowed table source file = subst (λ r. IsWritten r o allowed table source file) route h.written in
    let s = source_of o allowed table source file h (ap bends_notes route) p in
    subst (λ out. AreFewestIn o table es out z) (sym (planned_merged laws o allowed table source file h p ByMpe route refl))
    (laws.mpe o table es (zone_channel o table es p.plan) (is_planned_mpe laws.in_order o allowed table source p.plan s route) z)
