use Rattle.std.proofs.Common.{◌≡◌, ◌≤◌, ◌<◌, ◌∙◌, ℕ, [], List, length, refl, sym, ap, subst, arith}
use Rattle.std.specs.List.{AllByRecursion}
use Rattle.mt_base.specs.Midi.{MidiEvent}
use Rattle.midi_model.specs.Merged.{IsPlayable}
use Rattle.retune_model.specs.Options.{Options, Route}
use Rattle.retune_model.specs.Faults.{Targets}
use Rattle.retune_model.proofs.Fronts.{all_weaker}
use Rattle.key_pitch.specs.Aims.{by_onset}
use Rattle.lifetimes.specs.Views.{options_of}
use Rattle.lifetimes.specs.Stands.{Stands, asked, table_in}
use Rattle.channel_plan.specs.Layouts.{IsLayoutOf, allows}
use Rattle.channel_plan.specs.Passing.{AreAsked}
use Rattle.channel_plan.specs.declared.layout.Layout.TheVariants.{Bend}
use Rattle.route_bend.specs.Bent.{IsPlanOf}
use Rattle.route_bend.proofs.tests.planned.Goals as goal

few_tracks : (n : ℕ) (es : List MidiEvent) → IsPlayable n es → n ≤ 1024 → AllByRecursion (λ e. e.track < 1024) es
few_tracks n es playable few = all_weaker (λ e. e.track < n) (λ e. e.track < 1024) (λ e h. omega (arith, h, few)) es playable.in_tracks

pub build-requires : goal.build-requires
build-requires c κs =
    let es = c.new.result.all in
    let n = length c.args.smf.now.tracks in
    let playable = c.new.ensures.playable in
    let few : n ≤ 1024 = omega (arith, c.tracks-count.ensures.few, c.tracks-count.ensures.value) in
    let table : by_onset (table_in c.new-parts.result).now ≡ by_onset c.args.table.now = ap (λ b. by_onset b.now) c.new-parts.ensures.table in
    let stands = subst (λ t. Stands t c.new-parts.result []) (sym table) c.new-parts.ensures.stands in
    let route = ap (λ (o : Options). o.route) c.new-parts.ensures.options ∙ c.requires.route in
    let asks : AreAsked es = record {
      valid = playable.valid;
      order = c.playable_in_order.ensures.ticks n es playable;
      tracks = few_tracks n es
          playable few;
      few = c.new.ensures.few;
    } in
    ((refl, tt), (stands, (asks, subst (λ (r : Route). IsLayoutOf r (Bend c.args.allowed)) (sym route) tt)))

pub returns-in-Ok : goal.returns-in-Ok
returns-in-Ok c =
    let o : Options = options_of c.args.options in
    let t : Targets = by_onset (table_in c.new-parts.result).now in
    let es : List MidiEvent = c.new.result.all in
    let whole : IsPlanOf (asked c.new-parts.result) t es c.in-Ok.plan =
    record { allowed = allows (Bend c.args.allowed); gives = c.in-Ok.ensures.plan; taken = c.in-Ok.ensures.taken } in
    subst (λ (l : List MidiEvent). IsPlanOf o (by_onset c.args.table.now) l c.in-Ok.plan) c.new.ensures.all
    (subst (λ (u : Targets). IsPlanOf o u es c.in-Ok.plan) (ap (λ b. by_onset b.now) c.new-parts.ensures.table)
    (subst (λ (x : Options). IsPlanOf x t es c.in-Ok.plan) c.new-parts.ensures.options whole))
