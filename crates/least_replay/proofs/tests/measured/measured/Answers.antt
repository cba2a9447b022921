use Rattle.std.proofs.Common.{◌≡◌, ◌≤◌, ◌∙◌, length, map, refl, sym, ap, subst, arith}
use Rattle.std.proofs.lemmas.List.{length-map}
use Rattle.mt_base.specs.Midi.{view}
use Rattle.retune_model.specs.Options.{Options, ByBend}
use Rattle.retune_model.specs.SourceFaults.{IsFaultless}
use Rattle.key_pitch.specs.Aims.{by_onset}
use Rattle.lifetimes.specs.Views.{route_of}
use Rattle.lifetimes.specs.Stands.{asked, table_in}
use Rattle.channel_plan.specs.Layouts.{allows}
use Rattle.channel_plan.specs.Passing.{AreAsked}
use Rattle.channel_plan.specs.Planned.{IsPlan}
use Rattle.channel_plan.specs.declared.layout.Layout.TheVariants.{Bend}
use Rattle.channel_plan.proofs.Composing.{all_alike}
use Rattle.least_replay.proofs.tests.measured.measured.Goals as goal

pub measure-requires : goal.measure-requires
measure-requires c κs =
    let p = c.new-parts.result in
    let q = c.new-parts-2.result in
    let old = map view c.new-stream.result.events.now in
    let es = map view c.build.new.stream.events.now in
    let all : es ≡ old = c.build.ensures.all in
    let to = all_alike (asked p) (asked q) (by_onset (table_in p)) (by_onset (table_in q)) old es
    (c.new-parts.ensures.options ∙ sym c.new-parts-2.ensures.options)
    (ap by_onset (c.new-parts.ensures.table ∙ sym c.new-parts-2.ensures.table)) (sym all) in
    let on = c.if-not-may_follow.false in
    let slice = c.as_slice.result.now in
    let few : length (map view slice) ≤ 2097152 = (let a = length-map slice view in let b = ap length c.as_slice.ensures.value in
    let l = c.if-len-gt2097152.false in let n = c.len.ensures in omega (arith, a, b, l, n)) in
    let first : AreAsked (map view slice) = record {
      valid = c.may_follow.ensures.valid on;
      order = c.may_follow.ensures.order on;
      tracks = c.may_follow.ensures.tracks on;
      few = few;
    } in
    let are : AreAsked old = subst AreAsked
    (sym (c.new-stream.ensures.all ∙ ap (map view) (c.as_slice-2.ensures.value ∙ sym c.as_slice.ensures.value))) first in
    let bends : (asked q).route ≡ ByBend =
    ap (λ (x : Options). x.route) c.new-parts-2.ensures.options ∙ ap route_of c.resting-options.ensures.route in
    let most = c.if-run_count-gt2000.false in
    let count = c.run_count.ensures in (
      (refl, tt),
      (
        bends,
        (
          subst AreAsked (sym all) are,
          (
            to IsFaultless c.in-Ok.ensures.taken.faultless,
            (
              c.plans_serve.ensures (asked q) (allows (Bend 65023)) (by_onset (table_in q)) es c.in-Ok.plan c.args.port bends
                  (to (λ o table events. IsPlan o (allows (Bend 65023)) table events c.in-Ok.plan) c.in-Ok.ensures.plan),
              omega (arith, most, count),
            ),
          ),
        ),
      ),
    )
