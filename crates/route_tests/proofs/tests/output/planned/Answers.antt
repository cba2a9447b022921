use Rattle.std.proofs.Common.{◌≡◌, ◌≤◌, [], length, refl, ap, sym, subst, arith}
use Rattle.std.specs.Prelude.{IfOk, OnOk}
use Rattle.midi_model.specs.Merged.{merged}
use Rattle.key_pitch.specs.Aims.{by_onset}
use Rattle.lifetimes.specs.Stands.{Stands, asked, table_in}
use Rattle.lifetimes.specs.Views.{options_of}
use Rattle.retune_model.specs.Options.{Options}
use Rattle.channel_plan.specs.Layouts.{IsLayoutOf, allows}
use Rattle.channel_plan.specs.Planned.{IsPlan}
use Rattle.channel_plan.specs.Refused.{IsTaken}
use Rattle.route_tests.proofs.Handing.{handed, are_asked}
use Rattle.route_tests.proofs.tests.output.planned.Goals as goal

pub build-requires : goal.build-requires
build-requires c κs =
    let es = c.new.result.all in
    let n = length c.args.smf.now.tracks in
    let few : n ≤ 1024 = omega (arith, c.tracks-count.ensures.few, c.tracks-count.ensures.value) in
    let table : by_onset (table_in c.new-parts.result).now ≡ by_onset c.args.table.now = ap (λ b. by_onset b.now) c.new-parts.ensures.table in
    let stands = subst (λ t. Stands t c.new-parts.result []) (sym table) c.new-parts.ensures.stands in
    let asked_for = are_asked n es (c.playable_in_order.ensures.ticks n es c.new.ensures.playable) c.new.ensures.playable few c.new.ensures.few in
    ((refl, tt), (stands, (asked_for, subst (λ (o : Options). IsLayoutOf o.route c.args.layout) (sym c.new-parts.ensures.options) c.requires.layout)))

pub returns-clause-plan : goal.returns-clause-plan
returns-clause-plan c = handed (λ o t es. IfOk c.build.result (IsPlan o (allows c.args.layout) t es)) (asked c.new-parts.result) (options_of c.args.options)
    (by_onset (table_in c.new-parts.result).now) (by_onset c.args.table.now) c.new.result.all (merged c.args.smf.now)
    (sym c.new-parts.ensures.options) (sym (ap (λ b. by_onset b.now) c.new-parts.ensures.table)) (sym c.new.ensures.all) c.build.ensures.plan

pub returns-clause-taken : goal.returns-clause-taken
returns-clause-taken c = handed (λ o t es. OnOk c.build.result (IsTaken o (allows c.args.layout) t es)) (asked c.new-parts.result) (options_of c.args.options)
    (by_onset (table_in c.new-parts.result).now) (by_onset c.args.table.now) c.new.result.all (merged c.args.smf.now)
    (sym c.new-parts.ensures.options) (sym (ap (λ b. by_onset b.now) c.new-parts.ensures.table)) (sym c.new.ensures.all) c.build.ensures.taken
