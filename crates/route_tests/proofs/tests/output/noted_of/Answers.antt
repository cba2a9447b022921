use Rattle.std.proofs.Common.{◌≡◌, ◌≤◌, [], length, refl, sym, ap, subst, arith}
use Rattle.std.specs.Prelude.{IfSome}
use Rattle.midi_model.specs.Merged.{merged}
use Rattle.key_pitch.specs.Aims.{by_onset}
use Rattle.lifetimes.specs.Noted.{IsNoted}
use Rattle.lifetimes.specs.Stands.{Stands, asked, table_in}
use Rattle.lifetimes.specs.Views.{options_of}
use Rattle.retune_model.specs.SourceFaults.{IsFaultless}
use Rattle.route_tests.proofs.Handing.{handed, few_tracks}
use Rattle.route_tests.proofs.tests.output.noted_of.Goals as goal

pub look-requires : goal.look-requires
look-requires c κs =
    let n = length c.args.smf.now.tracks in
    let es = c.new.result.all in
    let playable = c.new.ensures.playable in
    let few : n ≤ 1024 = omega (arith, c.tracks-count.ensures.few, c.tracks-count.ensures.value) in
    let table : by_onset (table_in c.new-parts.result).now ≡ by_onset c.args.table.now = ap (λ b. by_onset b.now) c.new-parts.ensures.table in
    let stands = subst (λ t. Stands t c.new-parts.result []) (sym table) c.new-parts.ensures.stands in
    ((refl, tt), (stands, (playable.valid, (c.playable_in_order.ensures.ticks n es playable, (few_tracks n es playable few, c.new.ensures.few)))))

pub returns-clause-noted : goal.returns-clause-noted
returns-clause-noted c = handed (λ o t es. IfSome c.look.result (IsNoted o es)) (asked c.new-parts.result) (options_of c.args.options)
    (by_onset (table_in c.new-parts.result).now) (by_onset c.args.table.now) c.new.result.all (merged c.args.smf.now)
    (sym c.new-parts.ensures.options) (sym (ap (λ b. by_onset b.now) c.new-parts.ensures.table)) (sym c.new.ensures.all) c.look.ensures.noted

pub returns-clause-faultless : goal.returns-clause-faultless
returns-clause-faultless c = handed (λ o t es. IfSome c.look.result (λ n. IsFaultless o t es)) (asked c.new-parts.result) (options_of c.args.options)
    (by_onset (table_in c.new-parts.result).now) (by_onset c.args.table.now) c.new.result.all (merged c.args.smf.now)
    (sym c.new-parts.ensures.options) (sym (ap (λ b. by_onset b.now) c.new-parts.ensures.table)) (sym c.new.ensures.all) c.look.ensures.faultless
