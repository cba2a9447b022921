use Rattle.std.proofs.Common.{◌≡◌, ◌≤◌, ℕ, List, [], length, map, refl, sym, ap, subst, ◌∙◌, arith}
use Rattle.midi_model.specs.Merged.{merged}
use Rattle.midi_model.specs.Writing.{Written, written}
use Rattle.event_stream.specs.Distributed.{distributed}
use Rattle.key_pitch.specs.Aims.{by_onset}
use Rattle.lifetimes.specs.Stands.{Stands, asked, table_in}
use Rattle.lifetimes.specs.Views.{options_of}
use Rattle.retune_model.specs.Options.{Options, ByMpe}
use Rattle.routes.specs.Putting.{AllMayPut, put_all}
use Rattle.mpe_route.specs.Planned.{IsPlanOf, zoned}
use Rattle.mpe_route.specs.Laws.{IsZonable}
use Rattle.route_tests.proofs.Handing.{handed, are_asked}
use Rattle.route_tests.proofs.tests.output.zoned.Goals as goal

pub translate-requires : goal.translate-requires
translate-requires c κs =
    let file = c.args.smf.now in
    let n = length file.tracks in
    let plan = c.args.plan.now in
    let o = options_of c.args.options in
    let t = by_onset c.args.table.now in
    let p = asked c.new-parts.result in
    let u = by_onset (table_in c.new-parts.result).now in
    let es = c.new-2.result.all in
    let playable = c.new-2.ensures.playable in
    let options : p ≡ o = c.new-parts.ensures.options in
    let table : u ≡ t = ap (λ b. by_onset b.now) c.new-parts.ensures.table in
    let high : o.range ≤ 127 = omega (arith, c.requires.high) in
    let range : p.range ≤ 127 = subst (λ (x : Options). x.range ≤ 127) (sym options) high in
    let route : p.route ≡ ByMpe = ap (λ (x : Options). x.route) options ∙ c.requires.route in
    let few : n ≤ 1024 = omega (arith, c.tracks.ensures.few, c.tracks.ensures.value) in
    let out : c.in_ok-out.out ≡ map written (distributed n []) = c.in_ok-out.ensures.stands ∙ ap (λ (k : ℕ). map written (distributed k [])) c.tracks.ensures.value in
    let order = c.playable_in_order.ensures.ticks n es playable in
    let planned : IsPlanOf p u es plan = handed (λ x y fs. IsPlanOf x y fs plan) o p t u (merged file) es options table c.new-2.ensures.all c.requires.plan in
    let zonable : IsZonable p u es plan = record { route = route; range = range; valid = playable.valid; in_order = order; planned = planned } in
    let may = c.puts_are_dealt.ensures.may n (zoned p u es plan) (c.zoned_plays_the_same.ensures.playable p u es plan zonable n playable) in
    let stands = subst (λ x. Stands x c.new-parts.result []) (sym table) c.new-parts.ensures.stands in
    let put = subst (λ (w : List Written). AllMayPut w (zoned p u es plan)) (sym out) may in
    ((refl, tt), (route, (range, (stands, (are_asked n es order playable few c.new-2.ensures.few, (planned, put))))))

pub returns : goal.returns
returns c =
    let file = c.args.smf.now in
    let n = length file.tracks in
    let plan = c.args.plan.now in
    let o = options_of c.args.options in
    let t = by_onset c.args.table.now in
    let p = asked c.new-parts.result in
    let u = by_onset (table_in c.new-parts.result).now in
    let es = c.new-2.result.all in
    let playable = c.new-2.ensures.playable in
    let options : p ≡ o = c.new-parts.ensures.options in
    let table : u ≡ t = ap (λ b. by_onset b.now) c.new-parts.ensures.table in
    let high : o.range ≤ 127 = omega (arith, c.requires.high) in
    let range : p.range ≤ 127 = subst (λ (x : Options). x.range ≤ 127) (sym options) high in
    let route : p.route ≡ ByMpe = ap (λ (x : Options). x.route) options ∙ c.requires.route in
    let out : c.in_ok-out.out ≡ map written (distributed n []) = c.in_ok-out.ensures.stands ∙ ap (λ (k : ℕ). map written (distributed k [])) c.tracks.ensures.value in
    let order = c.playable_in_order.ensures.ticks n es playable in
    let planned : IsPlanOf p u es plan = handed (λ x y fs. IsPlanOf x y fs plan) o p t u (merged file) es options table c.new-2.ensures.all c.requires.plan in
    let zonable : IsZonable p u es plan = record { route = route; range = range; valid = playable.valid; in_order = order; planned = planned } in
    let after = c.zoned_plays_the_same.ensures.playable p u es plan zonable n playable in
    let stands = c.in_ok-translate.ensures.put ∙ ap (λ (w : List Written). put_all w (zoned p u es plan)) out ∙ c.puts_are_dealt.ensures.dealt n (zoned p u es plan) after in
    c.into_tracks.ensures.ended n (zoned p u es plan) stands after
