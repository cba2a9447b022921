use Rattle.std.proofs.Common.{◌≡◌, ◌≤◌, ℕ, List, [], length, map, refl, sym, ap, subst, ◌∙◌, arith}
use Rattle.midi_model.specs.Merged.{merged}
use Rattle.midi_model.specs.Writing.{Written, written}
use Rattle.event_stream.specs.Distributed.{distributed}
use Rattle.key_pitch.specs.Aims.{by_onset}
use Rattle.lifetimes.specs.Noted.{IsNoted}
use Rattle.lifetimes.specs.Stands.{Stands, asked, table_in}
use Rattle.lifetimes.specs.Views.{options_of}
use Rattle.retune_model.specs.Options.{Options, bends_notes}
use Rattle.retune_model.specs.SourceFaults.{IsFaultless}
use Rattle.routes.specs.Putting.{AllMayPut}
use Rattle.routes.specs.Routed.{routed}
use Rattle.route_tests.proofs.Handing.{handed, few_tracks}
use Rattle.route_tests.proofs.tests.output.told.Goals as goal

pub translate-requires : goal.translate-requires
translate-requires c κs =
    let file = c.args.smf.now in
    let n = length file.tracks in
    let o = options_of c.args.options in
    let t = by_onset c.args.table.now in
    let p = asked c.new-parts.result in
    let u = by_onset (table_in c.new-parts.result).now in
    let es = c.new-2.result.all in
    let playable = c.new-2.ensures.playable in
    let options : p ≡ o = c.new-parts.ensures.options in
    let table : u ≡ t = ap (λ b. by_onset b.now) c.new-parts.ensures.table in
    let program : p.program ≤ 127 = subst (λ (x : Options). x.program ≤ 127) (sym options) c.requires.program in
    let few : n ≤ 1024 = omega (arith, c.tracks.ensures.few, c.tracks.ensures.value) in
    let out : c.in_ok-out.out ≡ map written (distributed n []) = c.in_ok-out.ensures.stands ∙ ap (λ (k : ℕ). map written (distributed k [])) c.tracks.ensures.value in
    let may = c.puts_are_dealt.ensures.may n (routed p u es) (c.routed_is_playable.ensures n p u es program playable) in
    let route = ap (λ (x : Options). bends_notes x.route) options ∙ c.requires.route in
    let stands = subst (λ x. Stands x c.new-parts.result []) (sym table) c.new-parts.ensures.stands in
    let order = c.playable_in_order.ensures.ticks n es playable in
    let tracks = few_tracks n es playable few in
    let faultless = handed IsFaultless o p t u (merged file) es options table c.new-2.ensures.all c.requires.faultless in
    let noted = handed (λ x y fs. IsNoted x fs c.args.noted.now) o p t u (merged file) es options table c.new-2.ensures.all c.requires.noted in
    let put = subst (λ (w : List Written). AllMayPut w (routed p u es)) (sym out) may in
    ((refl, tt), (route, (program, (stands, (playable.valid, (order, (tracks, (c.new-2.ensures.few, (faultless, ((λ key onset. refl), (noted, put)))))))))))
