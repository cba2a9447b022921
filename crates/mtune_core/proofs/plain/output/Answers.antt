use Rattle.std.proofs.Common.{◌≡◌, ◌≤◌, ◌<◌, ◌^◌, ℕ, List, [], length, map, refl, sym, ap, subst, ◌∙◌, arith}
use Rattle.std.specs.Prelude.{All}
use Rattle.std.proofs.lemmas.List.{length-map}
use Rattle.mt_base.specs.Midi.{MidiEvent}
use Rattle.midi_model.specs.Merged.{merged}
use Rattle.midi_model.specs.Writing.{Written, written}
use Rattle.event_stream.specs.Distributed.{distributed}
use Rattle.key_pitch.specs.Aims.{by_onset}
use Rattle.lifetimes.specs.Noted.{IsNoted}
use Rattle.lifetimes.specs.Stands.{Stands, asked, table_in}
use Rattle.lifetimes.specs.Views.{options_of}
use Rattle.retune_model.specs.Options.{Options, bends_notes}
use Rattle.retune_model.specs.SourceFaults.{IsFaultless}
use Rattle.routes.specs.Putting.{AllMayPut}
use Rattle.routes.specs.Routed.{routed}
use Rattle.mtune_core.proofs.Dealt.{length_dealt}
use Rattle.mtune_core.proofs.Put.{handed, few_tracks, texts}
use Rattle.mtune_core.proofs.plain.output.Goals as goal

pub translate-requires : goal.translate-requires
translate-requires c κs =
    let file = c.args.smf.now in
    let n = length file.tracks in
    let o = options_of c.args.options in
    let t = by_onset c.args.table.now in
    let p = asked c.new-parts.result in
    let u = by_onset (table_in c.new-parts.result).now in
    let es = c.new-2.result.all in
    let playable = c.new-2.ensures.playable in
    let options : p ≡ o = c.new-parts.ensures.options in
    let table : u ≡ t = ap (λ b. by_onset b.now) c.new-parts.ensures.table in
    let program : p.program ≤ 127 = subst (λ (x : Options). x.program ≤ 127) (sym options) c.requires.plain.program in
    let few : n ≤ 1024 = omega (arith, c.tracks.ensures.few, c.tracks.ensures.value) in
    let out : c.in_ok-out.out ≡ map written (distributed n []) =
    c.in_ok-out.ensures.stands ∙ ap (λ (k : ℕ). map written (distributed k [])) c.tracks.ensures.value in
    let may = c.puts_are_dealt.ensures.may n (routed p u es) (c.routed_is_playable.ensures n p u es program playable) in
    let route = ap (λ (x : Options). bends_notes x.route) options ∙ c.requires.plain.route in
    let stands = subst (λ x. Stands x c.new-parts.result []) (sym table) c.new-parts.ensures.stands in
    let order = c.playable_in_order.ensures.ticks n es playable in
    let tracks = few_tracks n es playable few in
    let faultless = handed IsFaultless o p t u (merged file) es options table c.new-2.ensures.all c.requires.faultless in
    let noted = handed (λ x y fs. IsNoted x fs c.args.found.now.noted) o p t u (merged file) es options table c.new-2.ensures.all
    c.requires.found.noted in
    let put = subst (λ (w : List Written). AllMayPut w (routed p u es)) (sym out) may in (
      (refl, tt),
      (route, (program, (stands, (playable.valid, (order, (tracks, (c.new-2.ensures.few, (faultless, ((λ key onset. refl), (noted, put)))))))))),
    )

-- the tracks stand for what the route makes of the source
its_texts : (c : goal.After-into_tracks)
    → c.into_tracks.result.items ≡ map written
    (distributed (length c.args.smf.now.tracks) (routed (options_of c.args.options) (by_onset c.args.table.now) (merged c.args.smf.now)))
its_texts c =
    let file = c.args.smf.now in
    let n = length file.tracks in
    let o = options_of c.args.options in
    let t = by_onset c.args.table.now in
    let p = asked c.new-parts.result in
    let u = by_onset (table_in c.new-parts.result).now in
    let es = c.new-2.result.all in
    let options : p ≡ o = c.new-parts.ensures.options in
    let table : u ≡ t = ap (λ b. by_onset b.now) c.new-parts.ensures.table in
    let program : p.program ≤ 127 = subst (λ (x : Options). x.program ≤ 127) (sym options) c.requires.plain.program in
    texts c.puts_are_dealt.ensures.dealt c.tracks.result n (routed p u es) c.in_ok-out.out c.translate.new.out c.into_tracks.result.items
    c.in_ok-out.ensures.stands c.tracks.ensures.value
    c.in_ok-translate.ensures.put c.into_tracks.ensures.tracks (c.routed_is_playable.ensures n p u es program c.new-2.ensures.playable)
    ∙ handed (λ x y fs. map written (distributed n (routed x y fs)) ≡ map written (distributed n (routed o t (merged file)))) o p t u (merged file) es
    options table c.new-2.ensures.all refl

how_many : (n : ℕ) (items : List Written) (es : List MidiEvent) → items ≡ map written (distributed n es) → length items ≡ n
how_many n items es is = ap length is ∙ length-map (distributed n es) written ∙ length_dealt 0 n es

pub finish-requires-clause-one_or_more : goal.finish-requires-clause-one_or_more
finish-requires-clause-one_or_more c = let len =
    how_many _ c.into_tracks.result.items _ (its_texts c) in omega (arith, len, c.tracks.ensures.some, c.tracks.ensures.value)

pub finish-requires-clause-few : goal.finish-requires-clause-few
finish-requires-clause-few c = let len =
    how_many _ c.into_tracks.result.items _ (its_texts c) in omega (arith, len, c.tracks.ensures.few, c.tracks.ensures.value)

pub finish-requires-clause-short : goal.finish-requires-clause-short
finish-requires-clause-short c =
    let bytes = c.requires.short in
    subst (All (λ (w : Written). length w.bytes < 2 ^ 32)) (sym (its_texts c))
    (c.routed_is_short.ensures.tracks bytes.0 c.args.smf.now (options_of c.args.options) (by_onset c.args.table.now) bytes.1 (omega (arith, bytes.2)))
