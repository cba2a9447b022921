use Rattle.std.proofs.Common.{rules, arith, ◌≡◌, ◌<◌, ℕ, ◌∙◌, ap, sym, length, Some}
use Rattle.std.proofs.lemmas.Int.{ints}
use Rattle.midi_model.specs.Zones.{governor}
use Rattle.midi_model.specs.Music.{channel_at}
use Rattle.midi_model.specs.Tuning.{selected_of}
use Rattle.midi_model.specs.Receiver.{after}
use Rattle.midi_model.specs.Played.{fine, coarse, by_program}
use Rattle.receiver.proofs.Played.{own_stands, selected_stands, pitch_stands, summed}
use Rattle.receiver.proofs.receiver.Receiver.played.Goals as goal

pub returns : goal.returns
returns c = λ es whole.
    let stands = whole.player in
    let r = c.args.self.now.player in
    let all : length r.channels ≡ 16 = search rules in
    let low : c.args.channel < 16 = omega (arith, c.number.ensures.value, c.number.ensures.bound) in
    let below : c.args.key < 128 = omega (arith, c.requires) in
    let g : ℕ = governor (after es).music.zones c.args.channel in
    let to_g : c.governor.result ≡ g =
    c.governor.ensures.value ∙ ap (λ z. governor z c.args.channel) stands.zones in
    let g_low : g < 16 = omega (arith, to_g, c.governor.ensures.bound) in
    let own = own_stands r es g c.governor.result c.index-player-governor.result stands all g_low to_g in
    let selected = selected_stands r es g c.governor.result c.index-player-governor.result stands all g_low to_g in
    let tuned : c.by_program-tuned.result ≡ by_program (after es).tuning (selected_of (after es).tuning g) c.args.key =
    c.by_program-tuned.ensures.pitch (after es).tuning whole.values ∙ ap (λ p. by_program (after es).tuning p c.args.key) selected in
    let tuned_fine : c.fine.result ≡ fine (channel_at (after es).music g) = c.fine.ensures.tuning ∙ ap fine own in
    let tuned_coarse : c.coarse.result ≡ coarse (channel_at (after es).music g) = c.coarse.ensures.tuning ∙ ap coarse own in
    let sounds = sym c.is_sounding.ensures ∙ c.if-not-is_sounding.false in
    ap Some (omega (
      arith,
      ints,
      c.by_program-tuned.ensures.low,
      c.by_program-tuned.ensures.high,
      c.fine.ensures.low,
      c.fine.ensures.high,
      c.coarse.ensures.low,
      c.coarse.ensures.high,
      c.bends.ensures.low,
      c.bends.ensures.high,
    )
    ∙ summed tuned tuned_fine tuned_coarse (c.bends.ensures.bends es stands))
    ∙ sym (pitch_stands r es c.args.channel c.args.key c.number.result c.index-player-number.result stands all low below c.number.ensures.value sounds)
