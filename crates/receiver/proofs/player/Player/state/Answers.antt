use Rattle.std.proofs.Common.{◌≡◌, ◌<◌, ℕ, ◌∙◌, sym, ap, subst, length, get_or, arith, rules}
use Rattle.midi_model.specs.Music.{key_pressure}
use Rattle.midi_model.specs.Receiver.{after}
use Rattle.receiver.specs.Turns.{pressure_in}
use Rattle.receiver.proofs.Channels.{heard_at, pressure_there}
use Rattle.receiver.proofs.Slots.{pressure_at, pressures_list}
use Rattle.receiver.proofs.player.Player.state.Goals as goal

pub returns-clause-keys : goal.returns-clause-keys
returns-clause-keys c = λ es stands.
    let ns = (after es).music.notes in
    let xs = c.args.self.now.channels in
    let s = c.index-self-number.result in
    let channel = c.args.channel in
    let all : length xs ≡ 16 = search rules in
    let here : channel < 16 = omega (arith, c.number.ensures.value, c.number.ensures.bound) in
    pressures_list ns channel _ c.len-keys.ensures.items (λ k below.
    let P : ℕ → Type 0 = λ n. get_or (get_or xs n s).state.keys.items k 0 ≡ key_pressure ns channel k in
    subst P (sym c.number.ensures.value)
    (sym (pressure_there channel k (get_or xs channel s) below)
    ∙ sym (ap pressure_in (heard_at xs channel k s (omega (arith, all, here))))
    ∙ ap pressure_in (stands.notes channel k here below)
    ∙ sym (pressure_at ns channel k)))
