use Rattle.std.proofs.Common.{rules, arith, ◌≡◌, ◌<◌, ◌+ℤ◌, ◌∙◌, ap, sym, length, Some, None}
use Rattle.std.proofs.lemmas.Int.{ints}
use Rattle.midi_model.specs.Zones.{master}
use Rattle.midi_model.specs.Music.{channel_at}
use Rattle.midi_model.specs.Receiver.{after}
use Rattle.midi_model.specs.Played.{bent, bends}
use Rattle.receiver.proofs.Played.{own_stands}
use Rattle.receiver.proofs.player.Player.bends.Goals as goal

pub returns-in-Some-clause-bends : goal.returns-in-Some-clause-bends
returns-in-Some-clause-bends c = λ es stands.
    let r = c.args.self.now in
    let all : length r.channels ≡ 16 = search rules in
    let low : c.args.channel < 16 = omega (arith, c.number.ensures.value, c.number.ensures.bound) in
    let master_low : c.in-Some.master < 16 = omega (arith, c.number-in-Some.ensures.value, c.number-in-Some.ensures.bound) in
    let own = c.bent-own.ensures.bend ∙ ap bent (own_stands r es c.args.channel c.number.result _ stands all low c.number.ensures.value) in
    let of_master = c.bent.ensures.bend ∙ ap bent (own_stands r es c.in-Some.master c.number-in-Some.result _ stands all master_low c.number-in-Some.ensures.value) in
    let member : Some c.in-Some.master ≡ master (after es).music.zones c.args.channel = sym c.in-Some.is ∙ c.master.ensures ∙ ap (λ z. master z c.args.channel) stands.zones in
    omega (arith, ints, c.bent-own.ensures.low, c.bent-own.ensures.high, c.bent.ensures.low, c.bent.ensures.high)
    ∙ ap (λ z. z +ℤ c.bent.result) own
    ∙ ap (λ z. bent (channel_at (after es).music c.args.channel) +ℤ z) of_master
    ∙ ap (bends (after es) c.args.channel) member

pub returns-in-None-clause-bends : goal.returns-in-None-clause-bends
returns-in-None-clause-bends c = λ es stands.
    let r = c.args.self.now in
    let all : length r.channels ≡ 16 = search rules in
    let low : c.args.channel < 16 = omega (arith, c.number.ensures.value, c.number.ensures.bound) in
    let own = c.bent-own.ensures.bend ∙ ap bent (own_stands r es c.args.channel c.number.result _ stands all low c.number.ensures.value) in
    let none : None ≡ master (after es).music.zones c.args.channel = sym c.in-None.is ∙ c.master.ensures ∙ ap (λ z. master z c.args.channel) stands.zones in
    omega (arith, ints, c.bent-own.ensures.low, c.bent-own.ensures.high) ∙ own ∙ ap (bends (after es) c.args.channel) none
