use Rattle.std.proofs.Common.{◌≡◌, ◌<◌, ◌≤◌, ◌∙◌, sym, ap, subst, length, get_or, refl, inl, inr, arith, rules}
use Rattle.mt_base.specs.declared.event.What.{What}
use Rattle.mt_base.specs.Midi.{MidiWhat, Says, view_what, channel_of}
use Rattle.midi_model.specs.Channel.{Channel, apply, counted, default_channel}
use Rattle.receiver.specs.State.{own_of}
use Rattle.receiver.specs.Stands.{HasRoom, states_of}
use Rattle.receiver.proofs.Channels.{own_at}
use Rattle.receiver.proofs.Limit.{few_more, room_for}
use Rattle.receiver.proofs.player.Player.room.Goals as goal

pub returns-in-Message-clause-all : goal.returns-in-Message-clause-all
returns-in-Message-clause-all c = λ es e stands same.
    let r = c.args.self.now in
    let msg = c.in-Message.message in
    let d = c.index-self-channel_number.result in
    let says : e.what ≡ Says msg = same ∙ ap view_what c.in-Message.is in
    let all : length r.channels ≡ 16 = search rules in
    let low : channel_of msg < 16 = omega (arith, c.channel_number.ensures.value, c.channel_number.ensures.bound) in
    let here : get_or (states_of r) (channel_of msg) default_channel ≡ own_of (get_or r.channels c.channel_number.result d).state =
    own_at r.channels (channel_of msg) d (omega (arith, all, low)) ∙ ap (λ i. own_of (get_or r.channels i d).state) (sym c.channel_number.ensures.value) in
    let P : Channel → Type 0 = λ s. counted (apply s msg) ≤ 16 in
    let Q : MidiWhat → Type 0 = λ w. HasRoom r w in (
      λ yes. few_more r es e stands (subst Q (sym says) (subst P (sym here) (c.room.ensures.0 yes))),
      λ few. c.room.ensures.1 (subst P here (room_for r es e msg all low stands says few)),
    )

pub returns-in-Sysex : goal.returns-in-Sysex
returns-in-Sysex c =
    let r = c.args.self.now in
    let P : What → Type 0 = λ w. HasRoom r (view_what w) in
    let Q : MidiWhat → Type 0 = λ w. HasRoom r w in
    let room : HasRoom r (view_what c.args.what.now) = elim c.in-Sysex.is [
      | inl s ↦ subst P (sym s.2) tt
      | inr s ↦ subst P (sym s.2) tt
    ] in
    record {
      own = (λ yes. room, λ has. refl);
      all = λ es e stands same. (λ yes. few_more r es e stands (subst Q (sym same) room), λ few. refl);
    }
