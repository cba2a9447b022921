use Rattle.std.proofs.Common.{rules, ◌≡◌, ◌<◌, ◌∙◌, refl, sym, ap, get_or, set, arith, length, None}
use Rattle.std.proofs.lemmas.List.{length-map, length-set}
use Rattle.midi_model.specs.Channel.{default_channel}
use Rattle.receiver.specs.Stands.{states_of, selected_in}
use Rattle.receiver.specs.State.{own_of}
use Rattle.receiver.proofs.Here.{slot_in, slot_set, map_changed}
use Rattle.receiver.proofs.Loops.{next, at_last, at_first, set_place, all_alike}
use Rattle.receiver.proofs.player.Player.reset.Goals as goal

pub loop-channel-preserved : goal.loop-channel-preserved
loop-channel-preserved c =
    let old = c.args.self.now in
    let now = c.loop-channel.self in
    let i = c.loop-channel.channel in
    let at = c.loop-channel.invariant in
    let some : i < length (states_of now) = omega (arith, at.many, c.loop-channel-test.true) in
    let low : i < length now.channels = omega (arith, some, length-map now.channels (λ s. own_of s.state)) in
    record {
      many = ap length (map_changed _ now.channels i c.reset.new.self default_channel c.reset.ensures.own) ∙ length-set (states_of now) i default_channel ∙ at.many;
      notes = λ d k dl kl. next i (λ e. slot_in old.channels e k) (λ e. slot_in now.channels e k) (λ e. slot_in (set now.channels i c.reset.new.self) e k) (λ e. None) (λ o. None)
          (λ e el. at.notes e k el kl)
          (λ e el. slot_set now.channels i c.reset.new.self c.index-self-channel.result (λ a b o. None) low c.reset.ensures.heard e k kl)
          refl d dl;
      states = next i (λ e. get_or (states_of old) e default_channel) (λ e. get_or (states_of now) e default_channel) _ (λ e. default_channel) (λ s. default_channel) at.states
          (λ e el. ap (λ ss. get_or ss e default_channel) (map_changed _ now.channels i c.reset.new.self default_channel c.reset.ensures.own)
          ∙ set_place (states_of now) i default_channel (λ s. default_channel) some e)
          refl;
      selected = next i (λ e. get_or (selected_in old) e None) (λ e. get_or (selected_in now) e None) _ (λ e. None) (λ s. None) at.selected
          (λ e el. ap (λ ss. get_or ss e None) (map_changed _ now.channels i c.reset.new.self None c.reset.ensures.tuning)
          ∙ set_place (selected_in now) i None (λ s. None) (omega (arith, low, length-map now.channels (λ s. s.state.tuning))) e)
          refl;
      begun = at.begun;
    }

pub returns-clause-notes : goal.returns-clause-notes
returns-clause-notes c d k dl kl = c.loop-channel.invariant.notes d k dl kl ∙ at_last c.loop-channel.channel _ _ d (omega (arith, c.loop-channel-test.false)) dl

pub returns-clause-states : goal.returns-clause-states
returns-clause-states c =
    all_alike (states_of c.loop-channel.self) default_channel c.loop-channel.invariant.many
    (λ e el. c.loop-channel.invariant.states e el ∙ at_last c.loop-channel.channel _ _ e (omega (arith, c.loop-channel-test.false)) el)

pub returns-clause-selected : goal.returns-clause-selected
returns-clause-selected c =
    let now = c.loop-channel.self in
    all_alike (selected_in now) None (length-map now.channels (λ s. s.state.tuning) ∙ sym (length-map now.channels (λ s. own_of s.state)) ∙ c.loop-channel.invariant.many)
    (λ e el. c.loop-channel.invariant.selected e el ∙ at_last c.loop-channel.channel _ _ e (omega (arith, c.loop-channel-test.false)) el)

pub loop-channel-init : goal.loop-channel-init
loop-channel-init c = let many : length c.args.self.now.channels ≡ 16 = search rules in record {
  many = length-map c.args.self.now.channels _ ∙ many;
  notes = λ d k dl kl. sym (at_first _ _ d);
  states = λ d dl. sym (at_first _ _ d);
  selected = λ d dl. sym (at_first _ _ d);
  begun = refl;
}
