use Rattle.std.proofs.Common.{rules, ◌≡◌, ◌<◌, ◌∙◌, ℕ, refl, sym, ap, get_or, set, arith, length}
use Rattle.std.proofs.lemmas.List.{length-map, length-set}
use Rattle.midi_model.specs.Channel.{Channel, default_channel}
use Rattle.midi_model.specs.Zones.{bend_range_at}
use Rattle.receiver.specs.Stands.{states_of}
use Rattle.receiver.specs.Turns.{ranged_at}
use Rattle.receiver.specs.Zones.{zones_in}
use Rattle.receiver.proofs.Loops.{next, at_last, at_first, set_place, all_ranges}
use Rattle.receiver.proofs.player.Player.give_ranges.Goals as goal

pub loop-number-preserved : goal.loop-number-preserved
loop-number-preserved c =
    let old = c.args.self.now in
    let now = c.loop-number.self in
    let i = c.loop-number.number in
    let m = c.args.master in
    let at = c.loop-number.invariant in
    let ranged : states_of c.give_range.new.self ≡ ranged_at (zones_in now.zones) m i (states_of now) =
    c.give_range.ensures.states ∙ ap (λ j. ranged_at (zones_in now.zones) m j (states_of now)) c.at.ensures in
    let to : ℕ → Channel = λ e. bend_range_at (zones_in old.zones) m e (get_or (states_of old) e default_channel) in
    let low : i < length (states_of now) = omega (arith, at.many, c.loop-number-test.true) in
    record {
      many = ap length ranged ∙ length-set (states_of now) i _ ∙ at.many;
      notes = λ d k dl kl. c.give_range.ensures.notes d k dl kl ∙ at.notes d k dl kl;
      states = next i (λ e. get_or (states_of old) e default_channel) (λ e. get_or (states_of now) e default_channel) (λ e. get_or (states_of c.give_range.new.self) e default_channel) to
          (bend_range_at (zones_in old.zones) m i) at.states
          (λ e el. ap (λ ss. get_or ss e default_channel) (ranged ∙ ap (λ z. set (states_of now) i (bend_range_at (zones_in z) m i (get_or (states_of now) i default_channel))) at.zones)
          ∙ set_place (states_of now) i default_channel (bend_range_at (zones_in old.zones) m i) low e)
          refl;
      selected = c.give_range.ensures.rest.selected ∙ at.selected;
      zones = c.give_range.ensures.rest.zones ∙ at.zones;
      begun = c.give_range.ensures.rest.begun ∙ at.begun;
    }

pub returns-clause-states : goal.returns-clause-states
returns-clause-states c =
    let many : length c.args.self.now.channels ≡ 16 = search rules in
    all_ranges (zones_in c.args.self.now.zones) c.args.master (states_of c.args.self.now) (states_of c.loop-number.self)
    (length-map c.args.self.now.channels _ ∙ many) c.loop-number.invariant.many
    (λ e el. c.loop-number.invariant.states e el ∙ at_last c.loop-number.number _ _ e (omega (arith, c.loop-number-test.false)) el)

pub loop-number-init : goal.loop-number-init
loop-number-init c = let many : length c.args.self.now.channels ≡ 16 = search rules in record {
  many = length-map c.args.self.now.channels _ ∙ many;
  notes = λ d k dl kl. refl;
  states = λ d dl. sym (at_first _ _ d);
  selected = refl;
  zones = refl;
  begun = refl;
}
