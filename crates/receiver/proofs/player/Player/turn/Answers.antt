use Rattle.std.proofs.Common.{◌∙◌, ap, refl, arith, cond, nat_eq, subst}
use Rattle.receiver.specs.Following.{turn_of, SlotsBecome}
use Rattle.receiver.specs.Stands.{slot}
use Rattle.receiver.specs.Turns.{kept, only_on}
use Rattle.receiver.specs.Zones.{zones_in}
use Rattle.receiver.proofs.Here.{Slot, slot_in}
use Rattle.receiver.proofs.Loops.{next, at_last, then_same}
use Rattle.receiver.proofs.player.Player.turn.Goals as goal

pub loop-number-preserved : goal.loop-number-preserved
loop-number-preserved c = record {
  notes = λ d k dl kl.
      (let old = c.args.self.now in
      let f : Slot → Slot = kept (turn_of c.args.turn c.args.tick (zones_in old.zones) c.args.channel) in
      let same = c.loop-number.invariant.rest.zones in
      let turned : SlotsBecome (only_on c.loop-number.number (turn_of c.args.turn c.args.tick (zones_in c.loop-number.self.zones) c.args.channel)) c.loop-number.self c.turn_one.new.self =
      subst (λ j. SlotsBecome (only_on j (turn_of c.args.turn c.args.tick (zones_in c.loop-number.self.zones) c.args.channel)) c.loop-number.self c.turn_one.new.self) c.at.ensures c.turn_one.ensures.notes in
      next c.loop-number.number (λ e. slot_in old.channels e k) (λ e. slot_in c.loop-number.self.channels e k) (λ e. slot c.turn_one.new.self e k) (λ e. f (slot_in old.channels e k)) f
      (λ e el. c.loop-number.invariant.notes e k el kl)
      (λ e el. turned e k el kl ∙ ap (λ z. cond (nat_eq e c.loop-number.number) (kept (turn_of c.args.turn c.args.tick (zones_in z) c.args.channel) (slot_in c.loop-number.self.channels e k)) (slot_in c.loop-number.self.channels e k)) same)
      refl d dl);
  rest = then_same _ _ _ c.loop-number.invariant.rest c.turn_one.ensures.rest;
}

pub returns-clause-notes : goal.returns-clause-notes
returns-clause-notes c d k dl kl = c.loop-number.invariant.notes d k dl kl ∙ at_last c.loop-number.number _ _ d (omega (arith, c.loop-number-test.false)) dl
