use Rattle.std.proofs.Common.{◌∙◌, ap, refl, arith, cond, nat_eq, subst}
use Rattle.midi_model.specs.Music.{settle_note}
use Rattle.receiver.specs.Following.{SlotsBecome}
use Rattle.receiver.specs.Stands.{slot, states_of, set_up_of}
use Rattle.receiver.specs.Turns.{kept, only_on, settled_by}
use Rattle.receiver.specs.Zones.{zones_in}
use Rattle.receiver.proofs.Here.{Slot, slot_in}
use Rattle.receiver.proofs.Loops.{next, at_last, then_same}
use Rattle.receiver.proofs.player.Player.settle.Goals as goal

pub loop-number-preserved : goal.loop-number-preserved
loop-number-preserved c = record {
  notes = λ t d k dl kl.
      (let old = c.args.self.now in
      let now = c.loop-number.self in
      let i = c.loop-number.number in
      let settled : SlotsBecome (only_on i (settled_by (set_up_of now) t)) now c.settle_one.new.self =
      subst (λ j. SlotsBecome (only_on j (settled_by (set_up_of now) t)) now c.settle_one.new.self) c.at.ensures (c.settle_one.ensures.notes t) in
      let f : Slot → Slot = kept (settle_note (states_of old) (zones_in old.zones) t) in
      next i (λ e. slot_in old.channels e k) (λ e. slot_in now.channels e k) (λ e. slot c.settle_one.new.self e k) (λ e. f (slot_in old.channels e k)) f
      (λ e el. c.loop-number.invariant.notes t e k el kl)
      (λ e el. settled e k el kl
      ∙ ap (λ z. cond (nat_eq e i) (kept (settle_note (states_of now) (zones_in z) t) (slot_in now.channels e k)) (slot_in now.channels e k)) c.loop-number.invariant.rest.zones
      ∙ ap (λ ss. cond (nat_eq e i) (kept (settle_note ss (zones_in old.zones) t) (slot_in now.channels e k)) (slot_in now.channels e k)) c.loop-number.invariant.rest.states)
      refl d dl);
  rest = then_same _ _ _ c.loop-number.invariant.rest c.settle_one.ensures.rest;
}

pub returns-clause-notes : goal.returns-clause-notes
returns-clause-notes c t d k dl kl = c.loop-number.invariant.notes t d k dl kl ∙ at_last c.loop-number.number _ _ d (omega (arith, c.loop-number-test.false)) dl
