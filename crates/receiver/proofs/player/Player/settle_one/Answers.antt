use Rattle.std.proofs.Common.{rules, ◌∙◌, refl, sym, ap}
use Rattle.midi_model.specs.Zones.{governor}
use Rattle.midi_model.specs.Notes.{is_pedal_down}
use Rattle.receiver.specs.Stands.{states_of}
use Rattle.receiver.specs.Zones.{zones_in}
use Rattle.receiver.proofs.Here.{map_same}
use Rattle.receiver.proofs.Loops.{settled_one, settled_none, pedal_here}
use Rattle.receiver.proofs.player.Player.settle_one.Goals as goal

pub returns-then-not-is_down-clause-notes : goal.returns-then-not-is_down-clause-notes
returns-then-not-is_down-clause-notes c t d k dl kl =
    let s = c.args.self.now in
    rw (← c.number.ensures.value) (settled_one (states_of s) (zones_in s.zones) t s.channels c.number.result _ c.index-self-number.result (search rules)
    (ap is_pedal_down (pedal_here s.channels c.governor-governor.result _ c.index-self-governor.result 64 (search rules) (c.governor-governor.ensures.value ∙ ap (governor (zones_in s.zones)) (sym c.number.ensures.value))) ∙ ap is_pedal_down (sym c.get-pedal.ensures) ∙ sym c.is_down.ensures ∙ c.if-not-is_down.true) c.lift_pedal.ensures.heard d k kl)

pub returns-else-not-is_down-clause-notes : goal.returns-else-not-is_down-clause-notes
returns-else-not-is_down-clause-notes c t d k dl kl =
    let s = c.args.self.now in
    settled_none (states_of s) (zones_in s.zones) t s.channels c.args.channel
    (ap is_pedal_down (pedal_here s.channels c.governor-governor.result _ c.index-self-governor.result 64 (search rules) c.governor-governor.ensures.value) ∙ ap is_pedal_down (sym c.get-pedal.ensures) ∙ sym c.is_down.ensures ∙ c.if-not-is_down.false) d k

pub returns-then-not-is_down-clause-rest : goal.returns-then-not-is_down-clause-rest
returns-then-not-is_down-clause-rest c = record {
  states = map_same _ _ c.number.result _ c.index-self-number.result c.lift_pedal.ensures.state.own;
  selected = map_same _ _ c.number.result _ c.index-self-number.result c.lift_pedal.ensures.state.tuning;
  zones = refl;
  begun = refl;
}
