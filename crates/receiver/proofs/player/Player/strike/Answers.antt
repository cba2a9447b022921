use Rattle.std.proofs.Common.{rules, ◌+◌, ◌∙◌, sym, ap, get_or}
use Rattle.midi_model.specs.Zones.{governor}
use Rattle.receiver.proofs.Here.{map_same}
use Rattle.receiver.proofs.Actions.{striking, begun_here}
use Rattle.receiver.specs.Zones.{zones_in}
use Rattle.receiver.proofs.player.Player.strike.Goals as goal

pub returns-clause-notes : goal.returns-clause-notes
returns-clause-notes c d k dl kl =
    let s = c.args.self.now in
    rw (← c.number.ensures.value) (striking s.channels c.number.result c.args.key c.strike.new.self c.index-self-number.result
    (record { number = s.begun + 1; onset = c.args.tick; velocity = c.args.velocity; voice = (get_or s.channels c.governor.result c.index-self-governor.result).state.voice; release = (0, 0) })
    _ (search rules) c.strike.ensures.heard
    (begun_here s.channels (zones_in s.zones) c.args.tick c.number.result c.args.key c.args.velocity c.governor.result c.index-self-governor.result (search rules) (c.governor.ensures.value ∙ ap (governor (zones_in s.zones)) (sym c.number.ensures.value))) d k kl)

pub returns-clause-states : goal.returns-clause-states
returns-clause-states c = map_same _ _ c.number.result _ c.index-self-number.result c.strike.ensures.state.own

pub returns-clause-selected : goal.returns-clause-selected
returns-clause-selected c = map_same _ _ c.number.result _ c.index-self-number.result c.strike.ensures.state.tuning
