use Rattle.std.proofs.Common.{rules, refl, sym, ap, ◌∙◌}
use Rattle.receiver.specs.Following.{reaches}
use Rattle.receiver.specs.Zones.{zones_in}
use Rattle.receiver.proofs.Here.{map_same}
use Rattle.receiver.proofs.Loops.{turned_one, turned_none}
use Rattle.receiver.proofs.player.Player.turn_one.Goals as goal

pub returns-then-reaches-clause-notes : goal.returns-then-reaches-clause-notes
returns-then-reaches-clause-notes c d k dl kl =
    rw (← c.number.ensures.value) (turned_one c.args.turn c.args.tick (zones_in c.args.self.now.zones) c.args.channel c.args.self.now.channels c.number.result _ c.index-self-number.result (search rules) (ap (reaches c.args.turn (zones_in c.args.self.now.zones) c.args.channel) c.number.ensures.value ∙ sym c.reaches.ensures ∙ c.if-reaches.true) c.turn.ensures.heard d k kl)

pub returns-then-reaches-clause-rest : goal.returns-then-reaches-clause-rest
returns-then-reaches-clause-rest c = record {
  states = map_same _ _ c.number.result _ c.index-self-number.result c.turn.ensures.state.own;
  selected = map_same _ _ c.number.result _ c.index-self-number.result c.turn.ensures.state.tuning;
  zones = refl;
  begun = refl;
}

pub returns-else-reaches-clause-notes : goal.returns-else-reaches-clause-notes
returns-else-reaches-clause-notes c d k dl kl = turned_none c.args.turn c.args.tick (zones_in c.args.self.now.zones) c.args.channel c.args.self.now.channels c.args.other (sym c.reaches.ensures ∙ c.if-reaches.false) d k
