use Rattle.std.proofs.Common.{rules, refl}
use Rattle.receiver.proofs.Here.{map_same}
use Rattle.receiver.proofs.Actions.{pressing}
use Rattle.receiver.proofs.player.Player.press.Goals as goal

pub returns-clause-notes : goal.returns-clause-notes
returns-clause-notes c d k dl kl = rw (← c.number.ensures.value) (pressing _ c.number.result c.args.key c.args.value _ c.index-self-number.result (search rules) c.press.ensures.heard d k kl)

pub returns-clause-rest : goal.returns-clause-rest
returns-clause-rest c = record {
  states = map_same _ _ c.number.result _ c.index-self-number.result c.press.ensures.state.own;
  selected = map_same _ _ c.number.result _ c.index-self-number.result c.press.ensures.state.tuning;
  zones = refl;
  begun = refl;
}
