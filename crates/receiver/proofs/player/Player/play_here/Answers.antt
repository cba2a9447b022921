use Rattle.std.proofs.Common.{◌∙◌, ap, arith}
use Rattle.receiver.specs.Zones.{zones_in}
use Rattle.receiver.specs.Turns.{begins_by}
use Rattle.receiver.proofs.Stepping.{one_more}
use Rattle.receiver.proofs.Reaching.{followed_here, still_elsewhere}
use Rattle.receiver.proofs.player.Player.play_here.Goals as goal

pub returns-clause-follows : goal.returns-clause-follows
returns-clause-follows c = λ calm.
    let rest = c.settle_one.ensures.rest in
    record {
      states = rest.states ∙ c.act.ensures.states;
      zones = ap zones_in rest.zones ∙ c.act.ensures.zones;
      begun = rest.begun ∙ c.act.ensures.begun;
      notes = followed_here c.args.self.now c.act.new.self c.settle_one.new.self c.args.tick c.args.message.now c.channel.result c.requires.own
          c.channel.ensures
          c.act.ensures.notes c.act.ensures.states c.act.ensures.zones (c.settle_one.ensures.notes c.args.tick) calm;
      selected = rest.selected ∙ c.act.ensures.selected;
    }

pub returns-clause-elsewhere : goal.returns-clause-elsewhere
returns-clause-elsewhere c d k dl kl apart =
    still_elsewhere c.args.self.now c.act.new.self c.settle_one.new.self c.args.tick c.args.message.now c.channel.result c.requires.own
    c.channel.ensures
    c.act.ensures.notes (c.settle_one.ensures.notes c.args.tick) d k dl kl apart

pub returns-clause-begun : goal.returns-clause-begun
returns-clause-begun c = omega (
  arith,
  c.settle_one.ensures.rest.begun,
  c.act.ensures.begun,
  one_more (begins_by c.args.message.now)
      c.args.self.now.begun,
)
