use Rattle.std.proofs.Common.{◌∙◌, ap}
use Rattle.midi_model.specs.Music.{channels_after, zones_after, settle_note}
use Rattle.receiver.specs.Stands.{slot, set_up_of}
use Rattle.receiver.specs.Turns.{kept}
use Rattle.receiver.specs.Zones.{zones_in}
use Rattle.receiver.proofs.player.Player.play.Goals as goal

pub returns : goal.returns
returns c =
    let t = c.args.tick in
    let m = set_up_of c.args.self.now in
    let msg = c.args.message.now in
    let now = c.act.new.self in
    let rest = c.settle.ensures.rest in
    record {
      states = rest.states ∙ c.act.ensures.states;
      zones = ap zones_in rest.zones ∙ c.act.ensures.zones;
      begun = rest.begun ∙ c.act.ensures.begun;
      notes = λ d k dl kl. c.settle.ensures.notes t d k dl kl
          ∙ ap (λ ss. kept (settle_note ss (zones_in now.zones) t) (slot now d k)) c.act.ensures.states
          ∙ ap (λ z. kept (settle_note (channels_after m msg) z t) (slot now d k)) c.act.ensures.zones
          ∙ ap (kept (settle_note (channels_after m msg) (zones_after m msg) t)) (c.act.ensures.notes d k dl kl);
      selected = rest.selected ∙ c.act.ensures.selected;
    }
