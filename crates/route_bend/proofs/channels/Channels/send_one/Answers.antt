use Rattle.std.proofs.Common.{◌∙◌, sym}
use Rattle.std.proofs.lemmas.Result.{on_ok_weaker}
use Rattle.route_bend.proofs.Renewing.{sends_one}
use Rattle.route_bend.proofs.channels.Channels.send_one.Goals as goal

pub returns : goal.returns
returns c = on_ok_weaker c.put.result
    (λ put. sends_one c.args.self.now c.args.part c.args.number c.args.value c.args.channel c.at.result c.args.out.now.messages.items
    c.put.new.self.messages.items (sym c.is_given.ensures ∙ c.if-not-is_given.false) c.at.ensures put) c.put.ensures
