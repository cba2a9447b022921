use Rattle.std.proofs.Common.{◌∙◌}
use Rattle.retune_model.specs.Ports.{events_on}
use Rattle.channel_plan.proofs.Noting.{parts_are}
use Rattle.channel_plan.proofs.planning.parts_of.Goals as goal

pub returns : goal.returns
returns c = λ o table es is. c.channels_of.ensures ∙ parts_are o (events_on c.args.port es) c.parts.result (c.parts.ensures o table es is)
