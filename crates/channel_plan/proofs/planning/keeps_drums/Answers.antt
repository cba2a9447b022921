use Rattle.std.proofs.Common.{◌∙◌, ◌&&◌, sym, ap}
use Rattle.retune_model.specs.Options.{Options, has_drums}
use Rattle.retune_model.specs.Ports.{events_on}
use Rattle.channel_plan.proofs.planning.keeps_drums.Goals as goal

pub returns-then-options : goal.returns-then-options
returns-then-options c = λ o table es is same. c.drums.ensures o table es is
    ∙ ap (λ b. b && has_drums (events_on c.args.port es)) (sym (sym (ap (λ (x : Options). x.keep_drums) same) ∙ c.if-options.true))
