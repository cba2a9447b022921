use Rattle.std.proofs.Common.{true, false, sym, ◌∙◌}
use Rattle.lifetimes.specs.Views.{options_of}
use Rattle.lifetimes.proofs.StruckNow.{late_strike}
use Rattle.lifetimes.proofs.port.Port.late_fault.Goals as goal

pub returns-then-restrikes : goal.returns-then-restrikes
returns-then-restrikes c table es e z next what part struck =
    late_strike c.position_laws.ensures.music
    (options_of c.args.options.now) table es e z c.args.message.now c.in-Some.strike c.restrikes.result true what (sym c.in-Some.is ∙ struck)
    (λ v strike. c.restrikes.ensures table es e z v next strike) c.if-restrikes.true

pub returns-else-restrikes : goal.returns-else-restrikes
returns-else-restrikes c table es e z next what part struck =
    late_strike c.position_laws.ensures.music
    (options_of c.args.options.now) table es e z c.args.message.now c.in-Some.strike c.restrikes.result false what (sym c.in-Some.is ∙ struck)
    (λ v strike. c.restrikes.ensures table es e z v next strike) c.if-restrikes.false
