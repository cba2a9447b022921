use Rattle.std.proofs.Common.{ap, ◌∙◌}
use Rattle.retune_model.specs.Options.{Options}
use Rattle.routes.specs.Routed.{is_live}
use Rattle.routes.proofs.device.device_for.Goals as goal

pub returns-clause-live : goal.returns-clause-live
returns-clause-live g c = c.is_live-live.ensures ∙ ap (λ (x : Options). is_live x.route) c.options-options.ensures
