use Rattle.std.proofs.Common.{[], ◌∷◌, cond, nat_eq, refl, ap, ◌∙◌, suc, length, arith}
use Rattle.retune_model.specs.Ports.{all_zero}
use Rattle.retune_model.proofs.Numbering.{one_port, last_of_track, port_behind, event_behind}
use Rattle.retune_model.proofs.ports.port_laws.Goals as goal

pub returns-clause-port : goal.returns-clause-port
returns-clause-port c z es e fs =
    event_behind z all_zero 0 (suc (length es)) es e fs (omega arith)
    ∙ ap (λ p. cond (nat_eq p z) (e ∷ []) []) (port_behind all_zero es e ∙ last_of_track all_zero e.track _)

pub returns-clause-one_port : goal.returns-clause-one_port
returns-clause-one_port c es h = one_port all_zero 0 es (λ t. refl) h
