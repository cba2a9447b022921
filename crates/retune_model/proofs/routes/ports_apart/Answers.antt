use Rattle.std.proofs.Common.{[], ◌∷◌, ◌++◌, ◌∙◌}
use Rattle.retune_model.specs.Ports.{Numbered, all_zero}
use Rattle.retune_model.specs.PortOutput.{ports_by_history}
use Rattle.retune_model.proofs.Through.{on_is, through_on}
use Rattle.retune_model.proofs.PortsApart.{dump_on, live_on}
use Rattle.retune_model.proofs.routes.ports_apart.Goals as goal

pub returns-clause-blocks : goal.returns-clause-blocks
returns-clause-blocks c block beside es z =
    on_is z all_zero 0 (ports_by_history block es)
    ∙ through_on block (λ y before (n : Numbered). before ++ n ∷ []) beside z all_zero 0 (λ y. []) es

pub returns-clause-dump : goal.returns-clause-dump
returns-clause-dump c = dump_on

pub returns-clause-live : goal.returns-clause-live
returns-clause-live c = live_on
