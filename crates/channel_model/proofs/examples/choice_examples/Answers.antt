use Rattle.std.proofs.Common.{refl, arith, pos, inl, inr}
use Rattle.retune_model.specs.Ports.{port_at}
use Rattle.retune_model.specs.Examples.{resting, equal_table, pair}
use Rattle.channel_model.specs.Choice.{setup_length}
use Rattle.retune_model.specs.PortNeed.{pairs_on}
use Rattle.retune_model.specs.Faults.{is_part}
use Rattle.channel_model.specs.Examples.{again, second_again}
use Rattle.channel_model.proofs.examples.choice_examples.Goals as goal

pub returns-clause-chosen : goal.returns-clause-chosen
returns-clause-chosen c = c.tested_choice.ensures.best (pairs_on (resting 0) (is_part (resting 0)) equal_table again 0) 7 2
    (λ p d k. setup_length (resting 0) equal_table (port_at again 0) second_again p d k) second_again refl

-- the second place costs less, and is free
pub returns-clause-not_chosen : goal.returns-clause-not_chosen
returns-clause-not_chosen c takes = elim (takes.best 5 (pair 0 1 (pos 0)) 1 (omega arith) refl (omega arith) (λ q here before. absurd cc)) [
  | inl less ↦ absurd (omega (arith, less))
  | inr as_much ↦ absurd (omega (arith, as_much.0))
]
