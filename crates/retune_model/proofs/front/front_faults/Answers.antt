use Rattle.std.proofs.Common.{◌++◌, ◌∷◌, length}
use Rattle.retune_model.proofs.Longer.{fault_front, faultless_front, faultless_next, is_first_front, next_is_first}
use Rattle.retune_model.proofs.front.front_faults.Goals as goal

pub returns-clause-same : goal.returns-clause-same
returns-clause-same c = fault_front

pub returns-clause-faultless : goal.returns-clause-faultless
returns-clause-faultless c = faultless_front

pub returns-clause-next : goal.returns-clause-next
returns-clause-next c = faultless_next

pub returns-clause-kept : goal.returns-clause-kept
returns-clause-kept c o table front back f h =
    let x = c.fault_laws.ensures.some o table front f h in
    c.fault_laws.ensures.first o table (front ++ back) x.0 f (is_first_front o table front back x.0 f x.1)

pub returns-clause-first : goal.returns-clause-first
returns-clause-first c o table front e back f all here =
    c.fault_laws.ensures.first o table (front ++ e ∷ back) (length front) f (next_is_first o table front e back f all here)
