use Rattle.std.proofs.Common.{◌<◌, ◌+◌, length, arith}
use Rattle.retune_model.specs.SourceFaults.{fault_at}
use Rattle.retune_model.proofs.Faulty.{none_first, first_none, first_some, first_is, fault_placed}
use Rattle.retune_model.proofs.faults.fault_laws.Goals as goal

pub returns-clause-none : goal.returns-clause-none
returns-clause-none c o table es h k l = none_first (fault_at o table es) 0 (length es) h k (omega arith) (omega (arith, l))

pub returns-clause-faultless : goal.returns-clause-faultless
returns-clause-faultless c o table es h = first_none (fault_at o table es) 0 (length es) (λ j l m. h j (omega (arith, m)))

pub returns-clause-some : goal.returns-clause-some
returns-clause-some c o table es f h =
    let x = first_some (fault_at o table es) 0 (length es) f h in
    let low : x.0 < 0 + length es = x.2 in
    (x.0, record { there = omega (arith, low); here = x.3; none_before = λ j l. x.4 j (omega arith) l })

pub returns-clause-first : goal.returns-clause-first
returns-clause-first c o table es k f is =
    let low : k < length es = is.there in
    first_is (fault_at o table es) 0 (length es) k f (omega arith) (omega (arith, low)) is.here (λ i l m. is.none_before i m)

pub returns-clause-placed : goal.returns-clause-placed
returns-clause-placed c o table before e later f h = let x = fault_placed o table before e later f h in record { position = x.0; tick = x.1; track = x.2 }
