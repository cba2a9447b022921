use Rattle.std.proofs.Common.{◌≡◌, suc, length, ap, ◌∙◌, ◌∷◌, ◌++◌, [], arith}
use Rattle.std.proofs.lemmas.List.{length-append}
use Rattle.retune_model.specs.Ports.{all_zero, port_at}
use Rattle.retune_model.specs.Rests.{pairs_at}
use Rattle.retune_model.specs.PortNeed.{greater, most}
use Rattle.retune_model.proofs.Numbering.{event_behind}
use Rattle.retune_model.proofs.Longer.{tick_next, events_next, most_front}
use Rattle.retune_model.proofs.front.next_laws.Goals as goal

pub returns-clause-tick : goal.returns-clause-tick
returns-clause-tick c = tick_next

pub returns-clause-event : goal.returns-clause-event
returns-clause-event c front e back z = event_behind z all_zero 0 (suc (length front)) front e back (omega arith)

pub returns-clause-events : goal.returns-clause-events
returns-clause-events c = events_next

pub returns-clause-need : goal.returns-clause-need
returns-clause-need c o part table front e z =
    let n = length-append front (e ∷ []) in
    let last : length (front ++ e ∷ []) ≡ suc (length front) = omega (arith, n) in
    ap (most (pairs_at o part table (port_at (front ++ e ∷ []) z))) last
    ∙ ap (λ best. greater best (length (pairs_at o part table (port_at (front ++ e ∷ []) z) (suc (length front)))) (suc (length front)))
    (most_front o part table front (e ∷ []) z (length front) (omega arith))
