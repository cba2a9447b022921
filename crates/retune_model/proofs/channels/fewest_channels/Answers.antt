use Rattle.std.proofs.Common.{◌≤◌, suc, length, subst, arith}
use Rattle.retune_model.specs.Ports.{port_at, of_port}
use Rattle.retune_model.specs.Rests.{holding, holds_at, pair_at, began_at}
use Rattle.retune_model.specs.PortNeed.{pairs_on, notes_on, size_on}
use Rattle.retune_model.proofs.Counting.{is_most}
use Rattle.retune_model.proofs.Ordered.{pairs_ordered, ordered_distinct}
use Rattle.retune_model.proofs.channels.fewest_channels.Goals as goal

pub returns-clause-fewest : goal.returns-clause-fewest
returns-clause-fewest c o part table es z n instant channel h valid =
    let port = port_at es z in
    let aimed = c.sound_sources.ensures.aimed o part table es z h.parts h.sound in
    subst (λ x. x ≤ size_on part es z channel) h.need.reached
    (c.need_laws.ensures.fewest (holds_at part o.tail port) (pair_at o part table port (length es)) (notes_on part es z) (pairs_on o part table es z) (length es)
    (c.rests_are_runs.ensures.pairs o part table port (length es) aimed) channel valid instant h.need.in_time)

pub returns-clause-refused : goal.returns-clause-refused
returns-clause-refused c o part table es z n instant allowed channel h less valid =
    let port = port_at es z in
    let aimed = c.sound_sources.ensures.aimed o part table es z h.parts h.sound in
    c.need_laws.ensures.refused (holds_at part o.tail port) (pair_at o part table port (length es)) (notes_on part es z) (pairs_on o part table es z) (length es) n instant allowed
    (c.rests_are_runs.ensures.pairs o part table port (length es) aimed) h.need less channel valid

pub returns-clause-valid : goal.returns-clause-valid
returns-clause-valid c o part table es z n row parts sound takes =
    let port = port_at es z in
    let aimed = c.sound_sources.ensures.aimed o part table es z parts sound in
    c.run_laws.ensures.valid (holds_at part o.tail port) (pair_at o part table port (length es)) (notes_on part es z) (pairs_on o part table es z) (length es) n (began_at part (of_port z es) (length es)) row
    (record {
      pairs = c.rests_are_runs.ensures.pairs o part table port (length es) aimed;
      unbroken = c.rests_are_runs.ensures.unbroken part o.tail port (length es) aimed.timed;
      one = c.rests_are_runs.ensures.one_begins o part table port (length es) aimed;
    }) takes

pub returns-clause-as_many : goal.returns-clause-as_many
returns-clause-as_many c o part table es z n instant row h takes =
    let port = port_at es z in
    let aimed = c.sound_sources.ensures.aimed o part table es z h.parts h.sound in
    c.run_laws.ensures.as_many (holds_at part o.tail port) (pair_at o part table port (length es)) (notes_on part es z) (pairs_on o part table es z) (length es) n instant (began_at part (of_port z es) (length es)) row
    (record {
      pairs = c.rests_are_runs.ensures.pairs o part table port (length es) aimed;
      unbroken = c.rests_are_runs.ensures.unbroken part o.tail port (length es) aimed.timed;
      one = c.rests_are_runs.ensures.one_begins o part table port (length es) aimed;
    }) h.need takes

pub returns-clause-once : goal.returns-clause-once
returns-clause-once c o part table es z k = ordered_distinct (pairs_on o part table es z k) (pairs_ordered z o table (holding part o.tail (port_at es z) k))

pub returns-clause-all_used : goal.returns-clause-all_used
returns-clause-all_used c o part table es z n instant row h takes =
    let aimed = c.sound_sources.ensures.aimed o part table es z h.parts h.sound in
    c.run_laws.ensures.all_used (pairs_on o part table es z) (length es) n instant row h.need (returns-clause-once c o part table es z instant)
    (c.rests_are_runs.ensures.one_begins o part table (port_at es z) (length es) aimed) takes

pub returns-clause-counted : goal.returns-clause-counted
returns-clause-counted c o part table es z = is_most (pairs_on o part table es z) (length es)

pub returns-clause-room : goal.returns-clause-room
returns-clause-room c o part table es z n instant row k p need low new = c.run_laws.ensures.room (pairs_on o part table es z) n row k p new (need.most (suc k) (omega (arith, low)))
