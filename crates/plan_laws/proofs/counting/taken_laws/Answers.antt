use Rattle.std.proofs.Common.{◌≡◌, ◌++◌, ◌∷◌, ◌∙◌, ap, sym, length, take, drop, arith, suc}
use Rattle.std.proofs.lemmas.List.{take-append-drop}
use Rattle.retune_model.specs.Ports.{of_port, music_at, is_reset_at, tick_to}
use Rattle.retune_model.specs.PortNeed.{pairs_on, held_on}
use Rattle.retune_model.specs.SourceFaults.{first_fault}
use Rattle.plan_laws.proofs.GoingOn.{length_taken, taken_next}
use Rattle.plan_laws.proofs.counting.taken_laws.Goals as goal

pub returns-clause-next : goal.returns-clause-next
returns-clause-next c = taken_next

pub returns-clause-pairs : goal.returns-clause-pairs
returns-clause-pairs c o part table es z j k le up =
    let n : length (take k es) ≡ k = length_taken es k up in
    sym (c.front_laws.ensures.pairs o part table (take k es) (drop k es) z j (omega (arith, n, le))) ∙ ap (λ xs. pairs_on o part table xs z j) (take-append-drop k es)

pub returns-clause-held : goal.returns-clause-held
returns-clause-held c o part table es z j k le up =
    let n : length (take k es) ≡ k = length_taken es k up in
    sym (c.front_laws.ensures.held o part table (take k es) (drop k es) z j (omega (arith, n, le))) ∙ ap (λ xs. held_on o part table xs z j) (take-append-drop k es)

pub returns-clause-music : goal.returns-clause-music
returns-clause-music c es z j k le up =
    let n : length (take k es) ≡ k = length_taken es k up in
    sym (c.front_laws.ensures.music (take k es) (drop k es) z j (omega (arith, n, le))) ∙ ap (λ xs. music_at (of_port z xs) j) (take-append-drop k es)

pub returns-clause-reset : goal.returns-clause-reset
returns-clause-reset c es z j k le up =
    let n : length (take k es) ≡ k = length_taken es k up in
    sym (c.front_laws.ensures.reset (take k es) (drop k es) z j (omega (arith, n, le))) ∙ ap (λ xs. is_reset_at (of_port z xs) j) (take-append-drop k es)

pub returns-clause-tick : goal.returns-clause-tick
returns-clause-tick c es j k le up =
    let n : length (take k es) ≡ k = length_taken es k up in
    sym (c.front_laws.ensures.tick (take k es) (drop k es) j (omega (arith, n, le))) ∙ ap (λ xs. tick_to xs j) (take-append-drop k es)

pub returns-clause-fault : goal.returns-clause-fault
returns-clause-fault c o table es k e f comes all here =
    let whole : take k es ++ e ∷ drop (suc k) es ≡ es = ap (λ xs. take k es ++ xs) (sym comes) ∙ take-append-drop k es in
    ap (first_fault o table) (sym whole) ∙ c.front_faults.ensures.first o table (take k es) e (drop (suc k) es) f all here
