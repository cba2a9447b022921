use Rattle.std.proofs.Common.{◌≡◌, ◌<◌, ◌++◌, ◌∷◌, [], ◌∙◌, ℕ, Bool, true, false, cond, nat_eq, List, ap, sym, refl, subst, length, take, drop, filter, arith, suc}
use Rattle.std.proofs.lemmas.List.{take-append-drop}
use Rattle.std.proofs.lemmas.Bool.{eq-eqb}
use Rattle.std.specs.Set.{is_member}
use Rattle.mt_base.specs.Midi.{MidiEvent}
use Rattle.retune_model.specs.Ports.{PortEvents, Numbered, port_of, all_zero, ports_from, of_port as of_port_of, event_at, port_at}
use Rattle.retune_model.specs.Faults.{is_part}
use Rattle.retune_model.specs.Pairs.{Pair, is_same_pair}
use Rattle.retune_model.specs.Rests.{pairs_at, begun_pair, begun_pairs, begun_at, is_aimed, AreAimed, IsAimedPort}
use Rattle.retune_model.specs.PortNeed.{pairs_on}
use Rattle.plan_laws.specs.Counting.{holds_after, with_each}
use Rattle.plan_laws.proofs.GoingOn.{Laws, laws, length_taken, goes_on, has_all, of_port, own_within, last_of, own_event}
use Rattle.plan_laws.proofs.counting.counting_laws.Goals as goal

pub returns-clause-pairs : goal.returns-clause-pairs
returns-clause-pairs c o part table es z k e parts comes sound =
    let L : Laws = laws c.held_laws.ensures.within c.held_laws.ensures.next c.held_laws.ensures.begun c.part_alone.ensures.within
    c.rests_are_runs.ensures.pairs c.pairs_in_order.ensures.pairs c.order_laws.ensures.same c.order_laws.ensures.more
    c.order_laws.ensures.pass c.order_laws.ensures.has_more c.order_laws.ensures.has_pass in
    let next = c.taken_laws.ensures.next es k e comes in
    let low : k < length es = next.2 in
    let fs : List MidiEvent = take (suc k) es in
    let port : PortEvents = port_at fs z in
    let n : length fs ≡ suc k = length_taken es (suc k) (omega (arith, low)) in
    let own : IsAimedPort o part table port = c.sound_sources.ensures.aimed o part table fs z parts sound in
    let all : IsAimedPort o (is_part o) table port = c.sound_sources.ensures.aimed o (is_part o) table fs z (λ d h. h) sound in
    let told : (p : Pair) → p.part.port ≡ z → holds_after o table fs p ≡ is_member is_same_pair (pairs_at o (is_part o) table port (suc k)) p = λ p h.
    ap (λ y. is_member is_same_pair (pairs_on o (is_part o) table fs y (length fs)) p) h ∙ ap (λ m. is_member is_same_pair (pairs_at o (is_part o) table port m) p) n in
    let whole : fs ++ drop (suc k) es ≡ es = take-append-drop (suc k) es in
    let begun : begun_at o part table port (suc k) ≡ begun_at o part table (port_at es z) (suc k) =
    sym (c.front_laws.ensures.begun o part table fs (drop (suc k) es) z (suc k) (omega (arith, n))) ∙ ap (λ xs. begun_at o part table (port_at xs z) (suc k)) whole in
    sym (c.taken_laws.ensures.pairs o part table es z (suc k) (suc k) (omega arith) (omega (arith, low)))
    ∙ goes_on L o part table port parts all own k (holds_after o table fs) told
    ∙ ap (λ bs. with_each bs (filter (holds_after o table fs) (pairs_at o part table port k))) begun
    ∙ ap (λ ps. with_each (begun_at o part table (port_at es z) (suc k)) (filter (holds_after o table fs) ps))
    (c.taken_laws.ensures.pairs o part table es z k (suc k) (omega arith) (omega (arith, low)))

pub returns-clause-holding : goal.returns-clause-holding
returns-clause-holding c o part table es k p parts order le counts =
    let n : length (take k es) ≡ k = length_taken es k le in
    ap (λ m. is_member is_same_pair (pairs_on o (is_part o) table (take k es) p.part.port m) p) n
    ∙ ap (λ ps. is_member is_same_pair ps p) (c.taken_laws.ensures.pairs o (is_part o) table es p.part.port k k (omega arith) le)
    ∙ sym (own_within c.order_laws.ensures.has_pass p (pairs_on o (is_part o) table es p.part.port k) (pairs_on o part table es p.part.port k) part
    (c.part_alone.ensures.within o (is_part o) part table (port_at es p.part.port) (c.position_laws.ensures.timed p.part.port es order) parts k) counts)

pub returns-clause-own : goal.returns-clause-own
returns-clause-own c o part table es z k p parts sound h =
    let L : Laws = laws c.held_laws.ensures.within c.held_laws.ensures.next c.held_laws.ensures.begun c.part_alone.ensures.within
    c.rests_are_runs.ensures.pairs c.pairs_in_order.ensures.pairs c.order_laws.ensures.same c.order_laws.ensures.more
    c.order_laws.ensures.pass c.order_laws.ensures.has_more c.order_laws.ensures.has_pass in
    let port : PortEvents = port_at es z in
    let all : IsAimedPort o (is_part o) table port = c.sound_sources.ensures.aimed o (is_part o) table es z (λ d g. g) sound in
    let x = has_all L o part table port parts all k p h in
    (of_port L o part table port parts all k p x.0, x.1)

pub returns-clause-begun : goal.returns-clause-begun
returns-clause-begun c o part table es z k e comes =
    let next = c.taken_laws.ensures.next es k e comes in
    let n : length (take k es) ≡ k = next.1 in
    let front : List MidiEvent = take k es in
    let whole : front ++ e ∷ drop (suc k) es ≡ es = ap (λ xs. front ++ xs) (sym comes) ∙ take-append-drop k es in
    let mine : Bool = nat_eq (port_of (ports_from all_zero front) e) z in
    ap (λ xs. begun_pairs z o part table (event_at (of_port_of z xs) (suc k))) (sym whole)
    ∙ ap (λ m. begun_pairs z o part table (event_at (of_port_of z (front ++ e ∷ drop (suc k) es)) (suc m))) (sym n)
    ∙ ap (begun_pairs z o part table) (c.next_laws.ensures.event front e (drop (suc k) es) z)
    ∙ pick mine
  where
    pick : (b : Bool) → begun_pairs z o part table (cond b (e ∷ []) []) ≡ cond b (begun_pair z o part table e.tick e.what) []
    pick true = refl
    pick false = refl

pub returns-clause-aimed : goal.returns-clause-aimed
returns-clause-aimed c o part table es k e parts comes sound =
    let next = c.taken_laws.ensures.next es k e comes in
    let front : List MidiEvent = take k es in
    let z : ℕ = port_of (ports_from all_zero front) e in
    let aimed = (c.sound_sources.ensures.aimed o part table (take (suc k) es) z parts sound).aimed in
    let n : Numbered = record { position = suc (length front); event = e } in
    let split : of_port_of z (take (suc k) es) ≡ of_port_of z front ++ n ∷ [] =
    ap (of_port_of z) next.0 ∙ c.front_laws.ensures.events front (e ∷ []) z
    ∙ ap (λ xs. of_port_of z front ++ xs) (own_event (nat_eq z z) (eq-eqb z z refl) n) in
    last_of (λ x. is_aimed o part table x.event.tick x.event.what ≡ true) (of_port_of z front) n
    (subst (λ (xs : List Numbered). AreAimed o part table xs) split aimed)
