use Rattle.std.proofs.Common.{◌≡◌, suc, nat_lt, false, map, take, sym, ap, ◌∙◌, subst}
use Rattle.std.specs.Vec.{with_items}
use Rattle.std.proofs.lemmas.List.{with_items_is}
use Rattle.lifetimes.specs.Stands.{asked, table_in}
use Rattle.plan_laws.specs.Placing.{seen_at, leave, clear}
use Rattle.plan_laws.specs.Counting.{holds_after}
use Rattle.plan_laws.specs.Rows.{leaves_by, kept, IsRowAt, IsRowLeft}
use Rattle.channel_plan.specs.Passing.{channels_in}
use Rattle.channel_plan.specs.Counts.{IsKept}
use Rattle.retune_model.specs.SourceFaults.{IsSound}
use Rattle.channel_plan.specs.Seeing.{all_seen, runs_in, ArePartsOn, AreKeptOn}
use Rattle.channel_plan.proofs.Leaving.{Laws, silent_by, still}
use Rattle.channel_plan.specs.Stepping.{pairs_by}
use Rattle.channel_plan.proofs.Taking.{if_some, parts_on, kept_was, left_was, none_cleared, numbers_was, numbers_stay}
use Rattle.channel_plan.proofs.rowing.Used.free.Goals as goal

pub returns-then-resets-clause-stays : goal.returns-then-resets-clause-stays
returns-then-resets-clause-stays g c = λ es row number k e position stands of comes tells is resets begun.
    let o = asked c.args.parts.now in
    let table = g.T.Aims.table (table_in c.args.parts.now) in
    let used = c.args.self.now in
    let part = channels_in o used.part in
    let then = kept o table (take k es) is.before in
    let new = (with_items used.places c.clear_all.new.places).items in
    let whole : all_seen new ≡ map (clear (suc k)) then =
    ap all_seen (with_items_is used.places c.clear_all.new.places (c.clear_all.auto.places ∙ c.as_mut_slice.ensures.len))
    ∙ c.clear_all.ensures.seen
    ∙ ap (λ xs. map (clear c.args.position) (all_seen xs)) c.as_mut_slice.ensures.value
    ∙ ap (map (clear c.args.position)) is.same
    ∙ ap (λ n. map (clear n) then) position in
    record {
      places = subst (IsRowAt o part table es used.port row (suc k)) (sym whole)
          (c.row_laws.ensures.cleared o part table es used.port row k is.before of is.places (resets ∙ c.if-resets.true));
      runs = λ d p h. absurd (none_cleared (suc k) then d p (ap (λ ss. (seen_at ss d).pair) (sym whole) ∙ h));
    }

pub returns-else-resets-clause-left : goal.returns-else-resets-clause-left
returns-else-resets-clause-left g c = λ es row number k e position stands of comes tells is resets no.
    let o = asked c.args.parts.now in
    let table = g.T.Aims.table (table_in c.args.parts.now) in
    let used = c.args.self.now in
    let part = channels_in o used.part in
    let then = kept o table (take k es) is.before in
    let holds = holds_after o table (take (suc k) es) in
    let leaves = leaves_by o table (take (suc k) es) in
    let value = ap all_seen c.as_mut_slice-else-resets.ensures.value ∙ is.same in
    let parts = parts_on c.row_laws.ensures.parts o part table es used.port row k is.before then of is.places (kept_was o table (take k es)
    is.before) in
    let laws : Laws = record {
      next = c.taken_laws.ensures.next;
      taken = c.taken_laws.ensures.pairs;
      own = c.counting_laws.ensures.own;
      holding = c.counting_laws.ensures.holding;
      stays = c.staying.ensures;
    } in
    let sound : IsSound o table (take (suc k) es) = record { bends = of.sound.bends; in_order = stands.order; faultless = stands.faultless } in
    let tail = c.options-rests.result.tail in
    let on : nat_lt 0 tail ≡ false → AreKeptOn c.args.ended.now holds then =
    λ calm d. if_some (seen_at then d).pair (IsKept c.args.ended.now holds)
    (λ p h none. still laws o table es k e part used.port comes of.parts sound c.args.ended.now stands.valid
    (silent_by tail o.tail (ap (λ x. x.tail) c.options-rests.ensures) calm) tells p
    (c.row_laws.ensures.has o part table es used.port row k is.before d p is.places (kept_was o table (take k es) is.before d p h)).0
    (λ same. none)) in
    let new = (with_items used.places c.leave_all.new.places).items in
    let there : new ≡ c.leave_all.new.places = with_items_is used.places c.leave_all.new.places (c.leave_all.auto.places
    ∙ c.as_mut_slice-else-resets.ensures.len) in
    let whole : all_seen new ≡ map (leave holds leaves (suc k)) then =
    ap all_seen there
    ∙ c.leave_all.ensures.seen (take (suc k) es) stands (subst (ArePartsOn o) (sym value) parts)
    (λ calm. subst (AreKeptOn c.args.ended.now holds) (sym value) (on calm))
    ∙ ap (map (leave holds leaves c.args.position)) value
    ∙ ap (λ n. map (leave holds leaves n) then) position in
    record {
      places = subst (IsRowLeft o part table es used.port row k) (sym whole)
          (c.row_laws.ensures.leaves o part table es used.port row k e is.before of comes is.places (resets ∙ no));
      runs = numbers_was (pairs_by o table es used) number k then (all_seen new) (runs_in used.places.items) (runs_in new)
          (λ d p h. is.runs d p (ap (λ ss. (seen_at ss d).pair) is.same ∙ h))
          (ap runs_in there ∙ c.leave_all.ensures.runs ∙ ap runs_in c.as_mut_slice-else-resets.ensures.value)
          (λ d p h. left_was holds leaves (suc k) then d p (ap (λ ss. (seen_at ss d).pair) (sym whole) ∙ h));
    }

pub returns-else-resets-clause-stays : goal.returns-else-resets-clause-stays
returns-else-resets-clause-stays g c = λ es row number k e position stands of comes tells is resets begun.
    let o = asked c.args.parts.now in
    let table = g.T.Aims.table (table_in c.args.parts.now) in
    let used = c.args.self.now in
    let part = channels_in o used.part in
    let new = (with_items used.places c.leave_all.new.places).items in
    let ss = all_seen new in
    let left = returns-else-resets-clause-left g c es row number k e position stands of comes tells is resets c.if-resets.false in
    record {
      places = c.row_laws.ensures.stays o part table es used.port row k ss of left.places (resets ∙ c.if-resets.false) begun;
      runs = numbers_stay (pairs_by o table es used) number k ss (runs_in new) left.runs
          (λ d p h. (c.row_laws.ensures.keeps o part table es used.port row k ss d p left.places h).0);
    }
