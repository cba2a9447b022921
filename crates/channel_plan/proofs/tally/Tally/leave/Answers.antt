use Rattle.std.proofs.Common.{◌≡◌, ◌≢◌, ◌∙◌, suc, filter, take, sym, ap, arith}
use Rattle.std.specs.Set.{is_member}
use Rattle.retune_model.specs.Pairs.{is_same_pair}
use Rattle.retune_model.specs.SourceFaults.{IsSound}
use Rattle.lifetimes.specs.Stands.{asked, table_in}
use Rattle.lifetimes.specs.Told.{is_held, port_on}
use Rattle.channel_plan.specs.Passing.{channels_in}
use Rattle.channel_plan.proofs.Leaving.{Laws, silent_by, still, all_stay}
use Rattle.channel_plan.proofs.tally.Tally.leave.Goals as goal

pub returns-then-rests-clause-pairs : goal.returns-then-rests-clause-pairs
returns-then-rests-clause-pairs g c es k e stands next old =
    let o = asked c.args.parts.now in
    let table = g.T.Aims.table (table_in c.args.parts.now) in
    let t = c.args.self.now in
    let laws : Laws =
    record {
      next = c.taken_laws.ensures.next;
      taken = c.taken_laws.ensures.pairs;
      own = c.counting_laws.ensures.own;
      holding = c.counting_laws.ensures.holding;
      stays = c.staying.ensures;
    } in
    let sound : IsSound o table (take (suc k) es) = record { bends = old.bends; in_order = stands.order; faultless = stands.faultless } in
    c.keep.ensures (take (suc k) es) stands old.bends
    (λ calm p here none. still laws o table es k e (channels_in o t.part) t.port next.comes old.parts sound c.args.change.now.ended stands.valid
    (silent_by c.options-rests.result.tail o.tail (ap (λ x. x.tail) c.options-rests.ensures) calm) next.tells.ended p
    (ap (λ ps. is_member is_same_pair ps p) (sym old.counts.pairs) ∙ here) (λ same. none))

pub returns-else-self-change-clause-pairs : goal.returns-else-self-change-clause-pairs
returns-else-self-change-clause-pairs g c es k e stands next old =
    let o = asked c.args.parts.now in
    let table = g.T.Aims.table (table_in c.args.parts.now) in
    let t = c.args.self.now in
    let laws : Laws =
    record {
      next = c.taken_laws.ensures.next;
      taken = c.taken_laws.ensures.pairs;
      own = c.counting_laws.ensures.own;
      holding = c.counting_laws.ensures.holding;
      stays = c.staying.ensures;
    } in
    let sound : IsSound o table (take (suc k) es) = record { bends = old.bends; in_order = stands.order; faultless = stands.faultless } in
    let silent : o.tail ≡ 0 =
    let same : c.options-rests.result.tail ≡ o.tail = ap (λ x. x.tail) c.options-rests.ensures in
    let low = c.if-rests.false in
    omega (arith, same, low) in
    let apart : port_on (take k es) e ≢ t.port = λ same. c.if-self-change.false (sym (next.tells.port ∙ same)) in
    old.counts.pairs
    ∙ sym (all_stay laws o table es k e (channels_in o t.part) t.port next.comes old.parts sound
    c.args.change.now.ended stands.valid silent next.tells.ended apart)
    ∙ ap (filter (is_held o table (take (suc k) es))) (sym old.counts.pairs)
