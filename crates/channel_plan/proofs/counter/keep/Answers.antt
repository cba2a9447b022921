use Rattle.std.proofs.Common.{◌∙◌, ◌+◌, ◌<◌, Bool, List, map, length, false, sym, rules, arith}
use Rattle.mt_base.specs.Midi.{MidiEvent}
use Rattle.retune_model.specs.Pairs.{Pair}
use Rattle.std.proofs.lemmas.List.{length-set, drop-set-lt}
use Rattle.lifetimes.specs.Stands.{asked, table_in}
use Rattle.lifetimes.specs.Told.{is_held}
use Rattle.lifetimes.specs.Views.{pair_of}
use Rattle.channel_plan.proofs.Keeping.{same_at, rest_next, there_at, one_kept, one_left, all_pass}
use Rattle.channel_plan.proofs.counter.keep.Goals.{then-stays, else-stays}
use Rattle.channel_plan.proofs.counter.keep.Goals as goal

pub loop-next-preserved : goal.loop-next-preserved
loop-next-preserved g c =
    let xs = c.loop-next.pairs.items in
    let old = c.args.pairs.now.items in
    let w = c.loop-next.kept in
    let r = c.loop-next.next in
    let x = c.index.result.now in
    let i = c.loop-next.invariant in
    let low : r < length xs = search rules in
    let among = there_at old r x (omega (arith, low, i.long)) (sym (same_at xs old r x low i.long i.rest ∙ sym c.index.ensures)) in
    let held : List MidiEvent → Pair → Bool = is_held (asked c.args.parts.now) (g.T.Aims.table (table_in c.args.parts.now)) in
    elim c.if-stays.branch [
      | then-stays b ↦ rw (b.pairs-is, b.kept-is) (record {
        few = omega (arith, i.few);
        low = omega (arith, low, length-set xs w x);
        long = length-set xs w x ∙ i.long;
        rest = drop-set-lt (r + 1) xs w x (omega (arith, i.few)) ∙ rest_next xs old r x low i.long i.rest;
        kept = λ es stands bends stay. one_kept (held es) xs old x w r low i.few i.long i.rest c.index.ensures (i.kept es stands bends stay)
            (sym (c.stays.ensures es stands bends (λ still. stay still (pair_of x) among)) ∙ b.if-stays.true);
      })
      | else-stays b ↦ rw (b.pairs-is, b.kept-is) (record {
        few = omega (arith, i.few);
        low = omega (arith, low);
        long = i.long;
        rest = rest_next xs old r x low i.long i.rest;
        kept = λ es stands bends stay. one_left (held es) xs old x w r low i.few i.long i.rest c.index.ensures (i.kept es stands bends stay)
            (sym (c.stays.ensures es stands bends (λ still. stay still (pair_of x) among)) ∙ b.if-stays.false);
      })
    ]

-- no note ended, so no pair goes
pub returns-then-ends_none : goal.returns-then-ends_none
returns-then-ends_none g c es stands bends stay =
    sym (all_pass (is_held (asked c.args.parts.now) (g.T.Aims.table (table_in c.args.parts.now)) es) (map pair_of c.args.pairs.now.items)
    (λ p here. stay (search rules) p here (c.ends_none.ensures (search rules) p.part.channel)))
