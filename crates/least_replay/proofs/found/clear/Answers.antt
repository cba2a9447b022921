use Rattle.std.proofs.Common.{◌≡◌, ◌<◌, ◌∙◌, length, get_or, sym, arith}
use Rattle.std.proofs.lemmas.List.{length-map, length-set}
use Rattle.lifetimes.specs.Stands.{asked, table_in}
use Rattle.lifetimes.specs.Told.{is_held}
use Rattle.least_replay.specs.Ending.{stay_if}
use Rattle.least_replay.specs.FoundView.{slot_of, slots_of, IsGoing}
use Rattle.least_replay.proofs.Exact.{stay_step, all_set, all_at}
use Rattle.least_replay.proofs.found.clear.Goals as goal

pub loop-one-preserved : goal.loop-one-preserved
loop-one-preserved g c =
    let o = asked c.args.parts.now in
    let going = c.loop-one.going in
    let i = c.loop-one.one-index in
    let l : i < length going = (let t = c.loop-one-test.true in let s = c.loop-one.invariant.same in omega (arith, t, s)) in
    let d = c.one-item.result in
    record {
      same = length-set going i c.stay.result ∙ c.loop-one.invariant.same;
      done = λ es stands.
          let holds = is_held o (g.T.Aims.table (table_in c.args.parts.now)) es in
          let is : slot_of c.stay.result ≡ stay_if holds (slot_of (get_or going i d)) = c.stay.ensures.stays es stands in
          stay_step holds (slots_of c.args.going.now) going i d c.stay.result l
          (c.loop-one.invariant.same ∙ sym (length-map c.args.going.now slot_of)) (c.loop-one.invariant.done es stands) is;
      all = λ n h. all_set (IsGoing o n) going i c.stay.result
          (c.stay.ensures.going n (all_at (IsGoing o n) going i d l (c.loop-one.invariant.all n h)))
          (c.loop-one.invariant.all n h);
    }
