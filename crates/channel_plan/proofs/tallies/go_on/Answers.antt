use Rattle.std.proofs.Common.{◌∙◌, ◌<◌, ◌+◌, suc, length, get_or, subst, rules, arith}
use Rattle.std.proofs.Math.Seq.{map-set_same}
use Rattle.std.proofs.lemmas.List.{length-set, drop-set-lt}
use Rattle.lifetimes.specs.Stands.{asked, table_in}
use Rattle.channel_plan.specs.Tallies.{TallyStands}
use Rattle.channel_plan.specs.Surveys.{key}
use Rattle.channel_plan.proofs.Keeping.{rest_next, same_at, all_at, done_next, all_done}
use Rattle.channel_plan.proofs.Opened.{key_same}
use Rattle.channel_plan.proofs.tallies.go_on.Goals as goal

pub returns-in_err-next-clause-keys : goal.returns-in_err-next-clause-keys
returns-in_err-next-clause-keys g c =
    let xs = c.loop-place.tallies in
    let r = c.loop-place.place in
    let x = c.index-tallies-place.result in
    map-set_same key xs r c.next.new.self x (key_same c.next.new.self (get_or xs r x) c.next.ensures.port c.next.ensures.part)
    ∙ c.loop-place.invariant.keys

pub loop-place-preserved : goal.loop-place-preserved
loop-place-preserved g c =
    let xs = c.loop-place.tallies in
    let old = c.args.tallies.now in
    let r = c.loop-place.place in
    let x = c.index-tallies-place.result in
    let y = c.next.new.self in
    let i = c.loop-place.invariant in
    let low : r < length xs = search rules in
    record {
      within = omega (arith, low, length-set xs r y);
      same = length-set xs r y ∙ i.same;
      rest = drop-set-lt (r + 1) xs r y (omega arith) ∙ rest_next xs old r x low i.same i.rest;
      keys = map-set_same key xs r y x (key_same y (get_or xs r x) c.next.ensures.port c.next.ensures.part) ∙ i.keys;
      done = λ es k e stands next at timed olds.
          let P = TallyStands (asked c.args.parts.now) (g.T.Aims.table (table_in c.args.parts.now)) es in
          done_next (P (suc k)) xs r y low
          (c.in_ok-next.ensures.stands es k e stands next at timed
          (subst (P k) (same_at xs old r x low i.same i.rest) (all_at (P k) old r x (omega (arith, low, i.same)) olds)))
          (i.done es k e stands next at timed olds);
    }

pub returns-clause-stand : goal.returns-clause-stand
returns-clause-stand g c es k e stands next at timed olds =
    let i = c.loop-place.invariant in
    all_done (TallyStands (asked c.args.parts.now) (g.T.Aims.table (table_in c.args.parts.now)) es (suc k)) c.loop-place.tallies c.loop-place.place
    i.within (search rules) (i.done es k e stands next at timed olds)
