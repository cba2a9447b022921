use Rattle.std.proofs.Common.{sym, subst, arith, rules}
use Rattle.retune_model.specs.PortNeed.{IsNeedOf}
use Rattle.lifetimes.specs.Views.{pair_of}
use Rattle.lifetimes.specs.Stands.{asked, table_in}
use Rattle.channel_plan.specs.Passing.{channels_in}
use Rattle.channel_plan.specs.Serving.{number_on}
use Rattle.channel_plan.proofs.Served.{if_none, head_same, so_far, begins_now, row_given}
use Rattle.channel_plan.proofs.serving.give_on.Goals as goal

pub returns-in_err-placed-clause-none : goal.returns-in_err-placed-clause-none
returns-in_err-placed-clause-none g c = if_none c.from_residual.result c.from_residual.ensures (λ es gs k e stands begins count served freed.
    let o = asked c.args.parts.now in
    let table = g.T.Aims.table (table_in c.args.parts.now) in
    let p = pair_of c.args.pair.now in
    let u = c.args.row.now in
    c.in_err-placed.ensures.none es (so_far o table es gs k e p c.requires.bends begins count u freed served)
    (number_on o table es u.port) k freed.ready.instant e stands
    (begins_now o table es gs k e p c.requires.bends begins count u freed served)
    (subst (λ n. IsNeedOf o (channels_in o u.part) table es u.port n freed.ready.instant) (sym freed.ready.long) freed.ready.need))

pub returns-in-Some-clause-some : goal.returns-in-Some-clause-some
returns-in-Some-clause-some g c es gs k e order stands begins count next served freed =
    let o = asked c.args.parts.now in
    let table = g.T.Aims.table (table_in c.args.parts.now) in
    let p = pair_of c.args.pair.now in
    let u = c.args.row.now in
    let v = c.give.new.self in
    let same = head_same u v c.give.ensures.port c.give.ensures.part c.give.ensures.channels in
    row_given o table es gs k e p c.requires.bends begins count u freed served c.run_counts.ensures.one c.run_counts.ensures.part
    c.run_counts.ensures.begins order c.args.next
    next v same c.give.ensures.length c.in_ok-placed.placed c.in-Some.channel.now c.in_ok-placed.ensures.next
    (search rules)
    (let w = c.in_ok-placed.ensures.within in let long = freed.ready.long in omega (arith, w, long))
    (λ row number on. c.in_ok-placed.ensures.begins es row number k e stands on)
    (λ row number on agrees. c.in_ok-placed.ensures.placed es row number k e stands on agrees)
