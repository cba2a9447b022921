use Rattle.std.proofs.Common.{arith, ◌∙◌}
use Rattle.std.proofs.lemmas.List.{length-set}
use Rattle.channel_plan.proofs.Recasting.{one_given}
use Rattle.channel_plan.proofs.plan.recast_each.Goals as goal

pub loop-note-preserved : goal.loop-note-preserved
loop-note-preserved c =
    let long = length-set c.loop-note.given c.loop-note.note c.recast_one.result in
    let l = c.if-note-runs.true in
    let m = c.loop-note-test.true in
    record {
      runs = omega (arith, l);
      notes = omega (arith, m, long);
      same = long ∙ c.loop-note.invariant.same;
      given = one_given c.args.port c.args.used.now c.args.rows.now c.args.runs.now c.args.given.now c.loop-note.given c.loop-note.note 0 c.index-given-note.result c.recast_one.result
          c.loop-note.invariant.given c.loop-note.invariant.same l m c.index-given-note.is c.recast_one.ensures;
    }
