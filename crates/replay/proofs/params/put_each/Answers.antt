use Rattle.std.proofs.Common.{false, refl, ap, arith, get_or}
use Rattle.midi_model.specs.Bring.{bring_parameter}
use Rattle.receiver.specs.Params.{entry_of}
use Rattle.receiver.specs.State.{own_of}
use Rattle.receiver.specs.declared.param.Param.{Param}
use Rattle.replay.proofs.Putting.{puts_then, puts_done, puts_same}
use Rattle.replay.proofs.Each.{each_split, each_next}
use Rattle.replay.proofs.params.put_each.Goals as goal

pub returns-then-is_done : goal.returns-then-is_done
returns-then-is_done g c =
    puts_same g.S.Sink.holds _ _ _ _ (each_split c.args.channel (own_of c.args.now.now).params c.loop-param.param-index c.args.changes.now)
    (puts_done g.S.Sink.holds _ _ _ _ c.loop-param.invariant (c.if-is_done.ensures refl))

pub loop-param-preserved : goal.loop-param-preserved
loop-param-preserved g c =
    let start : Param = record { registered = false; high = 0; low = 0; value = (0, 0) } in
    let p : Param = get_or c.args.changes.now c.loop-param.param-index start in
    puts_same g.S.Sink.holds _ _ _ _ (each_next c.args.channel (own_of c.args.now.now).params c.loop-param.param-index c.args.changes.now start (omega (arith, c.loop-param-test.true)))
    (puts_then g.S.Sink.holds _ _ _ _ _ c.loop-param.invariant
    (puts_same g.S.Sink.holds _ _ _ _ (ap (λ v. bring_parameter c.args.channel v (entry_of p)) c.value-value.ensures.value) c.put_parameter.ensures))
