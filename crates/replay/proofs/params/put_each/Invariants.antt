use Rattle.std.proofs.Common.{take}
use Rattle.midi_model.specs.Bring.{bring_each}
use Rattle.receiver.specs.Params.{entries_of}
use Rattle.receiver.specs.State.{own_of}
use Rattle.replay.specs.Sinks.{Puts}
use Rattle.replay.proofs.params.put_each.Given as goal

abbrev pub invariant-loop-param : goal.invariant-loop-param
invariant-loop-param g l = Puts g.S.Sink.holds l.fn.out l.out
    (bring_each l.channel (own_of l.now).params (entries_of (take l.param-index l.changes)))
