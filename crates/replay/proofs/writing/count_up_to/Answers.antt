use Rattle.std.proofs.Common.{◌+◌, [], refl, ap, ◌∙◌, arith, length, min}
use Rattle.midi_model.specs.Bring.{bring}
use Rattle.receiver.specs.State.{state_of}
use Rattle.replay.proofs.writing.count_up_to.Goals as goal

pub returns : goal.returns
returns c =
    let counted = c.put_all.ensures c.args.bound [] (refl, omega arith) in
    counted.1
    ∙ ap (λ d. min (length (bring d (state_of c.args.now.now) (state_of c.args.wanted.now))) (c.args.bound + 1)) c.default.ensures
