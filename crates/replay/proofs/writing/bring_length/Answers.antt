use Rattle.std.proofs.Common.{arith, ◌∙◌}
use Rattle.midi_model.specs.Channel.{State}
use Rattle.receiver.specs.State.{state_of}
use Rattle.replay.proofs.writing.bring_length.Goals as goal

pub returns-clause-length : goal.returns-clause-length
returns-clause-length c = λ d.
    let now : State = state_of c.args.now.now in
    let wanted : State = state_of c.args.wanted.now in
    let most =
    c.messages_are_few.ensures.most 0 now wanted c.well_formed-2.ensures.formed c.well_formed-3.ensures.formed c.well_formed-2.ensures.few c.well_formed-3.ensures.few in
    c.messages_are_few.ensures.as_many d 0 now wanted ∙ omega (arith, most, c.count_up_to.ensures)
