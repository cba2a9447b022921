use Rattle.std.proofs.Common.{[], rules, sym, ◌∙◌, arith, subst}
use Rattle.std.proofs.lemmas.List.{take_all}
use Rattle.midi_model.specs.Channel.{State}
use Rattle.midi_model.specs.Bring.{bring}
use Rattle.receiver.specs.State.{state_of}
use Rattle.replay.specs.Brings.{Brings, IsHeard}
use Rattle.replay.proofs.Telling.{brings_so, heard_so}
use Rattle.replay.proofs.writing.bring.Goals as goal

pub returns-clause-messages : goal.returns-clause-messages
returns-clause-messages c =
    let most =
    c.messages_are_few.ensures.most c.args.channel (state_of c.args.now.now) (state_of c.args.wanted.now) c.well_formed-2.ensures.formed c.well_formed-3.ensures.formed c.well_formed-2.ensures.few c.well_formed-3.ensures.few in
    c.put_all.ensures 0 [] c.requires
    ∙ take_all 400 (bring c.args.channel (state_of c.args.now.now) (state_of c.args.wanted.now)) (omega (arith, most))

pub returns-clause-brings : goal.returns-clause-brings
returns-clause-brings c =
    let now : State = state_of c.args.now.now in
    let wanted : State = state_of c.args.wanted.now in
    subst (Brings c.args.channel now wanted) (sym (returns-clause-messages c))
    (brings_so c.bring_reaches.ensures.wanted c.messages_only_set.ensures.room c.messages_are_few.ensures.most c.messages_are_few.ensures.few c.messages_only_set.ensures.valid c.messages_only_set.ensures.settings
    c.args.channel now wanted (search rules) c.well_formed-2.ensures.formed c.well_formed-3.ensures.formed c.well_formed-2.ensures.few c.well_formed-3.ensures.few)

pub returns-clause-heard : goal.returns-clause-heard
returns-clause-heard c =
    let now : State = state_of c.args.now.now in
    let wanted : State = state_of c.args.wanted.now in
    subst (IsHeard c.args.channel now wanted) (sym (returns-clause-messages c))
    (heard_so c.a_receiver_follows.ensures.arrives c.a_receiver_follows.ensures.others c.a_receiver_follows.ensures.tuning c.args.channel now wanted)
