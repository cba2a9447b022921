use Rattle.std.proofs.Common.{◌++◌, ◌∙◌, List, [], ◌∷◌, ap}
use Rattle.std.proofs.lemmas.List.{append_assoc}
use Rattle.std.proofs.lemmas.Result.{on_ok_weaker}
use Rattle.mt_base.specs.declared.event.Msg.{Msg}
use Rattle.mt_base.specs.declared.event.Msg.TheVariants.{NoteOn}
use Rattle.channel_model.specs.Choice.{wanted}
use Rattle.lifetimes.specs.Views.{pair_of}
use Rattle.lifetimes.specs.Stands.{asked, table_in}
use Rattle.lifetimes.specs.Told.{music_on}
use Rattle.route_bend.specs.Single.{readied}
use Rattle.route_bend.proofs.channels.Channels.begin.Goals as goal

pub returns-clause-sent : goal.returns-clause-sent
returns-clause-sent g c = λ es is.
    let p = pair_of c.args.pair.now in
    let needs = wanted (asked c.args.parts.now) (g.T.Aims.table (table_in c.args.parts.now)) (music_on c.args.pair.now.part.port es) p in
    let note = NoteOn c.args.channel c.args.key c.args.velocity in
    on_ok_weaker c.put.result
    (λ put. put ∙ ap (λ (ms : List Msg). ms ++ note ∷ []) (c.in_ok-ready.ensures.sent es is)
    ∙ append_assoc c.args.out.now.messages.items (readied needs c.args.self.now p c.args.channel) (note ∷ [])) c.put.ensures

pub returns-clause-begins : goal.returns-clause-begins
returns-clause-begins g c = λ es is off. on_ok_weaker c.put.result (λ put. c.in_ok-ready.ensures.begins es is off) c.put.ensures
