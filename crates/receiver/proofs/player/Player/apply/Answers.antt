use Rattle.std.proofs.Common.{rules, ◌∙◌, ap, sym, set, get_or, None, ◌<◌, length}
use Rattle.std.proofs.lemmas.List.{get_or-map}
use Rattle.midi_model.specs.Channel.{default_channel, apply}
use Rattle.receiver.specs.State.{own_of, program_after}
use Rattle.receiver.specs.Stands.{states_of, selected_in}
use Rattle.receiver.proofs.Here.{map_changed}
use Rattle.receiver.proofs.Actions.{unmoved}
use Rattle.receiver.proofs.player.Player.apply.Goals as goal

pub returns-clause-notes : goal.returns-clause-notes
returns-clause-notes c d k dl kl = unmoved _ c.channel_number.result _ c.index-self-channel_number.result (search rules) c.apply.ensures.heard d k kl

pub returns-clause-states : goal.returns-clause-states
returns-clause-states c =
    let xs = c.args.self.now.channels in
    let i = c.channel_number.result in
    let d = c.index-self-channel_number.result in
    let old = states_of c.args.self.now in
    map_changed _ xs i _ (apply (get_or old i default_channel) c.args.message.now)
    (c.apply.ensures.own ∙ ap (λ s. apply s c.args.message.now) (sym (get_or-map (λ s. own_of s.state) xs i d default_channel (search rules))))
    ∙ ap (λ j. set old j (apply (get_or old j default_channel) c.args.message.now)) c.channel_number.ensures.value

pub returns-clause-selected : goal.returns-clause-selected
returns-clause-selected c =
    let xs = c.args.self.now.channels in
    let i = c.channel_number.result in
    let d = c.index-self-channel_number.result in
    let old = states_of c.args.self.now in
    let chosen = selected_in c.args.self.now in
    let low : i < length xs = search rules in
    map_changed _ xs i _ (program_after (get_or old i default_channel) c.args.message.now (get_or chosen i None))
    (c.apply.ensures.tuning
    ∙ ap (λ s. program_after s c.args.message.now (get_or xs i d).state.tuning) (sym (get_or-map (λ s. own_of s.state) xs i d default_channel low))
    ∙ ap (λ o. program_after (get_or old i default_channel) c.args.message.now o) (sym (get_or-map (λ s. s.state.tuning) xs i d None low)))
    ∙ ap (λ j. set chosen j (program_after (get_or old j default_channel) c.args.message.now (get_or chosen j None))) c.channel_number.ensures.value
