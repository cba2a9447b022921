use Rattle.std.proofs.Common.{◌≡◌, ◌<◌, ◌∙◌, refl, sym, ap, rules, w32}
use Rattle.std.proofs.lemmas.Int.{to_z-of_z}
use Rattle.mt_base.specs.declared.event.Msg.TheVariants.{Bend}
use Rattle.midi_model.specs.Params.{value_of, rpn}
use Rattle.midi_model.specs.Channel.{Channel, apply}
use Rattle.midi_model.specs.Music.{channel_at}
use Rattle.retune_model.specs.Source.{bend_in_steps}
use Rattle.retune_model.specs.Faults.{is_part}
use Rattle.retune_model.specs.Rests.{is_aimed}
use Rattle.lifetimes.specs.Told.{music_on}
use Rattle.lifetimes.specs.Stands.{heard_on}
use Rattle.lifetimes.specs.Views.{options_of}
use Rattle.lifetimes.proofs.HeardParts.{heard_channel}
use Rattle.lifetimes.proofs.LeftAlone.{music_after}
use Rattle.lifetimes.proofs.Turned.{turn_leaves, turned_channel, turn_due}
use Rattle.lifetimes.proofs.port.Port.turn_fault.Goals as goal

pub returns : goal.returns
returns c table es e z next what tick part =
    let o = options_of c.args.options.now in
    let channel = c.args.channel in
    let low : channel < 16 = search rules in
    let m = music_on z es in
    let sensitivity : value_of (channel_at m channel).params (rpn 0) ≡ c.value-sensitivity.result =
    sym (c.value-sensitivity.ensures.value ∙ ap (λ (s : Channel). value_of s.params (rpn 0))
    (c.state.ensures.own (heard_on o z es) next.stands.player ∙ heard_channel c.drums_stand_apart.ensures.music o z es channel part)) in
    c.bend_fault.ensures table es e z next tick part (ap (is_aimed o (is_part o) table e.tick) what)
    (turn_leaves c.music_laws.ensures.settled z es e channel c.args.value what low)
    ∙ turn_due o table es e z channel c.args.value _ what part
    (to_z-of_z w32 c.bend_in_steps-moved.result (record { sfits = c.bend_in_steps-moved.type_inv })
    ∙ (c.bend_in_steps-moved.ensures.value (apply (channel_at m channel) (Bend channel c.args.value)) refl sensitivity
    ∙ ap (bend_in_steps o.range) (sym (ap (λ n. channel_at n channel) (music_after c.position_laws.ensures.music z es e next.here)
    ∙ turned_channel c.music_laws.ensures.settled z es e channel c.args.value what low))))
