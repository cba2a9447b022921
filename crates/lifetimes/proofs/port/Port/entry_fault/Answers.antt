use Rattle.std.proofs.Common.{◌≡◌, ◌<◌, ◌∙◌, sym, ap, subst, arith, rules, w32, length}
use Rattle.std.proofs.lemmas.Int.{to_z-of_z}
use Rattle.std.specs.Option.{option_or}
use Rattle.midi_model.specs.Params.{IsCanonical}
use Rattle.midi_model.specs.Channel.{Channel}
use Rattle.midi_model.specs.Music.{Music, channel_at, step}
use Rattle.retune_model.specs.Source.{bend_in_steps}
use Rattle.retune_model.specs.Faults.{is_part}
use Rattle.retune_model.specs.Rests.{is_aimed}
use Rattle.receiver.specs.State.{own_of}
use Rattle.lifetimes.specs.Told.{music_on, told_kind}
use Rattle.lifetimes.specs.Due.{plainly}
use Rattle.lifetimes.specs.Entry.{sensitivity_then, entry_kind}
use Rattle.lifetimes.specs.Stands.{heard_on}
use Rattle.lifetimes.specs.Views.{options_of}
use Rattle.lifetimes.proofs.HeardParts.{heard_channel}
use Rattle.lifetimes.proofs.LeftAlone.{music_after}
use Rattle.lifetimes.proofs.StruckNow.{music_before}
use Rattle.lifetimes.proofs.Turned.{settled_on}
use Rattle.lifetimes.proofs.NoZones.{no_zones_on}
use Rattle.lifetimes.proofs.Entered.{IsEntered, entered, entry_leaves}
use Rattle.lifetimes.proofs.EntryDue.{told_or, entry_due}
use Rattle.lifetimes.proofs.port.Port.entry_fault.Goals as goal

pub returns : goal.returns
returns c table es e z next what tick part =
    let o = options_of c.args.options.now in
    let channel = c.args.channel in
    let high = c.args.is_high in
    let v = c.args.value in
    let m : Music = music_on z es in
    let music = c.position_laws.ensures.music in
    let settled = c.music_laws.ensures.settled in
    let parameters = c.parameter_laws.ensures in
    let below : channel < 16 = search rules in
    let long = (settled_on settled z es).channels in
    let low : channel < length m.channels = omega (arith, below, long) in
    let zones = no_zones_on (record { zones = c.zone_entries_set_zones.ensures; fine = c.sound_sources.ensures.fine; music = music })
    o table z es next.faultless in
    let s : Channel = own_of c.state-state.result.now in
    let own : s ≡ channel_at m channel = c.state-state.ensures.own (heard_on o z es) next.stands.player
    ∙ heard_channel c.drums_stand_apart.ensures.music o z es channel part in
    let made : IsEntered (channel_at m channel) (channel_at (step m e) channel) channel high v =
    entered parameters.given parameters.others m e channel high v what low
    (subst (λ (x : Channel). IsCanonical x.params) own c.well_formed-2.ensures.formed.canonical) in
    let steps : c.bend_in_steps-moved.result ≡ bend_in_steps o.range (channel_at (step m e) channel) =
    c.bend_in_steps-moved.ensures.value (channel_at (step m e) channel) (made.bend ∙ sym (ap (λ (x : Channel). x.bend) own))
    (made.value ∙ (ap (λ (x : Channel). sensitivity_then x channel high v) (sym own) ∙ sym c.sensitivity_after-sensitivity.ensures.value)) in
    ap told_kind c.or.ensures
    ∙ (told_or c.bend_fault.result c.parameter_fault.result
    ∙ (ap (option_or (told_kind c.bend_fault.result)) c.parameter_fault.ensures
    ∙ (ap (λ x. option_or x (plainly (entry_kind s.selection))) (c.bend_fault.ensures table es e z next tick part
    (ap (is_aimed o (is_part o) table e.tick) what) (entry_leaves settled z es e channel high v what below zones))
    ∙ entry_due o table es e z channel high v s _ what part (own ∙ ap (λ x. channel_at x channel) (sym (music_before music z es e)))
    (to_z-of_z w32 c.bend_in_steps-moved.result (record { sfits = c.bend_in_steps-moved.type_inv })
    ∙ (steps ∙ ap (λ x. bend_in_steps o.range (channel_at x channel)) (sym (music_after music z es e next.here)))))))
