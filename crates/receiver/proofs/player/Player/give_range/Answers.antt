use Rattle.std.proofs.Common.{rules, ◌∙◌, refl, sym, ap, get_or}
use Rattle.std.proofs.lemmas.List.{get_or-map}
use Rattle.midi_model.specs.Channel.{default_channel}
use Rattle.midi_model.specs.Zones.{governor, bend_range, bend_range_at}
use Rattle.receiver.specs.Stands.{states_of}
use Rattle.receiver.specs.State.{own_of}
use Rattle.receiver.specs.Zones.{zones_in}
use Rattle.receiver.proofs.Here.{map_same, map_changed}
use Rattle.receiver.proofs.Actions.{unmoved}
use Rattle.receiver.proofs.Loops.{range_of_master, range_of_member}
use Rattle.receiver.proofs.player.Player.give_range.Goals as goal

pub returns-then-place-owner-clause-notes : goal.returns-then-place-owner-clause-notes
returns-then-place-owner-clause-notes c d k dl kl = unmoved _ c.number-place.result _ c.index-self-place.result (search rules) c.bend_range.ensures.heard d k kl

pub returns-then-place-owner-clause-states : goal.returns-then-place-owner-clause-states
returns-then-place-owner-clause-states c =
    let xs = c.args.self.now.channels in
    let i = c.number-place.result in
    let z = zones_in c.args.self.now.zones in
    let s = get_or (states_of c.args.self.now) i default_channel in
    rw (← c.number-place.ensures.value) (map_changed _ xs i _ (bend_range_at z c.args.master i s)
    (c.bend_range.ensures.own ∙ ap (bend_range 2) (sym (get_or-map (λ s. own_of s.state) xs i c.index-self-place.result default_channel (search rules))) ∙ sym (range_of_master z c.args.master i s (c.if-place-owner.true ∙ c.number-owner.ensures.value))))

pub returns-then-place-owner-clause-rest : goal.returns-then-place-owner-clause-rest
returns-then-place-owner-clause-rest c = record {
  selected = map_same _ _ c.number-place.result _ c.index-self-place.result c.bend_range.ensures.tuning;
  zones = refl;
  begun = refl;
}

pub returns-then-governor-owner-clause-notes : goal.returns-then-governor-owner-clause-notes
returns-then-governor-owner-clause-notes c d k dl kl = unmoved _ c.number-place.result _ c.index-self-place-then-governor-owner.result (search rules) c.bend_range-then-governor-owner.ensures.heard d k kl

pub returns-then-governor-owner-clause-states : goal.returns-then-governor-owner-clause-states
returns-then-governor-owner-clause-states c =
    let xs = c.args.self.now.channels in
    let i = c.number-place.result in
    let z = zones_in c.args.self.now.zones in
    let s = get_or (states_of c.args.self.now) i default_channel in
    rw (← c.number-place.ensures.value) (map_changed _ xs i _ (bend_range_at z c.args.master i s)
    (c.bend_range-then-governor-owner.ensures.own ∙ ap (bend_range 48) (sym (get_or-map (λ s. own_of s.state) xs i c.index-self-place-then-governor-owner.result default_channel (search rules))) ∙ sym (range_of_member z c.args.master i s (λ e. c.if-place-owner.false (e ∙ sym c.number-owner.ensures.value)) (ap (governor z) c.number-place.ensures.value ∙ sym c.governor.ensures.value ∙ c.if-governor-owner.true ∙ c.number-owner.ensures.value))))

pub returns-then-governor-owner-clause-rest : goal.returns-then-governor-owner-clause-rest
returns-then-governor-owner-clause-rest c = record {
  selected = map_same _ _ c.number-place.result _ c.index-self-place-then-governor-owner.result c.bend_range-then-governor-owner.ensures.tuning;
  zones = refl;
  begun = refl;
}
