use Rattle.std.proofs.Common.{refl, sym, ap, ◌∙◌, w32}
use Rattle.std.proofs.lemmas.Int.{to_z-of_z}
use Rattle.retune_model.specs.Source.{bend_in_steps}
use Rattle.receiver.specs.State.{own_of}
use Rattle.lifetimes.specs.Stands.{heard_on}
use Rattle.lifetimes.proofs.HeardParts.{heard_channel}
use Rattle.lifetimes.proofs.port.Port.moved.Goals as goal

pub returns-clause-own : goal.returns-clause-own
returns-clause-own c es stands =
    to_z-of_z w32 c.bend_in_steps.result (record { sfits = c.bend_in_steps.type_inv })
    ∙ (c.bend_in_steps.ensures.value (own_of c.state-state.result.now) refl (sym c.value.ensures.value)
    ∙ ap (bend_in_steps c.args.range) (c.state-state.ensures.own es stands))

pub returns-clause-bend : goal.returns-clause-bend
returns-clause-bend c o table es stands part =
    to_z-of_z w32 c.bend_in_steps.result (record { sfits = c.bend_in_steps.type_inv })
    ∙ (c.bend_in_steps.ensures.value (own_of c.state-state.result.now) refl (sym c.value.ensures.value)
    ∙ ap (bend_in_steps c.args.range) (c.state-state.ensures.own (heard_on o c.args.self.now.number es) stands.player
    ∙ heard_channel c.drums_stand_apart.ensures.music o c.args.self.now.number es c.args.channel part))
