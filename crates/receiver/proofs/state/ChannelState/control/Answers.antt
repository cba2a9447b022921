use Rattle.std.proofs.Common.{ap, sym, ◌∙◌}
use Rattle.midi_model.specs.WellFormed.{is_kept}
use Rattle.receiver.specs.Roles.{role_of}
use Rattle.receiver.specs.Kept.{are_low, only_stored}
use Rattle.receiver.proofs.Low.{low_set, all_stored}
use Rattle.receiver.proofs.state.ChannelState.control.Goals as goal

pub invariant_of-self-clause-controls_over : goal.invariant_of-self-clause-controls_over
invariant_of-self-clause-controls_over c = c.set.ensures.defaults ∙ c.args.self.now.controls_over

pub invariant_of-self-clause-only_stored : goal.invariant_of-self-clause-only_stored
invariant_of-self-clause-only_stored c =
    let s = c.args.self.now in
    ap (only_stored 0) c.set.ensures.items
    ∙ all_stored s.controls.items c.args.number c.args.value (ap is_kept (sym c.purpose_of.ensures.role ∙ ap role_of c.in-Keep.is)) s.only_stored

pub invariant_of-self-clause-controls_fit : goal.invariant_of-self-clause-controls_fit
invariant_of-self-clause-controls_fit c =
    let s = c.args.self.now in
    ap are_low c.set.ensures.items ∙ low_set s.controls.items c.args.number c.args.value c.requires.value s.controls_fit
