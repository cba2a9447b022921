use Rattle.std.proofs.Common.{ap, ◌∙◌}
use Rattle.receiver.specs.Kept.{are_low}
use Rattle.receiver.proofs.Low.{low_set}
use Rattle.receiver.proofs.state.ChannelState.press.Goals as goal

pub invariant_of-self-clause-keys_over : goal.invariant_of-self-clause-keys_over
invariant_of-self-clause-keys_over c = c.set.ensures.defaults ∙ c.args.self.now.keys_over

pub invariant_of-self-clause-keys_fit : goal.invariant_of-self-clause-keys_fit
invariant_of-self-clause-keys_fit c =
    let s = c.args.self.now in
    ap are_low c.set.ensures.items ∙ low_set s.keys.items c.args.key c.args.value c.requires.value s.keys_fit
