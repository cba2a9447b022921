use Rattle.std.proofs.Common.{◌∙◌}
use Rattle.receiver.proofs.Low.{over_zero, relaxed}
use Rattle.receiver.proofs.state.ChannelState.relax.Goals as goal

pub returns-clause-keys : goal.returns-clause-keys
returns-clause-keys c =
    let s = c.args.self.now in
    over_zero c.args.which s.keys.defaults s.keys.items c.reset.new.self.items s.keys_over c.reset.ensures.items

pub invariant_of-self-clause-keys_over : goal.invariant_of-self-clause-keys_over
invariant_of-self-clause-keys_over c = c.reset.ensures.defaults ∙ c.args.self.now.keys_over

pub invariant_of-self-clause-keys_fit : goal.invariant_of-self-clause-keys_fit
invariant_of-self-clause-keys_fit c =
    let s = c.args.self.now in
    let zeros = over_zero c.args.which s.keys.defaults s.keys.items c.reset.new.self.items s.keys_over c.reset.ensures.items in
    relaxed c.args.which s.keys.items c.reset.new.self.items c.reset.ensures.length zeros s.keys_fit
