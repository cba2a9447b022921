use Rattle.std.proofs.Common.{◌≡◌, take}
use Rattle.receiver.proofs.state.ChannelState.params.Given as goal

abbrev pub invariant-loop-param : goal.invariant-loop-param
invariant-loop-param l = l.params.items ≡ take l.param-index l.self.others.items
