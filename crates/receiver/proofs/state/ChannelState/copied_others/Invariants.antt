use Rattle.std.proofs.Common.{◌≡◌, take}
use Rattle.receiver.proofs.state.ChannelState.copied_others.Given as goal

abbrev pub invariant-loop-param : goal.invariant-loop-param
invariant-loop-param l = l.others.items ≡ take l.param-index l.self.others.items
