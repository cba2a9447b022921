use Rattle.std.proofs.Common.{◌≡◌, ◌++◌, ◌-◌}
use Rattle.retune_model.specs.Dump.{from_up}
use Rattle.route_bend.specs.Sent.{sent}
use Rattle.route_bend.proofs.channels.Channels.send.Given as goal

abbrev pub invariant-loop-channel : goal.invariant-loop-channel
invariant-loop-channel l =
    l.out.messages.items ++ sent l.self l.part l.number l.value (from_up l.channel (16 - l.channel))
    ≡ l.fn.out.messages.items ++ sent l.self l.part l.number l.value (from_up 0 16)
