use Rattle.std.proofs.Common.{◌<◌, ◌++◌, refl, arith}
use Rattle.retune_model.specs.Dump.{from_up}
use Rattle.route_bend.specs.Sent.{sent}
use Rattle.route_bend.proofs.Renewing.{sent_none, sent_parts, put_next, put_last}
use Rattle.route_bend.proofs.channels.Channels.send.Goals as goal

pub loop-channel-init : goal.loop-channel-init
loop-channel-init c = refl

pub loop-channel-preserved : goal.loop-channel-preserved
loop-channel-preserved c =
    let s = c.args.self.now in
    let i = c.loop-channel.channel in
    let low : i < 16 = omega (arith, c.loop-channel-test.true, c.end-channel-end.ensures.high) in
    put_next (sent s c.args.part c.args.number c.args.value) i c.loop-channel.out.messages.items c.send_one.new.out.messages.items
    (c.args.out.now.messages.items ++ sent s c.args.part c.args.number c.args.value (from_up 0 16)) low
    (sent_parts s c.args.part c.args.number c.args.value) c.loop-channel.invariant c.in_ok-send_one.ensures

pub returns : goal.returns
returns c =
    let s = c.args.self.now in
    let i = c.loop-channel.channel in
    put_last (sent s c.args.part c.args.number c.args.value) i c.loop-channel.out.messages.items
    (c.args.out.now.messages.items ++ sent s c.args.part c.args.number c.args.value (from_up 0 16))
    (sent_none s c.args.part c.args.number c.args.value i (λ d from. c.end-channel-end.ensures.none d (omega (arith, c.loop-channel-test.false, from))))
    c.loop-channel.invariant
