use Rattle.std.proofs.Common.{◌≤◌, arith, subst, sym}
use Rattle.receiver.specs.Notes.{has}
use Rattle.mtune_core.proofs.Channels.{next_channel, bit_is_low}
use Rattle.mtune_core.proofs.reporting.channels_in.Goals as goal

pub loop-channel-preserved : goal.loop-channel-preserved
loop-channel-preserved c =
    let inv = c.loop-channel.invariant in
    let few = inv.few in
    let low : c.one_if-count.result ≤ 1 = subst (λ n. n ≤ 1) (sym c.one_if-count.ensures) (bit_is_low (has c.args.mask c.loop-channel.channel)) in
    record {
      few = omega (arith, few, low);
      left = next_channel (λ i. has c.args.mask i) c.loop-channel.channel c.loop-channel.count c.one_if-count.result _
          (omega arith) c.one_if-count.ensures inv.left;
    }
