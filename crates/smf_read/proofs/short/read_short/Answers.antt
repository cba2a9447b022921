use Rattle.std.proofs.Common.{refl, arith}
use Rattle.smf_read.proofs.Quick.{running_short, status_short, later_short}
use Rattle.smf_read.proofs.short.read_short.Goals as goal

pub returns-in-len3-up : goal.returns-in-len3-up
returns-in-len3-up c = running_short c.args.running c.args.bytes.now c.in-len3-up.len_at_least c.if-delta-lt128.true c.if-first-lt128.true c.if-second-lt128.true (c.if-is_long.ensures.0 refl)

pub returns-in-len4-up : goal.returns-in-len4-up
returns-in-len4-up c = status_short c.args.running c.args.bytes.now c.in-len4-up.len_at_least c.if-delta-lt128-2.true (c.if-is_long-2.ensures.0 refl) c.if-first-lt128-2.true c.if-second-lt128-2.true

pub returns-in-len4-up-2 : goal.returns-in-len4-up-2
returns-in-len4-up-2 c = later_short c.args.running c.args.bytes.now c.in-len4-up.len_at_least c.if-high-ge128.true (omega (arith, c.type_inv.bytes 0)) c.if-low-lt128.true c.if-first-lt128-3.true c.if-second-lt128-3.true (c.if-is_long-3.ensures.0 refl)
