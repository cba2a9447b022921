use Rattle.std.proofs.Common.{refl}
use Rattle.smf_read.proofs.Quick.{running_single, status_single}
use Rattle.smf_read.proofs.short.read_single.Goals as goal

pub returns-in-len2-up : goal.returns-in-len2-up
returns-in-len2-up c = running_single c.args.running c.args.bytes.now c.in-len2-up.len_at_least c.if-delta-lt128.true c.if-first-lt128.true (c.if-is_single.ensures.0 refl)

pub returns-in-len3-up : goal.returns-in-len3-up
returns-in-len3-up c = status_single c.args.running c.args.bytes.now c.in-len3-up.len_at_least c.if-delta-lt128-2.true (c.if-is_single-2.ensures.0 refl) c.if-first-lt128-2.true
