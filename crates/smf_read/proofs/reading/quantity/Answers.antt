use Rattle.smf_read.proofs.Quick.{one_byte_at}
use Rattle.smf_read.proofs.reading.quantity.Goals as goal

pub returns-in-len1-up-clause-gives : goal.returns-in-len1-up-clause-gives
returns-in-len1-up-clause-gives c = one_byte_at c.args.bytes.now c.in-len1-up.len_at_least c.if-byte-lt128.true
