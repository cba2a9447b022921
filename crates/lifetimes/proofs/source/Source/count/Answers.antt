use Rattle.std.proofs.Common.{◌+◌, arith}
use Rattle.lifetimes.proofs.Opened.{counted_more}
use Rattle.lifetimes.proofs.source.Source.count.Goals as goal

pub invariant_of-self-clause-counted : goal.invariant_of-self-clause-counted
invariant_of-self-clause-counted c =
    counted_more c.args.self.now.position (c.args.self.now.position + 1) c.args.self.now.ports (omega arith) c.args.self.now.counted

pub invariant_of-self-else-is_some-clause-counted : goal.invariant_of-self-else-is_some-clause-counted
invariant_of-self-else-is_some-clause-counted c =
    counted_more c.args.self.now.position (c.args.self.now.position + 1) c.args.self.now.ports (omega arith) c.args.self.now.counted
