use Rattle.std.proofs.Common.{arith, slice_index}
use Rattle.routes.proofs.Channels.{bit_tested}
use Rattle.routes.proofs.kept.Kept.is_told.Goals as goal

pub returns : goal.returns
returns c = bit_tested 128 (slice_index c.args.self.now.keys c.args.port) c.args.key (omega (arith, c.requires))
