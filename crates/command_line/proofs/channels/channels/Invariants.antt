use Rattle.std.proofs.Common.{◌≡◌, length}
use Rattle.command_line.specs.Channels.{channels_from}
use Rattle.command_line.specs.Items.{item_of}
use Rattle.command_line.proofs.channels.channels.Given as goal

abbrev pub invariant-loop-rest : goal.invariant-loop-rest
invariant-loop-rest l = channels_from l.mask (item_of l.item) l.rest ≡ channels_from l.initial.mask (item_of l.initial.item) l.initial.rest

abbrev pub decreases-loop-rest : goal.decreases-loop-rest
decreases-loop-rest l = length l.rest
