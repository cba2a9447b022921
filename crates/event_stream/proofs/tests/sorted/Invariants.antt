use Rattle.std.proofs.Common.{length}
use Rattle.smf_read.specs.Remaining.{remaining}
use Rattle.event_stream.proofs.tests.sorted.Given as goal

abbrev pub decreases-loop-event : goal.decreases-loop-event
decreases-loop-event l = length (remaining l.cursor)
