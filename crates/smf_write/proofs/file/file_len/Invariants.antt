use Rattle.std.proofs.Common.{◌≤◌, ◌+◌, ◌*◌, ◌^◌}
use Rattle.smf_write.proofs.file.file_len.Given as goal

abbrev pub invariant-loop-track : goal.invariant-loop-track
invariant-loop-track l = l.len ≤ 14 + l.track-index * (8 + 2 ^ 32)
