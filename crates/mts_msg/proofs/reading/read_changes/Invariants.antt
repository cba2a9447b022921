use Rattle.std.proofs.Common.{◌≡◌, ◌++◌, ◌*◌, ◌+◌, ◌≤◌, length}
use Rattle.midi_model.specs.Sysex.{changes}
use Rattle.mts_msg.proofs.reading.read_changes.Given as goal

abbrev pub invariant-loop-rest : goal.invariant-loop-rest
invariant-loop-rest l = record {
  read : l.list.items ++ changes l.rest ≡ changes l.bytes;
  room : 4 * length l.list.items + length l.rest ≤ 508;
}

abbrev pub decreases-loop-rest : goal.decreases-loop-rest
decreases-loop-rest l = length l.rest
