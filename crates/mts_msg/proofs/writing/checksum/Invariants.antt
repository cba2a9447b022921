use Rattle.std.proofs.Common.{◌≡◌, take}
use Rattle.midi_model.specs.Sysex.{xor_all}
use Rattle.mts_msg.proofs.writing.checksum.Given as goal

abbrev pub invariant-loop-byte : goal.invariant-loop-byte
invariant-loop-byte l = l.sum ≡ xor_all (take l.byte-index l.bytes)
