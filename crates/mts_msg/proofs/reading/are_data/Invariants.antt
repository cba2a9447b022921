use Rattle.std.proofs.Common.{◌≡◌, drop}
use Rattle.midi_model.specs.Sysex.{all_low}
use Rattle.mts_msg.proofs.reading.are_data.Given as goal

abbrev pub invariant-loop-byte : goal.invariant-loop-byte
invariant-loop-byte l = all_low l.bytes ≡ all_low (drop l.byte-index l.bytes)
