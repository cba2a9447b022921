use Rattle.std.proofs.Common.{◌≡◌, ◌++◌, ◌*◌, take, drop, length}
use Rattle.midi_model.specs.Sysex.{key_values}
use Rattle.midi_model.specs.TuningBytes.{numbered}
use Rattle.mts_msg.proofs.reading.read_values.Given as goal

abbrev pub invariant-loop-key : goal.invariant-loop-key
invariant-loop-key l = record {
  all : length l.values ≡ 128;
  read : key_values 0 l.bytes ≡ numbered 0 (take l.key l.values) ++ key_values l.key (drop (3 * l.key) l.bytes);
}
