use Rattle.std.proofs.Common.{◌≡◌, ◌++◌, ◌*◌, take, drop, length}
use Rattle.retune_model.specs.Octave.{two_byte_values}
use Rattle.octave_route.proofs.messages.read_values.Given as goal

abbrev pub invariant-loop-class : goal.invariant-loop-class
invariant-loop-class l = record {
  all : length l.values ≡ 12;
  read : two_byte_values l.bytes ≡ take l.class l.values ++ two_byte_values (drop (2 * l.class) l.bytes);
}
