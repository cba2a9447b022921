use Rattle.std.proofs.Common.{◌≡◌, drop}
use Rattle.retune_model.specs.Octave.{are_data}
use Rattle.octave_route.proofs.messages.are_data.Given as goal

abbrev pub invariant-loop-byte : goal.invariant-loop-byte
invariant-loop-byte l = are_data l.bytes ≡ are_data (drop l.byte-index l.bytes)
