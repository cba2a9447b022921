use Rattle.std.proofs.Common.{◌≡◌, map, take, string_bytes}
use Rattle.command_line.specs.Words.{texts}
use Rattle.mtune_real.proofs.process.slices.Given as goal

abbrev pub invariant-loop-word : goal.invariant-loop-word
invariant-loop-word l = texts l.slices.items ≡ map string_bytes (take l.word-index l.words)
