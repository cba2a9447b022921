use Rattle.std.proofs.Common.{◌≡◌, ◌≤◌, length}
use Rattle.command_line.specs.Words.{number_from}
use Rattle.command_line.proofs.numbers.number.Given as goal

abbrev pub invariant-loop-rest : goal.invariant-loop-rest
invariant-loop-rest l = record {
  few : l.number ≤ l.high;
  left : number_from l.high l.number l.rest ≡ number_from l.high l.initial.number l.initial.rest;
}

abbrev pub decreases-loop-rest : goal.decreases-loop-rest
decreases-loop-rest l = length l.rest
