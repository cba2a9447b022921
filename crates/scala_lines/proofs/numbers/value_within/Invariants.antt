use Rattle.std.proofs.Common.{◌≡◌, ◌≤◌, drop}
use Rattle.scala_lines.specs.Numbers.{value, value_from}
use Rattle.scala_lines.proofs.numbers.value_within.Given as goal

-- what has been read, and the digits to come, say what all digits say
abbrev pub invariant-loop-digit : goal.invariant-loop-digit
invariant-loop-digit l = record {
  told : value_from l.number (drop l.digit-index l.digits) ≡ value l.digits;
  low : l.number ≤ l.limit;
}
