use Rattle.std.proofs.Common.{ℕ, ◌^◌, ◌<◌, ◌≤◌}
use Rattle.log_bracket.specs.Digits.{IsQuotient}
use Rattle.log_bracket.proofs.Squarings.{Chain}
use Rattle.log_bracket.proofs.chain.binary_digits.Given as goal

abbrev pub invariant-loop-turn : goal.invariant-loop-turn
invariant-loop-turn l = record {
  top : 2 ^ 63 ≤ l.mantissa;
  below : l.mantissa < 2 ^ 64;
  few : l.digits < 2 ^ l._turn;
  chain : (a b : ℕ) → IsQuotient l.fn.start a b → Chain (2 ^ 63) a b l._turn l.mantissa l.digits;
}
