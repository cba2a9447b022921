use Rattle.std.proofs.Common.{◌≡◌, ◌<◌, ◌^◌, ◌*◌, arith, rules, subst}
use Rattle.std.proofs.lemmas.Grind.{pow_more}
use Rattle.log_bracket.specs.Digits.{power}
use Rattle.log_bracket.proofs.Squarings.{Chain, started, stepped, ended_least, ended_most}
use Rattle.log_bracket.proofs.chain.binary_digits.Goals as goal

pub loop-turn-init : goal.loop-turn-init
loop-turn-init c = record {
  top = c.requires;
  below = omega arith;
  few = omega arith;
  chain = λ a b is. started (2 ^ 63) a b c.args.start c.requires is.low is.high;
}

pub loop-turn-preserved : goal.loop-turn-preserved
loop-turn-preserved c = record {
  top = c.of-square.ensures.top;
  below = search rules;
  few = omega (arith, pow_more 2 c.loop-turn._turn, c.loop-turn.invariant.few, c.of-square.ensures.digit);
  chain = λ a b is.
      stepped (2 ^ 63) a b c.loop-turn._turn c.loop-turn.mantissa c.of-square.result.mantissa c.loop-turn.digits c.of-square.result.digit (omega arith)
      c.of-square.ensures.top c.of-square.ensures.low c.of-square.ensures.high (c.loop-turn.invariant.chain a b is);
}

pub returns-clause-digits : goal.returns-clause-digits
unfolding power
returns-clause-digits c = λ a b is.
    let last : c.loop-turn._turn ≡ 32 = omega arith in
    let h = subst (λ i. Chain (2 ^ 63) a b i c.loop-turn.mantissa c.loop-turn.digits) last (c.loop-turn.invariant.chain a b is) in
    let low : c.loop-turn.mantissa < 2 * 2 ^ 63 = omega arith in
    record {
      least = ended_least (2 ^ 63) a b 32 c.loop-turn.mantissa c.loop-turn.digits (omega arith) c.loop-turn.invariant.top h;
      most = ended_most (2 ^ 63) a b 32 c.loop-turn.mantissa c.loop-turn.digits (omega arith) low (omega arith) h;
    }
