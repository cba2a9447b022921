use Rattle.std.proofs.Common.{◌∙◌, ◌≤◌, length, sym, ap, subst, rules, arith, inl, inr}
use Rattle.std.proofs.lemmas.Bool.{cases_lt}
use Rattle.channel_model.specs.Refusals.{HasFewParts}
use Rattle.channel_plan.proofs.Ported.{below_next, high_parts}
use Rattle.channel_plan.proofs.planning.crowded.Goals as goal

pub returns-then-parts-gt2-clause-some : goal.returns-then-parts-gt2-clause-some
returns-then-parts-gt2-clause-some c = λ o table es is. record {
  here = sym (c.len-parts.ensures.value ∙ ap length (c.parts_of.ensures o table es is));
  more = search rules;
  least = c.loop-number.invariant.few o table es is;
}

pub loop-number-preserved : goal.loop-number-preserved
loop-number-preserved c = record {
  within = search rules;
  few = λ o table es is. below_next (HasFewParts o es) c.loop-number.number (c.loop-number.invariant.few o table es is)
      (subst (λ n. n ≤ 2) (c.len-parts.ensures.value ∙ ap length (c.parts_of.ensures o table es is)) (search rules));
}

pub returns-clause-none : goal.returns-clause-none
returns-clause-none c = λ o table es is z. elim (cases_lt z 256) [
  | inl low ↦ (let end = c.loop-number-test.false in c.loop-number.invariant.few o table es is z (omega (arith, low, end)))
  | inr high ↦ (let none = ap length (high_parts o table es c.args.survey.now z is high) in subst (λ n. n ≤ 2) (sym none) (omega arith))
]
