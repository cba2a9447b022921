use Rattle.std.proofs.Common.{◌≡◌, pos, ◌-ℤ◌, ◌+ℤ◌, true, w32, to_z, of_z, arith, rules, sym, ap, ◌∙◌}
use Rattle.std.proofs.lemmas.Int.{ints}
use Rattle.std.proofs.lemmas.Bool.{not-false}
use Rattle.retune_model.specs.Faults.{is_within_bend}
use Rattle.lifetimes.proofs.WithinBend.{second_found, second_none}
use Rattle.lifetimes.proofs.port_faults.least_beyond.Goals as goal

within : (c : goal.After-least) → is_within_bend (c.in-Some.steps +ℤ c.args.moved) ≡ true
within c =
    let low = c.requires.low in
    let high = c.requires.high in
    let same : to_z w32 (of_z w32 c.in-Some.steps) ≡ c.in-Some.steps = search rules in
    let moved : to_z w32 (of_z w32 c.args.moved) ≡ c.args.moved = omega (arith, ints, low, high) in
    ap (λ z. is_within_bend (z +ℤ c.args.moved)) (sym same)
    ∙ (ap (λ z. is_within_bend (to_z w32 (of_z w32 c.in-Some.steps) +ℤ z)) (sym moved)
    ∙ not-false (is_within_bend (to_z w32 (of_z w32 c.in-Some.steps) +ℤ to_z w32 (of_z w32 c.args.moved)))
    (sym c.is_beyond.ensures ∙ c.if-not-is_beyond.true))

from : (c : goal.After-least) → to_z w32 (of_z w32 (pos 8192 -ℤ to_z w32 (of_z w32 c.args.moved))) ≡ pos 8192 -ℤ c.args.moved
from c = let low = c.requires.low in let high = c.requires.high in omega (arith, ints, low, high)

pub returns-in-Some-clause-some : goal.returns-in-Some-clause-some
returns-in-Some-clause-some c = second_found _ c.args.moved c.in-Some.steps _ c.least.result c.in-Some.ensures.some (within c)
    (from c) c.least.ensures.some

pub returns-in-Some-clause-none : goal.returns-in-Some-clause-none
returns-in-Some-clause-none c = second_none _ c.args.moved c.in-Some.steps _ c.least.result c.in-Some.ensures.some (within c)
    (from c) c.least.ensures.none
