use Rattle.std.proofs.Common.{◌+◌, arith, sym, ◌∙◌}
use Rattle.log_bracket.proofs.Leading.{same_mantissa}
use Rattle.log_bracket.proofs.Bounds.{digits_least, digits_most, equal_least, equal_most, octaves_only, octaves_down_only, apart, small_down, small_up, ordered, not_low, not_high}
use Rattle.log_bracket.proofs.log2_grains.Goals as goal

pub returns-then-above-below-clause-least : goal.returns-then-above-below-clause-least
returns-then-above-below-clause-least c =
    equal_least c.powers.ensures.of_power c.args.a c.args.b c.of-above.result.mantissa c.of-above.result.shift c.of-below.result.shift c.placed-octaves.result.0
    c.of-above.ensures.value (c.if-above-below.true ∙ c.of-below.ensures.value) c.placed-octaves.ensures

pub returns-then-above-below-clause-most : goal.returns-then-above-below-clause-most
returns-then-above-below-clause-most c =
    equal_most c.powers.ensures.of_power c.args.a c.args.b c.of-above.result.mantissa c.of-above.result.shift c.of-below.result.shift c.placed-octaves.result.0
    c.of-above.ensures.value (c.if-above-below.true ∙ c.of-below.ensures.value) c.placed-octaves.ensures

pub returns-then-above-below-clause-exact_up : goal.returns-then-above-below-clause-exact_up
returns-then-above-below-clause-exact_up c = λ j is.
    let e = octaves_only c.ends.ensures.in_order c.octaves.ensures.least c.octaves.ensures.most c.args.a c.args.b j c.placed-octaves.result.0 c.requires.a_above c.requires.b_above is
    (returns-then-above-below-clause-least c) (returns-then-above-below-clause-most c) in
    (e, e)

pub returns-then-above-below-clause-exact_down : goal.returns-then-above-below-clause-exact_down
returns-then-above-below-clause-exact_down c = λ j is.
    let e = octaves_down_only c.ends.ensures.in_order c.octaves.ensures.least_down c.octaves.ensures.most_down c.args.a c.args.b j c.placed-octaves.result.0 c.requires.a_above c.requires.b_above is
    (returns-then-above-below-clause-least c) (returns-then-above-below-clause-most c) in
    (e, e)

pub placed-lo-requires-clause-grains : goal.placed-lo-requires-clause-grains
placed-lo-requires-clause-grains c = small_down c.grains_down.result c.binary_digits-digits.result c.binary_digits-digits.ensures.below c.grains_down.ensures.low

pub placed-hi-requires-clause-grains : goal.placed-hi-requires-clause-grains
placed-hi-requires-clause-grains c = small_up c.grains_up.result c.binary_digits-digits.result c.binary_digits-digits.ensures.below c.grains_up.ensures.high

pub returns-clause-least : goal.returns-clause-least
returns-clause-least c =
    digits_least c.powers.ensures.of_power c.powers.ensures.tell c.args.a c.args.b c.of-above.result.mantissa c.of-below.result.mantissa c.of-above.result.shift c.of-below.result.shift
    c.of-start.result.doublings c.grains_down.result c.binary_digits-digits.result c.placed-lo.result.0 c.of-above.ensures.value c.of-below.ensures.value
    (c.binary_digits-digits.ensures.digits _ _ (record { low = c.of-start.ensures.low; high = c.of-start.ensures.high }))
    c.grains_down.ensures.low c.placed-lo.ensures

pub returns-clause-most : goal.returns-clause-most
returns-clause-most c =
    digits_most c.powers.ensures.of_power c.powers.ensures.tell c.args.a c.args.b c.of-above.result.mantissa c.of-below.result.mantissa c.of-above.result.shift c.of-below.result.shift
    c.of-start.result.doublings c.grains_up.result c.binary_digits-digits.result c.placed-hi.result.0 c.of-above.ensures.value c.of-below.ensures.value
    (c.binary_digits-digits.ensures.digits _ _ (record { low = c.of-start.ensures.low; high = c.of-start.ensures.high }))
    c.grains_up.ensures.low c.placed-hi.ensures

pub returns-clause-width : goal.returns-clause-width
returns-clause-width c =
    apart c.grains_down.result c.grains_up.result (c.of-above.result.shift + c.of-start.result.doublings) c.of-below.result.shift c.binary_digits-digits.result
    c.placed-lo.result.0 c.placed-hi.result.0 c.grains_down.ensures.high c.grains_up.ensures.high c.placed-lo.ensures c.placed-hi.ensures

pub returns-clause-exact_up : goal.returns-clause-exact_up
returns-clause-exact_up c = λ j is.
    absurd (c.if-above-below.false (same_mantissa c.args.a c.args.b j c.of-above.result.shift c.of-below.result.shift c.of-above.result.mantissa c.of-below.result.mantissa
    c.of-above.ensures.value c.of-below.ensures.value c.of-above.ensures.top (omega arith) c.of-below.ensures.top (omega arith) is))

pub returns-clause-exact_down : goal.returns-clause-exact_down
returns-clause-exact_down c = λ j is.
    absurd (c.if-above-below.false (sym (same_mantissa c.args.b c.args.a j c.of-below.result.shift c.of-above.result.shift c.of-below.result.mantissa c.of-above.result.mantissa
    c.of-below.ensures.value c.of-above.ensures.value c.of-below.ensures.top (omega arith) c.of-above.ensures.top (omega arith) is)))

pub returns-then-above-below-clause-lowest : goal.returns-then-above-below-clause-lowest
returns-then-above-below-clause-lowest c =
    not_low 0 c.of-above.result.shift c.of-below.result.shift c.placed-octaves.result.0 (omega (arith, c.of-above.ensures.shift)) c.placed-octaves.ensures

pub returns-then-above-below-clause-highest : goal.returns-then-above-below-clause-highest
returns-then-above-below-clause-highest c =
    not_high 0 c.of-above.result.shift c.of-below.result.shift c.placed-octaves.result.0 (omega arith) c.of-below.ensures.shift c.placed-octaves.ensures

pub returns-clause-order : goal.returns-clause-order
returns-clause-order c =
    ordered c.grains_down.result c.grains_up.result (c.of-above.result.shift + c.of-start.result.doublings) c.of-below.result.shift c.binary_digits-digits.result
    c.placed-lo.result.0 c.placed-hi.result.0 c.grains_down.ensures.low c.grains_up.ensures.low c.placed-lo.ensures c.placed-hi.ensures

pub returns-clause-lowest : goal.returns-clause-lowest
returns-clause-lowest c =
    not_low c.grains_down.result (c.of-above.result.shift + c.of-start.result.doublings) c.of-below.result.shift c.placed-lo.result.0
    (omega (arith, c.of-above.ensures.shift, c.of-start.ensures.doublings)) c.placed-lo.ensures

pub returns-clause-highest : goal.returns-clause-highest
returns-clause-highest c =
    not_high c.grains_up.result (c.of-above.result.shift + c.of-start.result.doublings) c.of-below.result.shift c.placed-hi.result.0
    (small_up c.grains_up.result c.binary_digits-digits.result c.binary_digits-digits.ensures.below c.grains_up.ensures.high) c.of-below.ensures.shift c.placed-hi.ensures
