use Rattle.std.proofs.Common.{◌≡◌, true, pos, ◌-ℤ◌, to_z, of_z, arith, sym, ◌∙◌, ap}
use Rattle.std.specs.Int.{w128}
use Rattle.std.specs.Int.RustNames.{unsigned_abs}
use Rattle.std.proofs.lemmas.Int.{ints}
use Rattle.key_pitch.specs.Aims.{table_of}
use Rattle.octave_route.specs.Classes.{is_value}
use Rattle.octave_route.proofs.Fit.{fits, at_most_one}
use Rattle.octave_route.proofs.fitting.check.Goals as goal

pub returns-clause-fits : goal.returns-clause-fits
returns-clause-fits c = λ used.
    let own = c.own_value-own.result in
    let class = c.class_value.result in
    let same : to_z w128 (of_z w128 own) ≡ own = omega (arith, ints, c.own_value-own.ensures.low, c.own_value-own.ensures.high) in
    let less : to_z w128 (of_z w128 (to_z w128 (of_z w128 own) -ℤ to_z w128 (of_z w128 class))) ≡ own -ℤ class =
    omega (arith, ints, c.own_value-own.ensures.low, c.own_value-own.ensures.high, c.class_value.ensures.low, c.class_value.ensures.high) in
    let value : is_value own ≡ true = sym (ap is_value same) ∙ sym c.is_value.ensures ∙ c.if-not-is_value.false in
    let distance : c.abs.result ≡ pos (unsigned_abs (own -ℤ class)) = c.abs.ensures.value ∙ ap (λ z. pos (unsigned_abs z)) less in
    fits (table_of c.args.table.now) c.args.used c.args.key own class c.own_value-own.ensures.value c.class_value.ensures.value value
    (at_most_one c.abs.result (unsigned_abs (own -ℤ class)) distance (omega (arith, ints, distance, c.abs.type_inv)) c.if-abs-gt1.false)
