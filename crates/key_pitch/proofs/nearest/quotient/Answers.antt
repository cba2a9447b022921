use Rattle.std.proofs.Common.{rules, ◌∙◌, ap, to_z, of_z}
use Rattle.std.specs.Int.{int_div_euclid, w128}
use Rattle.std.proofs.lemmas.Int.{to_z-of_z}
use Rattle.key_pitch.proofs.nearest.quotient.Goals as goal

pub returns : goal.returns
returns c = λ y d e f.
    to_z-of_z w128 c.div_euclid.result (search rules) ∙ c.div_euclid.ensures ∙ ap (λ z. int_div_euclid z (to_z w128 (of_z w128 c.args.divisor))) (to_z-of_z w128 c.args.number c.ranges.number ∙ e) ∙ ap (λ z. int_div_euclid y z) (to_z-of_z w128 c.args.divisor c.ranges.divisor ∙ f)
