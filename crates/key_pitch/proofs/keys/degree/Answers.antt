use Rattle.std.proofs.Common.{◌≡◌, ◌^◌, arith, rules, ◌∙◌, ap, length, to_z, of_z, w32}
use Rattle.std.specs.Prelude.{vec_len}
use Rattle.std.proofs.lemmas.Int.{to_z-of_z}
use Rattle.retune_model.specs.Scale.{size_of, floor_div, floor_rem}
use Rattle.key_pitch.proofs.Steps.{degree_sums}
use Rattle.key_pitch.proofs.Sums.{smaller}
use Rattle.key_pitch.proofs.keys.degree.Goals as goal

pub plus-requires-clause-small : goal.plus-requires-clause-small
plus-requires-clause-small c =
    let d_fits = to_z-of_z w32 c.args.degree c.ranges.degree in
    let q_fits = to_z-of_z w32 c.divided-periods.result.0 (search rules) in
    let near = c.divided-periods.ensures.near in
    let same = ap size_of (q_fits ∙ c.divided-periods.ensures.quotient) in
    let at_most = ap size_of d_fits in
    smaller _ (2 ^ 100) _ (2 ^ 30) c.repeated.result (c.repeated.ensures.small _ _ c.step.ensures.small)
    (omega (arith, near, same, at_most, c.requires.near)) (omega (arith, near, same, at_most, c.requires.near))

pub returns-clause-sum : goal.returns-clause-sum
returns-clause-sum c =
    let d_fits = to_z-of_z w32 c.args.degree c.ranges.degree in
    let q_fits = to_z-of_z w32 c.divided-periods.result.0 (search rules) in
    let items : vec_len c.scale.inside.entries ≡ length c.scale.inside.entries.items = search rules in
    degree_sums c.args.scale.now c.args.degree c.len-size.result (to_z w32 (of_z w32 c.divided-periods.result.0)) c.divided-periods.result.1 c.plus.result
    (c.len-size.ensures ∙ items ∙ ap length c.scale.view_is)
    (q_fits ∙ c.divided-periods.ensures.quotient ∙ ap (λ z. floor_div z c.len-size.result) d_fits)
    (c.divided-periods.ensures.rest ∙ ap (λ z. floor_rem z c.len-size.result) d_fits)
    (c.plus.ensures.sum _ _ _ _ _ _ (c.repeated.ensures.sum _ _ _ c.step.ensures.sum) c.step-2.ensures.sum)

pub returns-clause-small : goal.returns-clause-small
returns-clause-small c =
    let d_fits = to_z-of_z w32 c.args.degree c.ranges.degree in
    let q_fits = to_z-of_z w32 c.divided-periods.result.0 (search rules) in
    let near = c.divided-periods.ensures.near in
    let same = ap size_of (q_fits ∙ c.divided-periods.ensures.quotient) in
    let at_most = ap size_of d_fits in
    smaller _ (2 ^ 72) _ 16384 c.plus.result (c.plus.ensures.small _ _ _ _ (c.repeated.ensures.small _ _ c.step.ensures.small) c.step-2.ensures.small)
    (omega (arith, near, same, at_most, c.requires.near)) (omega (arith, near, same, at_most, c.requires.near))
