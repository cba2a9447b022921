use Rattle.std.proofs.Common.{◌^◌, arith, ap, w32}
use Rattle.std.proofs.lemmas.Int.{ints, to_z-of_z}
use Rattle.kbm_text.specs.Map.{KeyMap}
use Rattle.retune_model.specs.Scale.{size_of}
use Rattle.key_pitch.proofs.Placed.{entry_sums}
use Rattle.key_pitch.proofs.Sums.{smaller}
use Rattle.key_pitch.proofs.keys.mapped.Goals as goal

pub plus-requires-clause-small : goal.plus-requires-clause-small
plus-requires-clause-small c =
    let at_most = ap size_of (to_z-of_z w32 c.args.turns c.ranges.turns) in
    smaller _ (2 ^ 100) _ (2 ^ 30) c.repeated-octaves.result (c.repeated-octaves.ensures.small _ _ c.degree.ensures.small)
    (omega (arith, at_most, c.requires.near)) (omega (arith, at_most, c.requires.near))

pub returns-clause-sum : goal.returns-clause-sum
returns-clause-sum c =
    let octave = ap (λ (m : KeyMap). m.octave) c.mapping.view_is in
    entry_sums c.args.scale.now c.args.mapping.now c.args.turns _ _ _ c.in-Some.place c.args.entry c.plus.result
    (c.plus.ensures.sum _ _ _ _ _ _ (c.repeated-octaves.ensures.sum _ _ _ c.degree.ensures.sum) c.degree-2.ensures.sum)
    (to_z-of_z w32 c.args.turns c.ranges.turns) (omega (arith, ints, octave)) (omega (arith, ints)) c.in-Some.is

pub returns-clause-small : goal.returns-clause-small
returns-clause-small c =
    let at_most = ap size_of (to_z-of_z w32 c.args.turns c.ranges.turns) in
    smaller _ (2 ^ 80) _ (2 ^ 22) c.plus.result (c.plus.ensures.small _ _ _ _ (c.repeated-octaves.ensures.small _ _ c.degree.ensures.small) c.degree-2.ensures.small)
    (omega (arith, at_most, c.requires.near)) (omega (arith, at_most, c.requires.near))
