use Rattle.std.proofs.Common.{◌≡◌, ◌<◌, ◌∙◌, ap, subst, get_or, arith, rules, length, None, w32}
use Rattle.std.specs.Prelude.{vec_len}
use Rattle.std.proofs.lemmas.Int.{ints, to_z-of_z}
use Rattle.std.proofs.lemmas.Option.{get_or_from_slice_get}
use Rattle.kbm_text.specs.Map.{KeyMap}
use Rattle.key_pitch.proofs.Steps.{element}
use Rattle.key_pitch.proofs.Placed.{mapped_sums}
use Rattle.key_pitch.proofs.keys.above_middle.Goals as goal

pub returns-clause-sum : goal.returns-clause-sum
returns-clause-sum c =
    let items : vec_len c.mapping.inside.entries ≡ length c.mapping.inside.entries.items = search rules in
    let below = c.divided-turns.ensures.below in
    let rest = c.divided-turns.ensures.rest in
    let size = c.len-size.ensures in
    let within : c.divided-turns.result.1 < length c.mapping.inside.entries.items = omega (arith, below, rest, size, items) in
    mapped_sums c.args.scale.now c.args.mapping.now c.args.key c.len-size.result _ _ c.divided-turns.result.1 c.index.result.now c.mapped.result
    c.mapped.ensures.sum
    (to_z-of_z w32 c.divided-turns.result.0 (search rules) ∙ c.divided-turns.ensures.quotient)
    rest
    (size ∙ items ∙ ap (λ (m : KeyMap). length m.entries) c.mapping.view_is)
    (omega (arith, c.if-size-eq0.false))
    (omega (arith, ints, ap (λ (m : KeyMap). m.middle) c.mapping.view_is))
    (subst (λ (m : KeyMap). get_or m.entries c.divided-turns.result.1 None ≡ c.index.result.now) c.mapping.view_is
    (get_or_from_slice_get c.mapping.inside.entries.items c.divided-turns.result.1 c.index.result.now None (element c.mapping.inside.entries.items c.divided-turns.result.1 c.index.result.now within c.index.ensures)))
