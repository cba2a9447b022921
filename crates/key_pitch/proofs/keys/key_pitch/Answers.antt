use Rattle.std.proofs.Common.{◌≡◌, ◌^◌, arith, subst, [], ◌∷◌, true, false, ◌<◌}
use Rattle.std.proofs.lemmas.Int.{ints}
use Rattle.mt_base.specs.Pitch.{exactly}
use Rattle.retune_model.specs.Scale.{is_mapped_range, reference_pitch}
use Rattle.kbm_text.specs.Map.{KeyMap}
use Rattle.kbm_text.specs.Views.{key_map}
use Rattle.key_pitch.specs.Sums.{Sums}
use Rattle.key_pitch.proofs.Placed.{some_pitch, no_pitch, key_sums, key_left_out, key_outside, inside, outside_low, outside_high}
use Rattle.key_pitch.proofs.Sums.{smaller}
use Rattle.key_pitch.proofs.keys.key_pitch.Goals as goal
use Rattle.key_pitch.proofs.keys.key_pitch.Goals.{then-key-mapping-via-then-key-mapping, then-key-mapping-via-else-key-mapping+then-mapping-key}

pub returns-then-key-mapping-clause-sum : goal.returns-then-key-mapping-clause-sum
returns-then-key-mapping-clause-sum c =
    let out : is_mapped_range c.args.mapping.now c.args.key ≡ false =
    elim c.then-key-mapping.branch [ then-key-mapping-via-then-key-mapping w ↦ outside_low c.args.mapping.now c.args.key (subst (λ (m : KeyMap). c.args.key < m.first) c.mapping.view_is w.if-key-mapping.true) | then-key-mapping-via-else-key-mapping+then-mapping-key w ↦ outside_high c.args.mapping.now c.args.key (subst (λ (m : KeyMap). m.last < c.args.key) c.mapping.view_is w.if-mapping-key.true) ] in
    key_outside c.args.scale.now c.args.mapping.now c.args.key c.grains.result out
    (subst (λ z. Sums (exactly z) 0 [] c.grains.result) (omega (arith, ints)) c.grains.ensures.sum)

pub returns-in_default-clause-sum : goal.returns-in_default-clause-sum
returns-in_default-clause-sum c =
    key_left_out c.args.scale.now c.args.mapping.now c.args.key
    (subst (λ (m : KeyMap). is_mapped_range m c.args.key ≡ true) c.mapping.view_is (inside (key_map c.mapping.inside) c.args.key c.if-key-mapping.false c.if-mapping-key.false))
    (no_pitch _ _ _ c.in_default.ensures.sum)

pub minus-requires-clause-small : goal.minus-requires-clause-small
minus-requires-clause-small c =
    smaller _ (2 ^ 100) _ (2 ^ 30) c.plus.result (c.plus.ensures.small _ _ _ _ c.reference.ensures.small c.in-Some.ensures.small) (omega arith) (omega arith)

pub returns-clause-sum : goal.returns-clause-sum
returns-clause-sum c =
    let reference : Sums (reference_pitch c.args.mapping.now) 1 ((c.args.mapping.now.nanohertz, 440000000000) ∷ []) c.reference.result =
    subst (λ (m : KeyMap). Sums (reference_pitch m) 1 ((m.nanohertz, 440000000000) ∷ []) c.reference.result) c.mapping.view_is c.reference.ensures.sum in
    let u = some_pitch _ _ _ c.in-Some.above c.in-Some.ensures.sum in
    let r = some_pitch _ _ _ c.args.tuned c.requires.tuned in
    key_sums c.args.scale.now c.args.mapping.now c.args.key u.0 r.0 c.minus.result
    (subst (λ (m : KeyMap). is_mapped_range m c.args.key ≡ true) c.mapping.view_is (inside (key_map c.mapping.inside) c.args.key c.if-key-mapping.false c.if-mapping-key.false)) u.1 r.1
    (c.minus.ensures.sum _ _ _ _ _ _ (c.plus.ensures.sum _ _ _ _ _ _ reference u.2) r.2)

pub returns-clause-small : goal.returns-clause-small
returns-clause-small c =
    smaller _ (2 ^ 90) _ (2 ^ 24) c.minus.result
    (c.minus.ensures.small _ _ _ _ (c.plus.ensures.small _ _ _ _ c.reference.ensures.small c.in-Some.ensures.small) c.requires.small) (omega arith) (omega arith)
