use Rattle.std.proofs.Common.{◌≡◌, ◌≤◌, ◌<◌, refl, arith, sym, ◌∙◌, length, inl, inr}
use Rattle.std.proofs.lemmas.Bool.{lt-ltb}
use Rattle.midi_model.specs.Params.{pair_eq, default_value}
use Rattle.receiver.specs.Params.{parameter_of}
use Rattle.receiver.proofs.Laws.{either}
use Rattle.receiver.proofs.Putting.{moved_found, moved_absent, length_found, length_default, length_other}
use Rattle.receiver.proofs.others.has_room.Goals as goal

pub returns-in-Ok : goal.returns-in-Ok
returns-in-Ok c =
    let os = c.args.others.now.items in
    let x = c.args.param in
    let f = moved_found _ os _ _ c.in-Ok.field-0 c.as_slice.ensures.value c.rank.ensures (c.in-Ok.ensures.found.0, c.in-Ok.ensures.found.1, c.in-Ok.ensures.before) in
    let n = length_found os c.in-Ok.field-0 (parameter_of x) x.value f.2 f.0 f.1 in
    let few : length os ≤ 16 = rw (sym c.as_slice.ensures.value) c.as_slice.ensures.fits in
    (λ t. omega (arith, n, few), λ t. refl)

pub returns-then-len-lt16 : goal.returns-then-len-lt16
returns-then-len-lt16 c =
    let os = c.args.others.now.items in
    let x = c.args.param in
    let f = moved_absent _ os _ _ c.in-Err.field-0 c.as_slice.ensures.value c.rank.ensures (c.in-Err.ensures.bound, c.in-Err.ensures.above, c.in-Err.ensures.below) in
    let few : length os < 16 = omega (arith, c.len.ensures.value, c.if-len-lt16.true) in (
      λ t. elim (either (pair_eq x.value (default_value (parameter_of x)))) [
        | inl d ↦ let n = length_default os c.in-Err.field-0 x f.2 f.0 f.1 d in omega (arith, n, few)
        | inr d ↦ let n = length_other os c.in-Err.field-0 x f.2 f.0 f.1 d in omega (arith, n, few)
      ],
      λ t. lt-ltb _ 16 c.if-len-lt16.true,
    )

pub returns-else-len-lt16 : goal.returns-else-len-lt16
returns-else-len-lt16 c =
    let os = c.args.others.now.items in
    let x = c.args.param in
    let f = moved_absent _ os _ _ c.in-Err.field-0 c.as_slice.ensures.value c.rank.ensures (c.in-Err.ensures.bound, c.in-Err.ensures.above, c.in-Err.ensures.below) in
    let full : length os ≡ 16 = omega (arith, c.len.ensures.value, c.if-len-lt16.false, c.len.ensures.fits) in (
      λ t. let n = length_default os c.in-Err.field-0 x f.2 f.0 f.1 (sym c.is_default.ensures ∙ t) in omega (arith, n, full),
      λ few. elim (either (pair_eq x.value (default_value (parameter_of x)))) [
        | inl d ↦ c.is_default.ensures ∙ d
        | inr d ↦ let n = length_other os c.in-Err.field-0 x f.2 f.0 f.1 d in absurd (omega (arith, n, full, few))
      ],
    )
