use Rattle.std.proofs.Common.{◌≡◌, ℤ, ◌-ℤ◌, rules, ◌∙◌, ap, to_z, of_z, arith}
use Rattle.std.specs.Int.{w32, w128}
use Rattle.std.proofs.lemmas.Int.{ints, to_z-of_z}
use Rattle.key_report.specs.Errors.{rounded_down, rounded_up, least_error, greatest_error}
use Rattle.key_report.specs.declared.range.ErrorRange.{ErrorRange}
use Rattle.key_report.proofs.range.ErrorRange.new.Goals as goal

both : (a b x y : ℤ) → a ≡ x → b ≡ y → ◌≡◌ {A = ErrorRange} (record { least = a; greatest = b }) (record { least = x; greatest = y })
both a b x y e f = ap (λ z. record { least = z; greatest = b }) e ∙ ap (λ z. record { least = x; greatest = z }) f

pub returns : goal.returns
returns c =
    let target = c.args.target in
    let lo = c.args.bracket.lo.0 in
    let hi = c.args.bracket.hi.0 in
    let a = c.requires.target_low in
    let b = c.requires.target_high in
    let d = c.requires.near_low in
    let e = c.requires.near_high in
    let f = c.requires.order in
    let g = c.requires.narrow in
    let from_hi : to_z w128 (of_z w128 (to_z w128 (of_z w128 target) -ℤ to_z w128 (of_z w128 hi))) ≡ target -ℤ hi =
    omega (arith, ints, a, b, d, e, f, g) in
    let from_lo : to_z w128 (of_z w128 (to_z w128 (of_z w128 target) -ℤ to_z w128 (of_z w128 lo))) ≡ target -ℤ lo = omega (arith, ints, a, b, d, e) in
    let least : to_z w32 (of_z w32 c.down.result) ≡ least_error target hi = to_z-of_z w32 c.down.result (search rules) ∙ c.down.ensures
    ∙ ap rounded_down from_hi in
    let greatest : to_z w32 (of_z w32 c.up.result) ≡ greatest_error target lo = to_z-of_z w32 c.up.result (search rules) ∙ c.up.ensures
    ∙ ap rounded_up from_lo in
    both (to_z w32 (of_z w32 c.down.result)) (to_z w32 (of_z w32 c.up.result)) (least_error target hi) (greatest_error target lo) least greatest
