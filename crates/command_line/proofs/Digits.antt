-- The number of a text that is a numeral within bounds.
use Rattle.std.proofs.Common.{◌≡◌, ◌≤◌, ◌+◌, ◌*◌, ◌-◌, ◌∙◌, ℕ, List, [], ◌∷◌, Bool, true, false, cond, ◌==◌, drop, refl, sym, ap, subst, arith}
use Rattle.std.specs.Prelude.{min}
use Rattle.std.specs.Char.{digit_value}
use Rattle.std.specs.Str.Parse.{AllDigits, digits_value, digits_value_after, without_leading_plus}
use Rattle.std.proofs.lemmas.Bool.{eqb-true}
use Rattle.std.proofs.lemmas.Str.{digit_value_digit}
use Rattle.std.proofs.lemmas.Str.Parse.{digit_from_value}
use Rattle.std.proofs.Math.Nat.{min-eq_right, max-eq_right}
use Rattle.command_line.specs.Words.{number_from}
use Rattle.command_line.specs.NumberLaws.{NumbersAreRead}

grows : (n : ℕ) (ds : List ℕ) → n ≤ digits_value_after 10 n ds
grows n [] = omega arith
grows n (d ∷ ds) = let more = grows (n * 10 + digit_value d) ds in omega (arith, more)

digits_count : (high n : ℕ) (ds : List ℕ) → AllDigits 10 ds → digits_value_after 10 n ds ≤ high → number_from high n ds ≡ digits_value_after 10 n ds
unfolding number_from
digits_count high n [] all low = refl
digits_count high n (d ∷ ds) all low =
    let same : 10 * n + (d - 48) ≡ n * 10 + digit_value d = omega (arith, digit_value_digit d (digit_from_value d all.0)) in
    let few : n * 10 + digit_value d ≤ high = (let more = grows (n * 10 + digit_value d) ds in omega (arith, more, low)) in
    ap (λ m. number_from high (min high m) ds) same
    ∙ ap (λ m. number_from high m ds) (min-eq_right few)
    ∙ digits_count high (n * 10 + digit_value d) ds all.1 low

plus_counts_nothing : (high : ℕ) (ds : List ℕ) → number_from high 0 (43 ∷ ds) ≡ number_from high 0 ds
unfolding number_from
plus_counts_nothing high ds = ap (λ m. number_from high m ds) (min-eq_right (let n : 0 ≤ high = omega arith in n))

without_plus : (high : ℕ) (text : List ℕ) → number_from high 0 text ≡ number_from high 0 (without_leading_plus text)
without_plus high [] = refl
without_plus high (b ∷ bs) = pick (b == 43) refl
  where
    pick : (x : Bool) → (b == 43) ≡ x → number_from high 0 (b ∷ bs) ≡ number_from high 0 (drop (cond x 1 0) (b ∷ bs))
    pick true e = ap (λ c. number_from high 0 (c ∷ bs)) (eqb-true b 43 e) ∙ plus_counts_nothing high bs
    pick false e = refl

pub numbers_are_read : NumbersAreRead
numbers_are_read low high text is =
    let at_least = is.2 in
    let digits = without_leading_plus text in
    let same : number_from high 0 text ≡ digits_value 10 digits = without_plus high text ∙ digits_count high 0 digits is.0.1 is.3 in
    max-eq_right (subst (λ v. low ≤ v) (sym same) at_least) ∙ same
