-- By how much a target is higher than the pitch that is meant, in thousandths of a cent (this project's own).
use Rattle.std.specs.Prelude.{ℕ, ℤ, pos, ◌-ℤ◌, neg_ℤ}
use Rattle.std.specs.Int.{int_div_euclid, int_min, int_max}
use Rattle.key_report.specs.declared.range.ErrorRange.{ErrorRange}

-- in grains
abbrev pub thousandth_of_a_cent : ℕ
thousandth_of_a_cent = 32000000

-- grains in whole thousandths of a cent, rounded down and rounded up
abbrev pub rounded_down : ℤ → ℤ
rounded_down n = int_div_euclid n (pos thousandth_of_a_cent)

abbrev pub rounded_up : ℤ → ℤ
rounded_up n = neg_ℤ (rounded_down (neg_ℤ n))

-- The ends of the error of a target, where the pitch that is meant is from lo to hi, all in grains. Both are rounded outward.
abbrev pub least_error : ℤ → ℤ → ℤ
least_error target hi = rounded_down (target -ℤ hi)

abbrev pub greatest_error : ℤ → ℤ → ℤ
greatest_error target lo = rounded_up (target -ℤ lo)

-- the errors of a target where the pitch that is meant is from lo to hi
abbrev pub errors_of : ℤ → ℤ → ℤ → ErrorRange
errors_of target lo hi = record { least = least_error target hi; greatest = greatest_error target lo }

-- from the least of both to the greatest of both
abbrev pub joined : ErrorRange → ErrorRange → ErrorRange
joined a b = record { least = int_min a.least b.least; greatest = int_max a.greatest b.greatest }
