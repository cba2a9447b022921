-- Laws of errors: each is a sentence about the ends that are printed.
use Rattle.std.specs.Prelude.{ℕ, ◌+◌, ℤ, pos, neg_ℤ, ◌+ℤ◌, ◌*ℤ◌, ◌≤ℤ◌}
use Rattle.mt_base.specs.Pitch.{Pitch, AtLeast, AtMost, exactly, subtracted}
use Rattle.key_report.specs.Errors.{thousandth_of_a_cent, rounded_down, rounded_up, least_error, greatest_error}

-- so many thousandths of a cent, in grains
abbrev pub grains_of : ℤ → ℤ
grains_of m = m *ℤ pos thousandth_of_a_cent

-- rounding goes outward, by less than a thousandth of a cent
abbrev pub RoundsDown : Type 0
RoundsDown = (n : ℤ) → (grains_of (rounded_down n) ≤ℤ n) × ((n +ℤ pos 1) ≤ℤ (grains_of (rounded_down n) +ℤ pos thousandth_of_a_cent))

abbrev pub RoundsUp : Type 0
RoundsUp = (n : ℤ) → (n ≤ℤ grains_of (rounded_up n)) × ((grains_of (rounded_up n) +ℤ pos 1) ≤ℤ (n +ℤ pos thousandth_of_a_cent))

-- A target less the pitch that is meant is at least the least error, and at most the greatest one.
abbrev pub ErrorsHold : Type 0
ErrorsHold = (p : Pitch) (lo hi target : ℤ) → AtLeast p lo → AtMost p hi
    → AtLeast (subtracted (exactly target) p) (grains_of (least_error target hi))
    × AtMost (subtracted (exactly target) p) (grains_of (greatest_error target lo))

-- Where the target is at most so many grains from the lower end, and the ends at most a thousandth of a cent apart, both errors are
-- within the sum of these, rounded outward.
abbrev pub ErrorsAreNear : Type 0
ErrorsAreNear = (lo hi target : ℤ) (near : ℕ) → hi ≤ℤ (lo +ℤ pos thousandth_of_a_cent)
    → lo ≤ℤ (target +ℤ pos near) → target ≤ℤ (lo +ℤ pos near)
    → (neg_ℤ (rounded_up (pos (near + thousandth_of_a_cent))) ≤ℤ least_error target hi)
    × (greatest_error target lo ≤ℤ rounded_up (pos (near + thousandth_of_a_cent)))
