-- Numbers in decimal.
use Rattle.std.specs.Prelude.{ℕ, ◌+◌, ◌*◌, ◌-◌, ◌^◌, nat_le, List, [], ◌∷◌, length, take, Option, Some, None, if◌then◌else◌}

-- what digits say behind others that say a number
abbrev pub value_from : ℕ → List ℕ → ℕ
value_from before [] = before
value_from before (d ∷ ds) = value_from (before * 10 + (d - 48)) ds

-- what digits say
abbrev pub value : List ℕ → ℕ
value digits = value_from 0 digits

-- a number that isn't above the limit
abbrev pub within : ℕ → ℕ → Option ℕ
within limit n = if nat_le n limit then Some n else None

-- what the digits behind a period say in billionths: the first nine count
abbrev pub billionths : List ℕ → ℕ
billionths digits = value (take 9 digits) * 10 ^ (9 - length digits)
