-- What the program's state of a channel keeps, as tests that compute: the order of parameters, and bytes of seven bits.
use Rattle.std.specs.Prelude.{ℕ, suc, List, [], ◌∷◌, Bool, true, not, ◌&&◌, ◌||◌, nat_eq, nat_lt}
use Rattle.midi_model.specs.Params.{Entry, counts, rank, pair_eq, default_value}
use Rattle.midi_model.specs.WellFormed.{is_stored, is_settable}

abbrev pub is_above : ℕ → List Entry → Bool
is_above n [] = true
is_above n (e ∷ es) = nat_lt n (rank e.parameter) && is_above n es

-- in order, each number once, no default
abbrev pub is_canonical : List Entry → Bool
is_canonical [] = true
is_canonical (e ∷ es) = not (pair_eq e.value (default_value e.parameter)) && (is_above (rank e.parameter) es && is_canonical es)

-- whether its value has bytes of seven bits
abbrev pub is_low_value : Entry → Bool
is_low_value e = nat_lt e.value.0 128 && nat_lt e.value.1 128

-- whether data entry can make it: of a parameter that has a value, with a number and a value of bytes of seven bits
abbrev pub is_entered : Entry → Bool
is_entered e = is_settable e.parameter && ((nat_lt e.parameter.high 128 && nat_lt e.parameter.low 128) && is_low_value e)

-- whether it is one of those that count for the limit of 16
abbrev pub is_other : Entry → Bool
is_other e = counts e && is_entered e

-- whether all are of seven bits
abbrev pub are_low : List ℕ → Bool
are_low [] = true
are_low (x ∷ xs) = nat_lt x 128 && are_low xs

abbrev pub are_low_pairs : List (ℕ × ℕ) → Bool
are_low_pairs [] = true
are_low_pairs (p ∷ ps) = (nat_lt p.0 128 && nat_lt p.1 128) && are_low_pairs ps

-- whether all controllers but those that a channel keeps a value of are 0, where the first of the list has number n
abbrev pub only_stored : ℕ → List ℕ → Bool
only_stored n [] = true
only_stored n (x ∷ xs) = (is_stored n || nat_eq x 0) && only_stored (suc n) xs

-- the ranks of the parameters that are kept apart: RPN 0, 1, 2 and 5
abbrev pub is_apart : ℕ → Bool
is_apart r = nat_eq r 0 || nat_eq r 1 || nat_eq r 2 || nat_eq r 5

abbrev pub are_others : List Entry → Bool
are_others [] = true
are_others (e ∷ es) = is_other e && are_others es
