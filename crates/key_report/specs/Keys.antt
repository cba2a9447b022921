-- The keys in use, with what a device is told of each, and by how much that is too high (this project's own).
use Rattle.std.specs.Prelude.{ℕ, List, Bool, nat_eq, Option, Some, None, option_map, if◌then◌else◌, fold, filter_map}
use Rattle.std.specs.Int.{bit_at}
use Rattle.std.specs.List.{range_with_len}
use Rattle.retune_model.specs.Table.{Bounds}
use Rattle.key_report.specs.Errors.{errors_of, joined}
use Rattle.key_report.specs.Targets.{target_of, told_grains}
use Rattle.key_report.specs.declared.target.Target.{Target}
use Rattle.key_report.specs.declared.keys.KeyError.{KeyError}
use Rattle.key_report.specs.declared.range.ErrorRange.{ErrorRange}

-- a set of keys, as a number whose bit k is set where key k is in it
abbrev pub is_used : ℕ → ℕ → Bool
is_used keys k = nat_eq (bit_at keys k) 1

-- of a key with these bounds that has this target
abbrev pub error_of : Option ℕ → ℕ → Bounds → Target → KeyError
error_of range key b t = record { key = key; target = t; error = errors_of (told_grains range t) b.lo b.hi }

-- none where the key has no pitch or the device has none near it
abbrev pub error_if : Option ℕ → ℕ → Option Bounds → Option KeyError
error_if range key None = None
error_if range key (Some b) = option_map (error_of range key b) (target_of range b)

-- of a key, if it is used
abbrev pub used_error : Option ℕ → (ℕ → Option Bounds) → (ℕ → Bool) → ℕ → Option KeyError
used_error range table used key = if used key then error_if range key (table key) else None

-- of the used keys below one, ascending
unfoldable pub errors_below : Option ℕ → (ℕ → Option Bounds) → (ℕ → Bool) → ℕ → List KeyError
errors_below range table used end = filter_map (used_error range table used) (range_with_len 0 end)

-- of all used keys
abbrev pub key_errors : Option ℕ → (ℕ → Option Bounds) → (ℕ → Bool) → List KeyError
key_errors range table used = errors_below range table used 128

-- the least and the greatest of some errors and one more
abbrev pub with_error : Option ErrorRange → KeyError → Option ErrorRange
with_error None e = Some e.error
with_error (Some whole) e = Some (joined whole e.error)

-- from the least error of all to the greatest; none where there is no error
abbrev pub whole_error : List KeyError → Option ErrorRange
whole_error es = fold with_error None es
