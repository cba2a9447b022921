-- The values of the twelve classes of keys (MIDI Tuning Standard, two-byte form of octave tuning: 8192 leaves a class at its
-- equal-tempered pitch, and a step is 1/8192 semitone; which value a class has is this project's own).
use Rattle.std.specs.Prelude.{◌≡◌, ◌≢◌, ℕ, ◌%◌, ◌<◌, ◌≤◌, ℤ, pos, negsuc, ◌+ℤ◌, ◌-ℤ◌, ◌*ℤ◌, List, Bool, true, false, ◌&&◌, nat_eq, nat_le, Option, None, find, slice_index}
use Rattle.std.specs.Int.{bit_at, int_div_euclid}
use Rattle.std.specs.List.{range_with_len}
use Rattle.std.specs.Option.{option_map_or}
use Rattle.retune_model.specs.Scale.{size_of}
use Rattle.retune_model.specs.Table.{Bounds}
use Rattle.octave_route.specs.declared.fitting.OctaveFault.{OctaveFault}
use Rattle.octave_route.specs.declared.fitting.OctaveFault.TheVariants.{Out, Unfit}

-- whether a set of keys, as a number with a bit for each key, has this one
abbrev pub is_used : ℕ → ℕ → Bool
is_used used key = nat_eq (bit_at used key) 1

-- each used key has a pitch
abbrev pub AreMapped : (ℕ → Option Bounds) → ℕ → Type 0
AreMapped table used = (key : ℕ) → key ≤ 127 → is_used used key ≡ true → table key ≢ None

-- the nearest step to a pitch, 8192 being the equal-tempered pitch of the key: 390,625,000 grains are a step
abbrev pub nearest_value : ℕ → ℤ → ℤ
nearest_value key lo = pos 8192 +ℤ int_div_euclid ((lo -ℤ pos key *ℤ pos 3200000000000) +ℤ pos 195312500) (pos 390625000)

-- a key's own value, from the lower end of its bounds (that of a key without a pitch is never asked for)
abbrev pub own_value : (ℕ → Option Bounds) → ℕ → ℤ
own_value table key = option_map_or (λ b. nearest_value key b.lo) (table key) (pos 8192)

-- whether a key is of a class, and used
abbrev pub is_of_class : ℕ → ℕ → ℕ → Bool
is_of_class used class key = nat_eq (key % 12) class && is_used used key

-- the least used key of a class
unfoldable pub least_used : ℕ → ℕ → Option ℕ
least_used used class = find (is_of_class used class) (range_with_len 0 128)

-- The same as a relation: a used key of the class, below which none of the class is used.
pub record IsLeastUsed (used class key : ℕ) : Type 0 where
  pub high : key ≤ 127
  pub of_class : key % 12 ≡ class
  pub wanted : is_used used key ≡ true
  pub least : (k : ℕ) → k < key → k % 12 ≡ class → is_used used k ≡ false

-- the value of a class is the own value of its least used key, and 8192 where none is used
abbrev pub class_value : (ℕ → Option Bounds) → ℕ → ℕ → ℤ
class_value table used class = option_map_or (own_value table) (least_used used class) (pos 8192)

-- what two data bytes can say
abbrev pub is_value : ℤ → Bool
is_value (pos n) = nat_le n 16383
is_value (negsuc n) = false

-- how far a key's own value is from that of its class
abbrev pub distance : (ℕ → Option Bounds) → ℕ → ℕ → ℕ
distance table used key = size_of (own_value table key -ℤ class_value table used (key % 12))

-- the class serves the key: its own value can be said, and is at most 1 away
pub record FitsClass (table : ℕ → Option Bounds) (used key : ℕ) : Type 0 where
  pub value : is_value (own_value table key) ≡ true
  pub near : distance table used key ≤ 1

-- all used keys below this one fit
abbrev pub FitBelow : (ℕ → Option Bounds) → ℕ → ℕ → Type 0
FitBelow table used end = (key : ℕ) → key < end → is_used used key ≡ true → FitsClass table used key

-- why a key doesn't fit
abbrev pub IsUnfit : (ℕ → Option Bounds) → ℕ → OctaveFault → Type 0
IsUnfit table used (Out key) = is_value (own_value table key) ≡ false
IsUnfit table used (Unfit key) = (is_value (own_value table key) ≡ true) × (1 < distance table used key)

abbrev pub key_of : OctaveFault → ℕ
key_of (Out key) = key
key_of (Unfit key) = key

-- the first used key that doesn't fit, and why
pub record Refuses (table : ℕ → Option Bounds) (used : ℕ) (fault : OctaveFault) : Type 0 where
  pub high : key_of fault ≤ 127
  pub wanted : is_used used (key_of fault) ≡ true
  pub before : FitBelow table used (key_of fault)
  pub cause : IsUnfit table used fault

-- the value of each class
pub record AreClassValues (table : ℕ → Option Bounds) (used : ℕ) (values : List ℕ) : Type 0 where
  pub each : (class : ℕ) → class < 12 → pos (slice_index values class) ≡ class_value table used class
