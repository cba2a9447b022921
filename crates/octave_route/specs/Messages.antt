-- How a message of octave tuning is written and read (MIDI Tuning Standard, scale/octave tuning, two-byte form, non real time).
use Rattle.std.specs.Prelude.{◌≡◌, ◌≤◌, ℕ, zero, suc, ◌+◌, ◌*◌, ◌/◌, ◌%◌, List, [], ◌∷◌, ◌++◌, length, Bool, if◌then◌else◌, Some}
use Rattle.std.specs.Option.{option_map}
use Rattle.std.specs.List.{flat_map, AllByRecursion}
use Rattle.retune_model.specs.Octave.{OctaveTuning, octave_of}

-- what two data bytes can say
abbrev pub IsOctaveValue : ℕ → Type 0
IsOctaveValue value = value ≤ 16383

-- high byte first
abbrev pub two_bytes : ℕ → List ℕ
two_bytes value = value / 128 ∷ value % 128 ∷ []

-- What follows F0, to all devices (7F). Of the three bytes of channels the last has bits 0 to 6, which are channels 1 to 7, the
-- second bits 7 to 13 and the first bits 14 and 15. Then the values of the classes from C on.
abbrev pub octave_bytes : ℕ → List ℕ → List ℕ
octave_bytes channels values =
    0x7e ∷ 0x7f ∷ 0x08 ∷ 0x09 ∷ channels / 16384 ∷ (channels / 128) % 128 ∷ channels % 128 ∷ (flat_map two_bytes values ++ 0xf7 ∷ [])

abbrev pub bit_of : Bool → ℕ
bit_of named = if named then 1 else 0

-- a set of so many channels as a number, whose lowest bit says whether the first one is in it
abbrev pub as_number : ℕ → (ℕ → Bool) → ℕ
as_number zero named = 0
as_number (suc n) named = bit_of (named 0) + 2 * as_number n (λ c. named (suc c))

-- what a message says, with its channels as a number
abbrev pub as_read : OctaveTuning → ℕ × List ℕ
as_read m = (as_number 16 m.channels, m.values)

-- for every set of channels, and all values of the twelve classes
abbrev pub WrittenIsRead : Type 0
WrittenIsRead = (channels : ℕ) (values : List ℕ) → channels ≤ 65535 → length values ≡ 12 → AllByRecursion IsOctaveValue values
    → option_map as_read (octave_of (octave_bytes channels values)) ≡ Some (channels, values)
