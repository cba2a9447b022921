-- What a mapping keeps.
use Rattle.std.specs.Prelude.{ℕ, ◌≤◌, ◌≡◌, Some, length, slice_get}
use Rattle.kbm_text.specs.Map.{KeyMap}

-- keys of at most 127, the last at least the first; a frequency from a billionth of a hertz to 1,000,000 Hz; degrees of at
-- most 16,383; at most 4,096 entries
pub record IsInRange (m : KeyMap) : Type 0 where
  pub in_order : m.first ≤ m.last
  pub last : m.last ≤ 127
  pub middle : m.middle ≤ 127
  pub reference : m.reference ≤ 127
  pub sounds : 1 ≤ m.nanohertz
  pub frequency : m.nanohertz ≤ 1000000000000000
  pub octave : m.octave ≤ 16383
  pub few : length m.entries ≤ 4096
  pub degrees : (k degree : ℕ) → slice_get m.entries k ≡ Some (Some degree) → degree ≤ 16383
