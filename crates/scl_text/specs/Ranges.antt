-- What a scale keeps.
use Rattle.std.specs.Prelude.{ℕ, ◌<◌, ◌≤◌, ◌≡◌, ◌^◌, ℤ, pos, neg_ℤ, ◌≤ℤ◌, List, length, Some, slice_get}
use Rattle.scl_text.specs.declared.entry.Entry.{Entry}
use Rattle.scl_text.specs.declared.entry.Entry.TheVariants.{Ratio, Cents}

-- ratio numbers from 1 to 2 ^ 63 - 1
pub record IsRatio (num den : ℕ) : Type 0 where
  pub num_some : 1 ≤ num
  pub num_high : num < 2 ^ 63
  pub den_some : 1 ≤ den
  pub den_high : den < 2 ^ 63

-- billionths of a cent whose whole part is at most 1,000,000
pub record IsCents (nanocents : ℤ) : Type 0 where
  pub low : neg_ℤ (pos 1000000999999999) ≤ℤ nanocents
  pub high : nanocents ≤ℤ pos 1000000999999999

-- an entry of a scale
abbrev pub IsEntry : Entry → Type 0
IsEntry (Ratio num den) = IsRatio num den
IsEntry (Cents nanocents) = IsCents nanocents

-- Of 1 to 4,096 entries, each is in its range.
pub record IsInRange (entries : List Entry) : Type 0 where
  pub some : 1 ≤ length entries
  pub few : length entries ≤ 4096
  pub ratios : (k num den : ℕ) → slice_get entries k ≡ Some (Ratio num den) → IsRatio num den
  pub cents : (k : ℕ) (nanocents : ℤ) → slice_get entries k ≡ Some (Cents nanocents) → IsCents nanocents
