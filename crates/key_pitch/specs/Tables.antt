-- What a table of brackets keeps, and the targets that it gives (this project's own).
use Rattle.std.specs.Prelude.{◌≤◌, ℕ, ℤ, pos, neg_ℤ, ◌^◌, ◌-ℤ◌, ◌≤ℤ◌, List, get_or, Option, Some, None}
use Rattle.mt_base.specs.declared.Bracket.{Bracket}
use Rattle.scl_text.specs.declared.entry.Entry.{Entry}
use Rattle.kbm_text.specs.Map.{KeyMap}
use Rattle.retune_model.specs.Scale.{term_count, ratios_of_key, scale_pitch}
use Rattle.retune_model.specs.Table.{Bound}
use Rattle.key_pitch.specs.Views.{bounds_if}

abbrev pub low_end : Option Bracket → ℤ
low_end None = pos 0
low_end (Some b) = b.lo.0

abbrev pub high_end : Option Bracket → ℤ
high_end None = pos 0
high_end (Some b) = b.hi.0

-- no further than 2 ^ 90 grains from key 0, the ends in order and at most a thousandth of a cent apart
pub record IsNarrow (p : Option Bracket) : Type 0 where
  pub low : neg_ℤ (pos (2 ^ 90)) ≤ℤ low_end p
  pub order : low_end p ≤ℤ high_end p
  pub high : high_end p ≤ℤ pos (2 ^ 90)
  pub narrow : (high_end p -ℤ low_end p) ≤ℤ pos 32000000

pub record AreNarrow (pitches : List (Option Bracket)) : Type 0 where
  pub each : (k : ℕ) → IsNarrow (get_or pitches k None)

-- the bounds of a key's pitch, of few enough ratios
pub record IsKeyBound (scale : List Entry) (m : KeyMap) (key : ℕ) (p : Option Bracket) : Type 0 where
  pub bound : Bound (term_count scale m key) (ratios_of_key scale m key) (scale_pitch scale m key) (bounds_if p)
  pub few : term_count scale m key ≤ 1700
  pub narrow : IsNarrow p
