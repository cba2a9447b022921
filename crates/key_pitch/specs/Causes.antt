-- Why a scale and a mapping give no table (this project's own).
use Rattle.std.specs.Prelude.{ℕ, ◌≡◌, ◌≢◌, ◌<◌, ◌≤◌, List, None}
use Rattle.key_pitch.specs.declared.fault.TuneFault.{TuneFault}
use Rattle.key_pitch.specs.declared.fault.TuneFault.TheVariants.{ReferenceUnmapped, TooManyPeriods}
use Rattle.scl_text.specs.declared.entry.Entry.{Entry}
use Rattle.kbm_text.specs.Map.{KeyMap}
use Rattle.retune_model.specs.Scale.{above_middle, term_count}

-- The reference key is left out of the map; or it isn't, and the key is the least one that has more than 1,700 terms.
abbrev pub Refuses : List Entry → KeyMap → TuneFault → Type 0
Refuses scale m (ReferenceUnmapped key) = (key ≡ m.reference) × (above_middle scale m m.reference ≡ None)
Refuses scale m (TooManyPeriods key) = (above_middle scale m m.reference ≢ None) × (key ≤ 127) × (1700 < term_count scale m key) × ((k : ℕ) → k < key → term_count scale m k ≤ 1700)
