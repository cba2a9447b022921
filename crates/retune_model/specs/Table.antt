-- Brackets of pitches, and the targets that are taken from their lower ends (this project's own).
use Rattle.std.specs.Prelude.{◌≡◌, ◌≤◌, ℕ, ◌*◌, ℤ, pos, negsuc, ◌+ℤ◌, ◌-ℤ◌, ◌*ℤ◌, ◌≤ℤ◌, List, Option, Some, None, nat_le, if◌then◌else◌}
use Rattle.std.specs.Int.{int_div_euclid}
use Rattle.std.specs.List.{AllByRecursion}
use Rattle.scl_text.specs.declared.entry.Entry.{Entry}
use Rattle.kbm_text.specs.Map.{KeyMap}
use Rattle.mt_base.specs.Pitch.{Pitch, AtLeast, AtMost}
use Rattle.retune_model.specs.Scale.{scale_pitch, term_count, ratios_of_key, IsOctaves}

-- The scale in force at each tick, and the mapping. A note has the pitch of the scale in force when it begins.
pub record Scaling : Type 0 where
  pub scale_at : ℕ → List Entry
  pub mapping : KeyMap

-- one scale throughout
abbrev pub one_scale : List Entry → KeyMap → Scaling
one_scale scale mapping = record { scale_at = λ t. scale; mapping = mapping }

-- the scale pitch of a key for a note that begins at this tick
abbrev pub pitch_at : Scaling → ℕ → ℕ → Option Pitch
pitch_at s key onset = scale_pitch (s.scale_at onset) s.mapping key

abbrev pub terms_at : Scaling → ℕ → ℕ → ℕ
terms_at s key onset = term_count (s.scale_at onset) s.mapping key

abbrev pub ratios_at_key : Scaling → ℕ → ℕ → List (ℕ × ℕ)
ratios_at_key s key onset = ratios_of_key (s.scale_at onset) s.mapping key

-- two whole numbers of grains, between which a pitch lies
pub record Bounds : Type 0 where
  pub lo : ℤ
  pub hi : ℤ

-- Bounds of a pitch that has so many terms: 18,000 grains a term, and none where all its ratios are whole octaves.
pub record AreBounds (p : Pitch) (terms : ℕ) (ratios : List (ℕ × ℕ)) (b : Bounds) : Type 0 where
  pub least : AtLeast p b.lo
  pub most : AtMost p b.hi
  pub narrow : b.hi ≤ℤ (b.lo +ℤ pos (18000 * terms))
  pub exact : AllByRecursion IsOctaves ratios → b.lo ≡ b.hi

-- no bounds where there is no pitch, and those of the pitch where there is one
abbrev pub Bound : ℕ → List (ℕ × ℕ) → Option Pitch → Option Bounds → Type 0
Bound terms ratios None None = Unit {0}
Bound terms ratios (Some p) (Some b) = AreBounds p terms ratios b
Bound terms ratios _ _ = ⊥

-- A table gives each key, for each tick at which a note may begin, bounds of its scale pitch.
pub record IsTable (s : Scaling) (table : ℕ → ℕ → Option Bounds) : Type 0 where
  pub bounds : (key onset : ℕ) → key ≤ 127 → Bound (terms_at s key onset) (ratios_at_key s key onset) (pitch_at s key onset) (table key onset)

-- A table gives a key the same bounds wherever the same scale is in force.
abbrev pub IsOnePerScale : Scaling → (ℕ → ℕ → Option Bounds) → Type 0
IsOnePerScale s table = (key a b : ℕ) → s.scale_at a ≡ s.scale_at b → table key a ≡ table key b

-- every key's pitch has at most 1,700 terms, so its bounds are at most a thousandth of a cent apart
abbrev pub AreFewTerms : Scaling → Type 0
AreFewTerms s = (key onset : ℕ) → key ≤ 127 → terms_at s key onset ≤ 1700

-- ---- targets, as functions of the lower end

-- a number from 0 to the greatest
abbrev pub up_to : ℕ → ℤ → Option ℕ
up_to most (pos n) = if nat_le n most then Some n else None
up_to most (negsuc n) = None

-- for a tuning program: the nearest step of 1/16384 semitone, where a device can be told of it (7F 7F 7F says no change)
abbrev pub nearest_tuning : ℤ → ℤ
nearest_tuning lo = int_div_euclid (lo +ℤ pos 97656250) (pos 195312500)

abbrev pub tuning_target : Bounds → Option ℕ
tuning_target b = up_to 2097150 (nearest_tuning b.lo)

-- for a bend: the nearest key, and from there the nearest whole number of steps of a bend at a sensitivity of so many semitones
abbrev pub nearest_key : ℤ → ℤ
nearest_key lo = int_div_euclid (lo +ℤ pos 1600000000000) (pos 3200000000000)

abbrev pub nearest_steps : ℕ → ℤ → ℤ
nearest_steps range lo = int_div_euclid ((lo -ℤ nearest_key lo *ℤ pos 3200000000000) +ℤ pos (195312500 * range)) (pos (390625000 * range))

pub record BendTarget : Type 0 where
  pub key : ℕ
  pub steps : ℤ

abbrev pub with_steps : ℤ → Option ℕ → Option BendTarget
with_steps q (Some k) = Some (record { key = k; steps = q })
with_steps q None = None

abbrev pub bend_target : ℕ → Bounds → Option BendTarget
bend_target range b = with_steps (nearest_steps range b.lo) (up_to 127 (nearest_key b.lo))
