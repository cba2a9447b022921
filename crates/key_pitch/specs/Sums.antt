-- What the program has of a pitch while it adds ratios up.
use Rattle.std.specs.Prelude.{ℕ, ℤ, pos, neg_ℤ, ◌≡◌, ◌≤◌, ◌≤ℤ◌, ◌+◌, ◌*◌, nat_eq, if◌then◌else◌, List, [], ◌++◌, Option, Some, None}
use Rattle.mt_base.specs.Pitch.{Pitch}
use Rattle.scl_text.specs.declared.entry.Entry.{Entry}
use Rattle.kbm_text.specs.Map.{KeyMap}
use Rattle.retune_model.specs.Scale.{step_at, pitch_of_step, ratios_at, ratio_of_step, pitch_of_degree, terms_of_degree, ratios_of_degree}
use Rattle.retune_model.specs.Scale.{pitch_of_entry, terms_of_entry, ratios_of_entry, above_middle, terms_above_middle, ratios_above_middle}
use Rattle.retune_model.specs.Scale.{repeated, size_of, scale_pitch, term_count, ratios_of_key}
use Rattle.retune_model.specs.Table.{AreBounds}
use Rattle.key_pitch.specs.declared.sum.Sum.{Sum}
use Rattle.key_pitch.specs.Views.{bounds_of}

-- the number of ratios of this pitch, and its bounds
pub record Sums (p : Pitch) (terms : ℕ) (ratios : List (ℕ × ℕ)) (s : Sum) : Type 0 where
  pub counted : s.terms ≡ terms
  pub bounds : AreBounds p terms ratios (bounds_of s.bracket)

-- the same where there may be no pitch
abbrev pub SumsIf : ℕ → List (ℕ × ℕ) → Option Pitch → Option Sum → Type 0
SumsIf terms ratios None None = Unit {0}
SumsIf terms ratios (Some p) (Some s) = Sums p terms ratios s
SumsIf terms ratios _ _ = ⊥

-- of a step of the scale, which is none of its ratios at 0
abbrev pub IsStepSum : List Entry → ℕ → Sum → Type 0
IsStepSum scale place s = Sums (pitch_of_step (step_at scale place)) (ratios_at scale place) (ratio_of_step (step_at scale place)) s

-- of a degree of the scale, repeated by its period
abbrev pub IsDegreeSum : List Entry → ℤ → Sum → Type 0
IsDegreeSum scale d s = Sums (pitch_of_degree scale d) (terms_of_degree scale d) (ratios_of_degree scale d) s

-- of an entry of the mapping, so many repetitions away
abbrev pub IsEntrySum : List Entry → KeyMap → ℤ → Option ℕ → Option Sum → Type 0
IsEntrySum scale m j e s = SumsIf (terms_of_entry scale m j e) (ratios_of_entry scale m j e) (pitch_of_entry scale m j e) s

-- of a key above the middle note
abbrev pub IsAboveMiddle : List Entry → KeyMap → ℕ → Option Sum → Type 0
IsAboveMiddle scale m key s = SumsIf (terms_above_middle scale m key) (ratios_above_middle scale m key) (above_middle scale m key) s

-- of a key above key 0
abbrev pub IsKeySum : List Entry → KeyMap → ℕ → Option Sum → Type 0
IsKeySum scale m key s = SumsIf (term_count scale m key) (ratios_of_key scale m key) (scale_pitch scale m key) s

-- at most so many grains from key 0, with at most so many ratios
pub record IsSmall (grains terms : ℕ) (s : Sum) : Type 0 where
  pub low : neg_ℤ (pos grains) ≤ℤ s.bracket.lo.0
  pub order : s.bracket.lo.0 ≤ℤ s.bracket.hi.0
  pub high : s.bracket.hi.0 ≤ℤ pos grains
  pub few : s.terms ≤ terms

abbrev pub IsSmallIf : ℕ → ℕ → Option Sum → Type 0
IsSmallIf grains terms None = Unit {0}
IsSmallIf grains terms (Some s) = IsSmall grains terms s

-- A sum or a difference of two pitches: whatever they are, it has their ratios, and is as small as both together.
abbrev pub JoinsSums : (Pitch → Pitch → Pitch) → Sum → Sum → Sum → Type 0
JoinsSums joined s t u = (p q : Pitch) (m n : ℕ) (r v : List (ℕ × ℕ)) → Sums p m r s → Sums q n v t → Sums (joined p q) (m + n) (r ++ v) u

abbrev pub IsSmallAsBoth : Sum → Sum → Sum → Type 0
IsSmallAsBoth s t u = (g h m n : ℕ) → IsSmall g m s → IsSmall h n t → IsSmall (g + h) (m + n) u

-- So many times a pitch, also fewer than none: its ratios are there unless it is none.
abbrev pub RepeatsSum : ℤ → Sum → Sum → Type 0
RepeatsSum j s u = (p : Pitch) (m : ℕ) (r : List (ℕ × ℕ)) → Sums p m r s
    → Sums (repeated j p) (size_of j * m) (if nat_eq (size_of j) 0 then [] else r) u

abbrev pub IsSmallAsTimes : ℤ → Sum → Sum → Type 0
IsSmallAsTimes j s u = (g m : ℕ) → IsSmall g m s → IsSmall (size_of j * g) (size_of j * m) u
