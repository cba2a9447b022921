-- The pitch that a scale and a keyboard mapping give to a key (the Scala file formats, in this project's profile): without
-- logarithms, by sums of ratios and of whole grains.
use Rattle.std.specs.Prelude.{◌≡◌, ℕ, zero, suc, ◌+◌, ◌-◌, ◌*◌, ◌/◌, ◌%◌, ◌^◌, ◌⊎◌, ℤ, pos, negsuc, ◌-ℤ◌, ◌*ℤ◌, List, [], ◌∷◌, ◌++◌, Bool, ◌&&◌, nat_eq, nat_le, if◌then◌else◌, Option, Some, None, length, get_or}
use Rattle.scl_text.specs.declared.entry.Entry.{Entry}
use Rattle.scl_text.specs.declared.entry.Entry.TheVariants.{Ratio, Cents}
use Rattle.kbm_text.specs.Map.{KeyMap}
use Rattle.mt_base.specs.Pitch.{Pitch, ratio, exactly, added, subtracted, times}

-- the quotient rounded down, and what is left
abbrev pub floor_div : ℤ → ℕ → ℤ
floor_div (pos a) d = pos (a / d)
floor_div (negsuc a) d = negsuc (a / d)

abbrev pub floor_rem : ℤ → ℕ → ℕ
floor_rem (pos a) d = a % d
floor_rem (negsuc a) d = d - 1 - a % d

abbrev pub size_of : ℤ → ℕ
size_of (pos n) = n
size_of (negsuc n) = suc n

abbrev pub pitch_of_step : Entry → Pitch
pitch_of_step (Ratio num den) = ratio num den
pitch_of_step (Cents n) = exactly (pos 32 *ℤ n)

-- step 0 is 1/1, the others are the entries in order; the last one is the period
abbrev pub step_at : List Entry → ℕ → Entry
step_at scale zero = Ratio 1 1
step_at scale (suc i) = get_or scale i (Ratio 1 1)

abbrev pub period : List Entry → Entry
period scale = step_at scale (length scale)

-- a pitch so many times, taken away where the number is negative
abbrev pub repeated : ℤ → Pitch → Pitch
repeated (pos j) p = times j p
repeated (negsuc j) p = subtracted (exactly (pos 0)) (times (suc j) p)

-- a step of the scale, repeated by its period in both directions
abbrev pub pitch_of_degree : List Entry → ℤ → Pitch
pitch_of_degree scale d = added (repeated (floor_div d (length scale)) (pitch_of_step (period scale))) (pitch_of_step (step_at scale (floor_rem d (length scale))))

abbrev pub pitch_of_entry : List Entry → KeyMap → ℤ → Option ℕ → Option Pitch
pitch_of_entry scale m j None = None
pitch_of_entry scale m j (Some d) = Some (added (repeated j (pitch_of_degree scale (pos m.octave))) (pitch_of_degree scale (pos d)))

-- how far a key is from the middle key, in keys
abbrev pub from_middle : KeyMap → ℕ → ℤ
from_middle m k = pos k -ℤ pos m.middle

-- the pitch of a key above the middle key, where the map gives it one
abbrev pub above_middle : List Entry → KeyMap → ℕ → Option Pitch
above_middle scale m k =
    let size = length m.entries in
    if nat_eq size 0 then Some (pitch_of_degree scale (from_middle m k))
    else pitch_of_entry scale m (floor_div (from_middle m k) size) (get_or m.entries (floor_rem (from_middle m k) size) None)

-- 6,900 cents and the reference frequency over 440 Hz
abbrev pub reference_pitch : KeyMap → Pitch
reference_pitch m = record { a = m.nanohertz; b = 440000000000; c = pos 220800000000000 }

abbrev pub from_reference : KeyMap → Option Pitch → Option Pitch → Option Pitch
from_reference m (Some u) (Some r) = Some (subtracted (added (reference_pitch m) u) r)
from_reference m _ _ = None

abbrev pub is_mapped_range : KeyMap → ℕ → Bool
is_mapped_range m k = nat_le m.first k && nat_le k m.last

-- The scale pitch of a key, above key 0; none where the map leaves the key out. Keys outside the first and last key of the
-- mapping keep equal temperament.
unfoldable pub scale_pitch : List Entry → KeyMap → ℕ → Option Pitch
scale_pitch scale m k =
    if is_mapped_range m k then from_reference m (above_middle scale m k) (above_middle scale m m.reference)
    else Some (exactly (pos (3200000000000 * k)))

-- ---- how many ratios go into it

abbrev pub ratios_of_step : Entry → ℕ
ratios_of_step (Ratio num den) = 1
ratios_of_step (Cents n) = 0

-- step 0 counts as none
abbrev pub ratios_at : List Entry → ℕ → ℕ
ratios_at scale zero = 0
ratios_at scale (suc i) = ratios_of_step (step_at scale (suc i))

abbrev pub terms_of_degree : List Entry → ℤ → ℕ
terms_of_degree scale d = size_of (floor_div d (length scale)) * ratios_at scale (length scale) + ratios_at scale (floor_rem d (length scale))

abbrev pub terms_of_entry : List Entry → KeyMap → ℤ → Option ℕ → ℕ
terms_of_entry scale m j None = 0
terms_of_entry scale m j (Some d) = size_of j * terms_of_degree scale (pos m.octave) + terms_of_degree scale (pos d)

abbrev pub terms_above_middle : List Entry → KeyMap → ℕ → ℕ
terms_above_middle scale m k =
    let size = length m.entries in
    if nat_eq size 0 then terms_of_degree scale (from_middle m k)
    else terms_of_entry scale m (floor_div (from_middle m k) size) (get_or m.entries (floor_rem (from_middle m k) size) None)

abbrev pub terms_if : Option Pitch → ℕ → ℕ
terms_if None n = 0
terms_if (Some p) n = n

-- The term count of a key: the ratios of its pitch above the middle key, of the reference key's, and the frequency's. 0 for a
-- key that is left out, and for one outside the first and last key.
unfoldable pub term_count : List Entry → KeyMap → ℕ → ℕ
term_count scale m k =
    if is_mapped_range m k then terms_if (above_middle scale m k) (terms_above_middle scale m k + terms_above_middle scale m m.reference + 1)
    else 0

-- ---- which ratios go into it

abbrev pub ratio_of_step : Entry → List (ℕ × ℕ)
ratio_of_step (Ratio num den) = (num, den) ∷ []
ratio_of_step (Cents n) = []

-- the period's, where it is repeated at all, and the step's
abbrev pub ratios_of_degree : List Entry → ℤ → List (ℕ × ℕ)
ratios_of_degree scale d = (if nat_eq (size_of (floor_div d (length scale))) 0 then [] else ratio_of_step (period scale)) ++ ratio_of_step (step_at scale (floor_rem d (length scale)))

abbrev pub ratios_of_entry : List Entry → KeyMap → ℤ → Option ℕ → List (ℕ × ℕ)
ratios_of_entry scale m j None = []
ratios_of_entry scale m j (Some d) = (if nat_eq (size_of j) 0 then [] else ratios_of_degree scale (pos m.octave)) ++ ratios_of_degree scale (pos d)

abbrev pub ratios_above_middle : List Entry → KeyMap → ℕ → List (ℕ × ℕ)
ratios_above_middle scale m k =
    let size = length m.entries in
    if nat_eq size 0 then ratios_of_degree scale (from_middle m k)
    else ratios_of_entry scale m (floor_div (from_middle m k) size) (get_or m.entries (floor_rem (from_middle m k) size) None)

-- the ratios of a key's scale pitch, the frequency's among them
unfoldable pub ratios_of_key : List Entry → KeyMap → ℕ → List (ℕ × ℕ)
ratios_of_key scale m k =
    if is_mapped_range m k then ratios_above_middle scale m k ++ (ratios_above_middle scale m m.reference ++ (m.nanohertz, 440000000000) ∷ [])
    else []

-- a whole number of octaves, up or down
abbrev pub IsOctaves : ℕ × ℕ → Type 0
IsOctaves r = (j : ℕ) × ((r.0 ≡ 2 ^ j * r.1) ⊎ (r.1 ≡ 2 ^ j * r.0))
