-- What a mapping text is, as a relation on its lines, apart from how it is read (the Scala keyboard mapping format, in
-- this project's own limits).
use Rattle.std.specs.Prelude.{ℕ, zero, suc, ◌+◌, ◌*◌, ◌≡◌, ◌<◌, ◌≤◌, ◌⊎◌, ◌==◌, ◌||◌, List, [], ◌∷◌, ◌++◌, length, Option, Some, None, Bool, true}
use Rattle.scala_lines.specs.Characters.{is_blank, is_digit, Are, StopsAt}
use Rattle.scala_lines.specs.Numbers.{value, billionths}
use Rattle.scala_lines.specs.Lines.{Numbered, content, entry_lines}
use Rattle.scala_lines.specs.Spelling.{IsNumber, HasDigits, HasNoDigit}
use Rattle.kbm_text.specs.declared.fault.KbmKind.{KbmKind}
use Rattle.kbm_text.specs.declared.fault.KbmKind.TheVariants.{MissingField, BadNumber, SizeRange, KeyRange, BadFrequency, BadEntry, DegreeRange}
use Rattle.kbm_text.specs.Field.{is_cross, greatest_frequency}
use Rattle.kbm_text.specs.Map.{KeyMap}

-- ---- one line

-- blanks, a number from low to high, anything
abbrev pub IsIn : ℕ → ℕ → List ℕ → ℕ → Type 0
IsIn low high line n = (digits : List ℕ) × HasDigits line digits × (n ≡ value digits) × (low ≤ n) × (n ≤ high)

-- no digit, or a number that is out of the range
abbrev pub NotIn : KbmKind → ℕ → ℕ → List ℕ → KbmKind → Type 0
NotIn out low high line kind = ((kind ≡ BadNumber) × HasNoDigit line)
    ⊎ ((kind ≡ out) × ((digits : List ℕ) × HasDigits line digits × ((value digits < low) ⊎ (high < value digits))))

abbrev pub digit_or_period : ℕ → Bool
digit_or_period b = is_digit b || b == 46

-- blanks, digits that no period follows, anything
abbrev pub HasWhole : List ℕ → List ℕ → Type 0
HasWhole line whole = (blanks rest : List ℕ) × Are is_blank blanks × IsNumber whole × StopsAt digit_or_period rest × (line ≡ blanks ++ (whole ++ rest))

-- blanks, digits with one period among them, at least one digit, anything
abbrev pub HasPeriod : List ℕ → List ℕ → List ℕ → Type 0
HasPeriod line whole decimals = (blanks rest : List ℕ) × Are is_blank blanks × Are is_digit whole × Are is_digit decimals
    × (0 < length whole + length decimals) × StopsAt is_digit rest × (line ≡ blanks ++ (whole ++ 46 ∷ (decimals ++ rest)))

abbrev pub HasFrequency : List ℕ → List ℕ → List ℕ → Type 0
HasFrequency line whole decimals = (HasWhole line whole × (decimals ≡ [])) ⊎ HasPeriod line whole decimals

-- in billionths of a hertz: above 0, and at most 1,000,000 Hz
abbrev pub IsFrequency : List ℕ → ℕ → Type 0
IsFrequency line n = (whole decimals : List ℕ) × HasFrequency line whole decimals × (n ≡ value whole * 1000000000 + billionths decimals) × (1 ≤ n) × (n ≤ greatest_frequency)

abbrev pub NoFrequency : List ℕ → KbmKind → Type 0
NoFrequency line kind = (kind ≡ BadFrequency) × ((n : ℕ) → IsFrequency line n → ⊥)

-- blanks, x or X, anything
abbrev pub HasCross : List ℕ → Type 0
HasCross line = (blanks rest : List ℕ) × (b : ℕ) × Are is_blank blanks × (is_cross b ≡ true) × (line ≡ blanks ++ b ∷ rest)

-- a degree of at most 16,383, or an entry that isn't mapped
abbrev pub IsEntry : List ℕ → Option ℕ → Type 0
IsEntry line (Some degree) = IsIn 0 16383 line degree
IsEntry line None = HasCross line

-- neither digits nor x, or a degree that is too high
abbrev pub NoEntry : List ℕ → KbmKind → Type 0
NoEntry line BadEntry = HasNoDigit line × (HasCross line → ⊥)
NoEntry line DegreeRange = (digits : List ℕ) × HasDigits line digits × (16383 < value digits)
NoEntry line kind = ⊥

-- ---- the text

-- So many entries on lines that have more than blanks, then anything. Those that are left out are unmapped.
abbrev pub AreEntries : ℕ → List Numbered → List (Option ℕ) → Type 0
AreEntries zero lines entries = entries ≡ []
AreEntries (suc n) lines [] = ⊥
AreEntries (suc n) [] (entry ∷ entries) = (entry ≡ None) × AreEntries n [] entries
AreEntries (suc n) (line ∷ lines) (entry ∷ entries) = IsEntry line.bytes entry × AreEntries n lines entries

-- Seven lines: the size, the first, the last, the middle and the reference key, the frequency, the octave's degree.
-- Then as many entries as the size.
abbrev pub IsMap : List Numbered → KeyMap → Type 0
IsMap (size ∷ first ∷ last ∷ middle ∷ reference ∷ frequency ∷ octave ∷ lines) m =
    (n : ℕ) × IsIn 0 4096 size.bytes n × IsIn 0 127 first.bytes m.first × IsIn m.first 127 last.bytes m.last
    × IsIn 0 127 middle.bytes m.middle × IsIn 0 127 reference.bytes m.reference × IsFrequency frequency.bytes m.nanohertz
    × IsIn 0 16383 octave.bytes m.octave × AreEntries n (entry_lines lines) m.entries
IsMap _ m = ⊥

-- The lines that aren't comments are this mapping.
abbrev pub MapText : List (List ℕ) → KeyMap → Type 0
MapText lines m = IsMap (content lines) m

-- The fault of the first entry that has one: those before it are entries.
abbrev pub EntriesFault : ℕ → List Numbered → ℕ → KbmKind → Type 0
EntriesFault zero lines line kind = ⊥
EntriesFault (suc n) [] line kind = ⊥
EntriesFault (suc n) (first ∷ lines) line kind =
    ((line ≡ first.number) × NoEntry first.bytes kind) ⊎ ((entry : Option ℕ) × IsEntry first.bytes entry × EntriesFault n lines line kind)

-- The fault of a field, or of what comes behind it: its line is missing, or has a fault, or is good.
abbrev pub FieldFault : ℕ → (List ℕ → ℕ → Type 0) → (List ℕ → KbmKind → Type 0) → (ℕ → List Numbered → ℕ → KbmKind → Type 0) → List Numbered → ℕ → KbmKind → Type 0
FieldFault missing good bad behind [] line kind = (line ≡ missing) × (kind ≡ MissingField)
FieldFault missing good bad behind (first ∷ lines) line kind =
    ((line ≡ first.number) × bad first.bytes kind) ⊎ ((n : ℕ) × good first.bytes n × behind n lines line kind)

-- Field by field, from the last to the first: the fault of a field or of what comes behind it.
abbrev pub OctaveFault : ℕ → ℕ → List Numbered → ℕ → KbmKind → Type 0
OctaveFault missing size = FieldFault missing (IsIn 0 16383) (NotIn DegreeRange 0 16383) (λ octave lines. EntriesFault size (entry_lines lines))

abbrev pub FrequencyFault : ℕ → ℕ → List Numbered → ℕ → KbmKind → Type 0
FrequencyFault missing size = FieldFault missing IsFrequency NoFrequency (λ frequency. OctaveFault missing size)

abbrev pub ReferenceFault : ℕ → ℕ → List Numbered → ℕ → KbmKind → Type 0
ReferenceFault missing size = FieldFault missing (IsIn 0 127) (NotIn KeyRange 0 127) (λ reference. FrequencyFault missing size)

abbrev pub MiddleFault : ℕ → ℕ → List Numbered → ℕ → KbmKind → Type 0
MiddleFault missing size = FieldFault missing (IsIn 0 127) (NotIn KeyRange 0 127) (λ middle. ReferenceFault missing size)

-- the last key is at least the first
abbrev pub LastFault : ℕ → ℕ → ℕ → List Numbered → ℕ → KbmKind → Type 0
LastFault missing size first = FieldFault missing (IsIn first 127) (NotIn KeyRange first 127) (λ last. MiddleFault missing size)

abbrev pub FirstFault : ℕ → ℕ → List Numbered → ℕ → KbmKind → Type 0
FirstFault missing size = FieldFault missing (IsIn 0 127) (NotIn KeyRange 0 127) (λ first. LastFault missing size first)

abbrev pub IsFault : ℕ → List Numbered → ℕ → KbmKind → Type 0
IsFault missing = FieldFault missing (IsIn 0 4096) (NotIn SizeRange 0 4096) (λ size. FirstFault missing size)

-- The first line that has a fault, and its kind. Where a line is missing, it is the number of lines plus 1.
abbrev pub MapFault : List (List ℕ) → ℕ → KbmKind → Type 0
MapFault lines line kind = IsFault (length lines + 1) (content lines) line kind
