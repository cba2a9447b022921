-- What a scale text is, as a relation on its lines, apart from how it is read (the Scala scale file format, in this
-- project's own limits).
use Rattle.std.specs.Prelude.{ℕ, ◌+◌, ◌*◌, ◌≡◌, ◌<◌, ◌≤◌, ◌⊎◌, ◌==◌, ◌||◌, List, [], ◌∷◌, ◌++◌, length, Bool, true, false}
use Rattle.scala_lines.specs.Characters.{is_blank, is_digit, Are, StopsAt}
use Rattle.scala_lines.specs.Numbers.{value, billionths}
use Rattle.scala_lines.specs.Lines.{Numbered, content}
use Rattle.scala_lines.specs.Spelling.{IsNumber, HasDigits, HasNoDigit}
use Rattle.scl_text.specs.declared.entry.Entry.{Entry}
use Rattle.scl_text.specs.declared.entry.Entry.TheVariants.{Ratio, Cents}
use Rattle.scl_text.specs.declared.fault.SclKind.{SclKind}
use Rattle.scl_text.specs.declared.fault.SclKind.TheVariants.{NoDescription, NoCount, BadCount, CountRange, BadPitch, NegativeRatio, ZeroRatio, BigNumber, MissingPitch}
use Rattle.scl_text.specs.Pitch.{Form, InCents, AsRatio, Alone, signed, greatest_number, greatest_cents}
use Rattle.scl_text.specs.Ranges.{IsRatio}

-- ---- one line

abbrev pub sign : Bool → List ℕ
sign true = 45 ∷ []
sign false = []

-- a byte with which a number goes on, or turns into another form: a digit, a period, a slash
abbrev pub goes_on : ℕ → Bool
goes_on b = is_digit b || b == 46 || b == 47

-- The text of a form, with the rest of the line behind it: the form is the longest that stands there.
abbrev pub IsForm : List ℕ → Form → List ℕ → Type 0
-- an optional minus sign, digits, a period, digits, with at least one digit on one side of the period
IsForm text (InCents negative whole decimals) rest =
    Are is_digit whole × Are is_digit decimals × (0 < length whole + length decimals) × (text ≡ sign negative ++ (whole ++ 46 ∷ decimals)) × StopsAt is_digit rest
-- digits, a slash, digits
IsForm text (AsRatio negative num den) rest = IsNumber num × IsNumber den × (text ≡ sign negative ++ (num ++ 47 ∷ den)) × StopsAt is_digit rest
-- digits that aren't followed by a period or a slash
IsForm text (Alone negative num) rest = IsNumber num × (text ≡ sign negative ++ num) × StopsAt goes_on rest

-- a line is blanks, a form, anything
abbrev pub Stands : List ℕ → Form → Type 0
Stands line form = (blanks text rest : List ℕ) × Are is_blank blanks × IsForm text form rest × (line ≡ blanks ++ (text ++ rest))

-- the value of a form: cents, a ratio, or a ratio over 1
abbrev pub IsValue : Form → Entry → Type 0
IsValue (InCents negative whole decimals) (Cents nanocents) = (value whole ≤ greatest_cents) × (nanocents ≡ signed negative (value whole * 1000000000 + billionths decimals))
IsValue (InCents negative whole decimals) (Ratio a b) = ⊥
IsValue (AsRatio false num den) (Ratio a b) = (a ≡ value num) × (b ≡ value den) × IsRatio a b
IsValue (AsRatio true num den) (Ratio a b) = ⊥
IsValue (AsRatio negative num den) (Cents nanocents) = ⊥
IsValue (Alone false num) (Ratio a b) = (a ≡ value num) × (b ≡ 1) × IsRatio a b
IsValue (Alone true num) (Ratio a b) = ⊥
IsValue (Alone negative num) (Cents nanocents) = ⊥

abbrev pub IsPitch : List ℕ → Entry → Type 0
IsPitch line entry = (form : Form) × Stands line form × IsValue form entry

abbrev pub HasBigNumber : ℕ → ℕ → Type 0
HasBigNumber a b = (greatest_number < a) ⊎ (greatest_number < b)

abbrev pub HasZero : ℕ → ℕ → Type 0
HasZero a b = (a ≤ greatest_number) × (b ≤ greatest_number) × ((a ≡ 0) ⊎ (b ≡ 0))

-- The fault of a ratio without a sign: a number that is too big goes before one that is 0.
abbrev pub RatioFault : ℕ → ℕ → SclKind → Type 0
RatioFault a b BigNumber = HasBigNumber a b
RatioFault a b ZeroRatio = HasZero a b
RatioFault a b kind = ⊥

-- The fault of a form: the sign of a ratio goes first.
abbrev pub FormFault : Form → SclKind → Type 0
FormFault (InCents negative whole decimals) kind = (kind ≡ BigNumber) × (greatest_cents < value whole)
FormFault (AsRatio true num den) kind = kind ≡ NegativeRatio
FormFault (AsRatio false num den) kind = RatioFault (value num) (value den) kind
FormFault (Alone true num) kind = kind ≡ NegativeRatio
FormFault (Alone false num) kind = RatioFault (value num) 1 kind

-- The fault of a pitch line: none of the forms stands there, or its form has one.
abbrev pub PitchFault : List ℕ → SclKind → Type 0
PitchFault line kind = ((kind ≡ BadPitch) × ((form : Form) → Stands line form → ⊥)) ⊎ ((form : Form) × Stands line form × FormFault form kind)

-- a count line is blanks, a number from 1 to 4,096, anything
abbrev pub IsCount : List ℕ → ℕ → Type 0
IsCount line n = (digits : List ℕ) × HasDigits line digits × (n ≡ value digits) × (1 ≤ n) × (n ≤ 4096)

abbrev pub CountFault : List ℕ → SclKind → Type 0
CountFault line BadCount = HasNoDigit line
CountFault line CountRange = (digits : List ℕ) × HasDigits line digits × ((value digits ≡ 0) ⊎ (4096 < value digits))
CountFault line kind = ⊥

-- ---- the text

-- the entries are the values of the pitch lines, in order
abbrev pub ArePitches : List Numbered → List Entry → Type 0
ArePitches [] [] = Unit {0}
ArePitches (line ∷ lines) (entry ∷ entries) = IsPitch line.bytes entry × ArePitches lines entries
ArePitches [] (entry ∷ entries) = ⊥
ArePitches (line ∷ lines) [] = ⊥

-- as many pitch lines as the count, then anything
abbrev pub BeginsWith : ℕ → List Numbered → List Entry → Type 0
BeginsWith n lines entries = (pitches more : List Numbered) × (lines ≡ pitches ++ more) × ArePitches pitches entries × (length entries ≡ n)

-- a description, a count line, and as many pitch lines as the count
abbrev pub IsScale : List Numbered → List Entry → Type 0
IsScale [] entries = ⊥
IsScale (description ∷ []) entries = ⊥
IsScale (description ∷ count ∷ lines) entries = (n : ℕ) × IsCount count.bytes n × BeginsWith n lines entries

-- The lines that aren't comments are a scale with these entries.
abbrev pub ScaleText : List (List ℕ) → List Entry → Type 0
ScaleText lines entries = IsScale (content lines) entries

-- where a pitch line is wanted: none is there, or it has a fault
abbrev pub NoPitch : ℕ → List Numbered → ℕ → SclKind → Type 0
NoPitch missing [] line kind = (line ≡ missing) × (kind ≡ MissingPitch)
NoPitch missing (first ∷ more) line kind = (line ≡ first.number) × PitchFault first.bytes kind

-- pitch lines, fewer than the count, up to the first that isn't there or has a fault
abbrev pub StopsWith : ℕ → ℕ → List Numbered → ℕ → SclKind → Type 0
StopsWith missing n lines line kind = (pitches rest : List Numbered) × (entries : List Entry)
    × (lines ≡ pitches ++ rest) × ArePitches pitches entries × (length entries < n) × NoPitch missing rest line kind

abbrev pub IsFault : ℕ → List Numbered → ℕ → SclKind → Type 0
IsFault missing [] line kind = (line ≡ missing) × (kind ≡ NoDescription)
IsFault missing (description ∷ []) line kind = (line ≡ missing) × (kind ≡ NoCount)
IsFault missing (description ∷ count ∷ lines) line kind =
    ((line ≡ count.number) × CountFault count.bytes kind) ⊎ ((n : ℕ) × IsCount count.bytes n × StopsWith missing n lines line kind)

-- The first line that has a fault, and its first kind there. Where a line is missing, it is the number of lines plus 1.
abbrev pub ScaleFault : List (List ℕ) → ℕ → SclKind → Type 0
ScaleFault lines line kind = IsFault (length lines + 1) (content lines) line kind
