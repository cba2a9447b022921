-- Lines of a mapping text (the Scala keyboard mapping format, in this project's own limits).
use Rattle.std.specs.Prelude.{ℕ, ◌+◌, ◌*◌, ◌==◌, ◌||◌, nat_lt, List, [], ◌∷◌, length, Bool, Option, Some, None, Result, Ok, Err, if◌then◌else◌}
use Rattle.scala_lines.specs.Characters.{is_digit, digits_of, after_digits, after_blanks}
use Rattle.scala_lines.specs.Numbers.{value, billionths}
use Rattle.kbm_text.specs.declared.fault.KbmKind.{KbmKind}
use Rattle.kbm_text.specs.declared.fault.KbmKind.TheVariants.{BadNumber, BadFrequency, BadEntry, DegreeRange}

-- a number in a range, where one out of it has the kind out
abbrev pub ranged : KbmKind → ℕ → ℕ → ℕ → Result ℕ KbmKind
ranged out low high n = if nat_lt n low || nat_lt high n then Err out else Ok n

abbrev pub number_of : KbmKind → ℕ → ℕ → List ℕ → Result ℕ KbmKind
number_of out low high digits = if length digits == 0 then Err BadNumber else ranged out low high (value digits)

-- the number behind the blanks of a line
unfoldable pub number_in : KbmKind → ℕ → ℕ → List ℕ → Result ℕ KbmKind
number_in out low high line = number_of out low high (digits_of (after_blanks line))

-- the decimals behind a period, or none
abbrev pub decimals_of : List ℕ → List ℕ
decimals_of [] = []
decimals_of (b ∷ bs) = if b == 46 then digits_of bs else []

-- the greatest frequency, 1,000,000 Hz, in billionths of a hertz
abbrev pub greatest_frequency : ℕ
greatest_frequency = 1000000000000000

abbrev pub nanohertz_of : List ℕ → List ℕ → Result ℕ KbmKind
nanohertz_of whole decimals = if length whole + length decimals == 0 then Err BadFrequency else ranged BadFrequency 1 greatest_frequency (value whole * 1000000000 + billionths decimals)

abbrev pub unblanked_frequency : List ℕ → Result ℕ KbmKind
unblanked_frequency text = nanohertz_of (digits_of text) (decimals_of (after_digits text))

-- the frequency behind the blanks of a line, in billionths of a hertz
unfoldable pub frequency_of : List ℕ → Result ℕ KbmKind
frequency_of line = unblanked_frequency (after_blanks line)

-- x or X: an entry that isn't mapped
abbrev pub is_cross : ℕ → Bool
is_cross b = b == 120 || b == 88

abbrev pub degree_of : ℕ → Result (Option ℕ) KbmKind
degree_of n = if nat_lt 16383 n then Err DegreeRange else Ok (Some n)

abbrev pub unblanked_entry : List ℕ → Result (Option ℕ) KbmKind
unblanked_entry [] = Err BadEntry
unblanked_entry (b ∷ bs) =
    if is_cross b then Ok None
    else if is_digit b then degree_of (value (digits_of (b ∷ bs)))
    else Err BadEntry

-- the entry behind the blanks of a line
unfoldable pub entry_of : List ℕ → Result (Option ℕ) KbmKind
entry_of line = unblanked_entry (after_blanks line)
