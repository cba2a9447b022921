-- Pitch lines of a scale text (the Scala scale file format, in this project's own limits).
use Rattle.std.specs.Prelude.{ℕ, ◌+◌, ◌*◌, ◌==◌, ◌||◌, nat_lt, ℤ, pos, neg_ℤ, List, [], ◌∷◌, length, Bool, true, false, Option, Some, None, Result, Ok, Err, if◌then◌else◌}
use Rattle.scala_lines.specs.Characters.{digits_of, after_digits, after_blanks}
use Rattle.scala_lines.specs.Numbers.{value, billionths}
use Rattle.scl_text.specs.declared.entry.Entry.{Entry}
use Rattle.scl_text.specs.declared.entry.Entry.TheVariants.{Ratio, Cents}
use Rattle.scl_text.specs.declared.fault.SclKind.{SclKind}
use Rattle.scl_text.specs.declared.fault.SclKind.TheVariants.{BadPitch, NegativeRatio, ZeroRatio, BigNumber}

-- What is written on a pitch line, digits as they stand there: cents with a period, a ratio with a slash, or a number
-- alone. The Bool says that a minus sign stands before it.
pub data Form : Type 0 where
  InCents : Bool → List ℕ → List ℕ → Form
  AsRatio : Bool → List ℕ → List ℕ → Form
  Alone : Bool → List ℕ → Form

-- digits on both sides of a period, of which one side may have none
abbrev pub cents_form : Bool → List ℕ → List ℕ → Option Form
cents_form negative whole decimals = if length whole == 0 then (if length decimals == 0 then None else Some (InCents negative whole decimals)) else Some (InCents negative whole decimals)

-- digits on both sides of a slash
abbrev pub ratio_form : Bool → List ℕ → List ℕ → Option Form
ratio_form negative num den = if length num == 0 then None else (if length den == 0 then None else Some (AsRatio negative num den))

abbrev pub alone_form : Bool → List ℕ → Option Form
alone_form negative num = if length num == 0 then None else Some (Alone negative num)

-- by what stands behind the digits: a period, a slash, or anything else
abbrev pub form_behind : Bool → List ℕ → List ℕ → Option Form
form_behind negative digits [] = alone_form negative digits
form_behind negative digits (b ∷ bs) =
    if b == 46 then cents_form negative digits (digits_of bs)
    else if b == 47 then ratio_form negative digits (digits_of bs)
    else alone_form negative digits

abbrev pub unsigned_form : Bool → List ℕ → Option Form
unsigned_form negative text = form_behind negative (digits_of text) (after_digits text)

-- behind the blanks, a minus sign or none
abbrev pub signed_form : List ℕ → Option Form
signed_form [] = None
signed_form (b ∷ bs) = if b == 45 then unsigned_form true bs else unsigned_form false (b ∷ bs)

-- the longest form at the start of a line behind its blanks
unfoldable pub form_of : List ℕ → Option Form
form_of line = signed_form (after_blanks line)

abbrev pub signed : Bool → ℕ → ℤ
signed true n = neg_ℤ (pos n)
signed false n = pos n

-- the greatest number that a ratio may have, 2 ^ 63 - 1
abbrev pub greatest_number : ℕ
greatest_number = 9223372036854775807

-- the greatest whole part of cents
abbrev pub greatest_cents : ℕ
greatest_cents = 1000000

abbrev pub ratio_entry : ℕ → ℕ → Result Entry SclKind
ratio_entry num den =
    if nat_lt greatest_number num || nat_lt greatest_number den then Err BigNumber
    else if num == 0 || den == 0 then Err ZeroRatio
    else Ok (Ratio num den)

abbrev pub cents_entry : Bool → List ℕ → List ℕ → Result Entry SclKind
cents_entry negative whole decimals =
    if nat_lt greatest_cents (value whole) then Err BigNumber
    else Ok (Cents (signed negative (value whole * 1000000000 + billionths decimals)))

-- the entry of a form, or the first kind of fault
unfoldable pub entry_of : Form → Result Entry SclKind
entry_of (InCents negative whole decimals) = cents_entry negative whole decimals
entry_of (AsRatio true num den) = Err NegativeRatio
entry_of (AsRatio false num den) = ratio_entry (value num) (value den)
entry_of (Alone true num) = Err NegativeRatio
entry_of (Alone false num) = ratio_entry (value num) 1

abbrev pub entry_if : Option Form → Result Entry SclKind
entry_if None = Err BadPitch
entry_if (Some form) = entry_of form

-- the entry of a pitch line
abbrev pub pitch_of : List ℕ → Result Entry SclKind
pitch_of line = entry_if (form_of line)
