-- The printed texts of errors (this project's own).
use Rattle.std.specs.Prelude.{ℕ, suc, ℤ, pos, negsuc, ◌+◌, ◌/◌, ◌%◌, nat_lt, if◌then◌else◌, List, [], ◌∷◌, ◌++◌, flat_map, codes, decimal, Option, Some, None}
use Rattle.std.specs.Fmt.{signed_decimal}
use Rattle.key_report.specs.declared.keys.KeyError.{KeyError}
use Rattle.key_report.specs.declared.target.Target.{Target}
use Rattle.key_report.specs.declared.target.Target.TheVariants.{Value, Bend}
use Rattle.key_report.specs.declared.range.ErrorRange.{ErrorRange}

-- the last of a number's decimal digits
abbrev pub digit : ℕ → ℕ
digit n = 48 + n % 10

-- thousandths, with three decimals
abbrev pub unsigned_text : ℕ → List ℕ
unsigned_text n = decimal (n / 1000) ++ codes "." ++ (digit (n / 100) ∷ digit (n / 10) ∷ digit n ∷ [])

abbrev pub thousandths : ℤ → List ℕ
thousandths (pos n) = unsigned_text n
thousandths (negsuc n) = codes "-" ++ unsigned_text (suc n)

abbrev pub range_text : ErrorRange → List ℕ
range_text e = thousandths e.least ++ codes " to " ++ thousandths e.greatest

-- the least and the greatest error, and the end of the line
abbrev pub error_text : ErrorRange → List ℕ
error_text e = codes "error " ++ range_text e ++ codes "\n"

-- the error of the whole, if there is any
abbrev pub error_line : Option ErrorRange → List ℕ
error_line None = codes "error none\n"
error_line (Some e) = error_text e

-- a blank, and a byte in two hexadecimal digits
abbrev pub hex_digit : ℕ → ℕ
hex_digit n = if nat_lt n 10 then 48 + n else 55 + n

abbrev pub spaced_hex : ℕ → List ℕ
spaced_hex b = 32 ∷ hex_digit (b / 16) ∷ hex_digit (b % 16) ∷ []

-- the three bytes that tell a device a value: a semitone, and 14 bits of it in two data bytes (MIDI Tuning Standard)
abbrev pub value_text : ℕ → List ℕ
value_text value = spaced_hex (value / 16384) ++ spaced_hex ((value / 128) % 128) ++ spaced_hex (value % 128)

-- a target: its three bytes, or its key and the steps of its bend
abbrev pub target_text : Target → List ℕ
target_text (Value value) = value_text value
target_text (Bend key steps) = codes " " ++ decimal key ++ codes " bend " ++ signed_decimal steps

-- a key in use, what a device is told of it, and its error
abbrev pub key_line : KeyError → List ℕ
key_line e = codes "key " ++ decimal e.key ++ codes " to" ++ target_text e.target ++ codes " " ++ error_text e.error

abbrev pub key_lines : List KeyError → List ℕ
key_lines es = flat_map key_line es
