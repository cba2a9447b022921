-- A line that begins with blanks and a number, as a relation.
use Rattle.std.specs.Prelude.{ℕ, ◌≡◌, ◌<◌, List, ◌++◌, length}
use Rattle.scala_lines.specs.Characters.{is_blank, is_digit, Are, StopsAt, digits_of, after_blanks}

-- one or more digits
abbrev pub IsNumber : List ℕ → Type 0
IsNumber digits = Are is_digit digits × (0 < length digits)

-- a line is blanks, these digits, anything
abbrev pub HasDigits : List ℕ → List ℕ → Type 0
HasDigits line digits = (blanks rest : List ℕ) × Are is_blank blanks × IsNumber digits × StopsAt is_digit rest × (line ≡ blanks ++ (digits ++ rest))

-- no digit stands behind the blanks of a line
abbrev pub HasNoDigit : List ℕ → Type 0
HasNoDigit line = (blanks rest : List ℕ) × Are is_blank blanks × StopsAt is_blank rest × StopsAt is_digit rest × (line ≡ blanks ++ rest)

-- the digits behind the blanks of a line, which may be none
abbrev pub number_of : List ℕ → List ℕ
number_of line = digits_of (after_blanks line)
