-- Laws of what stands at the start of a text, of the number on a line, and of decimals.
use Rattle.std.specs.Prelude.{ℕ, ◌≡◌, ◌<◌, ◌⊎◌, ◌^◌, List, [], ◌++◌, Bool}
use Rattle.scala_lines.specs.Characters.{is_digit, prefix, behind, Are, StopsAt}
use Rattle.scala_lines.specs.Numbers.{billionths}
use Rattle.scala_lines.specs.Spelling.{HasDigits, HasNoDigit, number_of}

-- the prefix and what stands behind it are the whole text
abbrev pub PrefixThenBehind : Type 0
PrefixThenBehind = (p : ℕ → Bool) (text : List ℕ) → prefix p text ++ behind p text ≡ text

-- each byte at the start passes the test
abbrev pub PrefixPasses : Type 0
PrefixPasses = (p : ℕ → Bool) (text : List ℕ) → Are p (prefix p text)

-- the first byte behind it, where there is one, doesn't
abbrev pub BehindStops : Type 0
BehindStops = (p : ℕ → Bool) (text : List ℕ) → StopsAt p (behind p text)

-- bytes that pass the test, before a rest that doesn't go on with it, are the prefix
abbrev pub PrefixIsFound : Type 0
PrefixIsFound = (p : ℕ → Bool) (bytes rest : List ℕ) → Are p bytes → StopsAt p rest → prefix p (bytes ++ rest) ≡ bytes

-- and the rest is what stands behind it
abbrev pub BehindIsFound : Type 0
BehindIsFound = (p : ℕ → Bool) (bytes rest : List ℕ) → Are p bytes → StopsAt p rest → behind p (bytes ++ rest) ≡ rest

-- the digits that stand behind the blanks of a line are found
abbrev pub NumberIsFound : Type 0
NumberIsFound = (line digits : List ℕ) → HasDigits line digits → number_of line ≡ digits

-- where no digit stands there, none is found
abbrev pub NoNumberIsFound : Type 0
NoNumberIsFound = (line : List ℕ) → HasNoDigit line → number_of line ≡ []

-- a line has a number behind its blanks, or no digit
abbrev pub NumberOrNone : Type 0
NumberOrNone = (line : List ℕ) → ((digits : List ℕ) × HasDigits line digits) ⊎ HasNoDigit line

-- decimals say less than a whole
abbrev pub DecimalsAreLow : Type 0
DecimalsAreLow = (digits : List ℕ) → Are is_digit digits → billionths digits < 10 ^ 9

-- the laws of prefixes
pub record ArePrefixes : Type 0 where
  pub whole : PrefixThenBehind
  pub passes : PrefixPasses
  pub stops : BehindStops
  pub prefix : PrefixIsFound
  pub behind : BehindIsFound

-- the laws of the number on a line
pub record AreNumbers : Type 0 where
  pub found : NumberIsFound
  pub none : NoNumberIsFound
  pub either : NumberOrNone
