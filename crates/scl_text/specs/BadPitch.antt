-- When none of the forms stands on a pitch line, by what stands there in their place.
use Rattle.std.specs.Prelude.{ℕ, ◌≡◌, ◌⊎◌, ◌==◌, List, [], ◌∷◌, ◌++◌, false, if◌then◌else◌}
use Rattle.scala_lines.specs.Characters.{is_digit, StopsAt, after_blanks}
use Rattle.scala_lines.specs.Spelling.{IsNumber}

-- what stands behind a minus sign, where there is one
abbrev pub unsigned : List ℕ → List ℕ
unsigned [] = []
unsigned (b ∷ bs) = if b == 45 then bs else b ∷ bs

-- neither a digit nor a period with a digit after it
abbrev pub NoStart : List ℕ → Type 0
NoStart [] = Unit {0}
NoStart (b ∷ bs) = (is_digit b ≡ false) × (b ≡ 46 → StopsAt is_digit bs)

-- digits and a slash without a digit after it
abbrev pub IsCutRatio : List ℕ → Type 0
IsCutRatio text = (digits rest : List ℕ) × IsNumber digits × StopsAt is_digit rest × (text ≡ digits ++ 47 ∷ rest)

abbrev pub HasNoForm : List ℕ → Type 0
HasNoForm line = NoStart (unsigned (after_blanks line)) ⊎ IsCutRatio (unsigned (after_blanks line))
