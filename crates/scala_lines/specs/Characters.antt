-- Characters of the Scala file formats: blanks, digits, and what stands at the start of a line.
use Rattle.std.specs.Prelude.{ℕ, ◌≡◌, ◌==◌, ◌&&◌, ◌||◌, nat_le, List, [], ◌∷◌, Bool, true, false, cond}

-- a space or a tab
abbrev pub is_blank : ℕ → Bool
is_blank b = b == 32 || b == 9

-- 0 to 9
abbrev pub is_digit : ℕ → Bool
is_digit b = nat_le 48 b && nat_le b 57

-- the bytes at the start that pass a test
abbrev pub prefix : (ℕ → Bool) → List ℕ → List ℕ
prefix p [] = []
prefix p (b ∷ bs) = cond (p b) (b ∷ prefix p bs) []

-- what stands behind them
abbrev pub behind : (ℕ → Bool) → List ℕ → List ℕ
behind p [] = []
behind p (b ∷ bs) = cond (p b) (behind p bs) (b ∷ bs)

abbrev pub digits_of : List ℕ → List ℕ
digits_of bytes = prefix is_digit bytes

abbrev pub after_digits : List ℕ → List ℕ
after_digits bytes = behind is_digit bytes

abbrev pub after_blanks : List ℕ → List ℕ
after_blanks bytes = behind is_blank bytes

-- each byte passes the test
abbrev pub Are : (ℕ → Bool) → List ℕ → Type 0
Are p [] = Unit {0}
Are p (b ∷ bs) = (p b ≡ true) × Are p bs

-- the first byte, where there is one, doesn't pass it
abbrev pub StopsAt : (ℕ → Bool) → List ℕ → Type 0
StopsAt p [] = Unit {0}
StopsAt p (b ∷ bs) = p b ≡ false
