-- What is written where a writing didn't come to its end.
use Rattle.std.specs.Prelude.{ℕ, ◌≡◌, ◌++◌, List, Option}
use Rattle.std.specs.Io.KnownBytes.{Appends}

-- known bytes grew by a front of the content
abbrev pub WritesFront : Option (List ℕ) → Option (List ℕ) → List ℕ → Type 0
WritesFront before now content = (front : List ℕ) × (rest : List ℕ) × (content ≡ front ++ rest) × Appends before now front
