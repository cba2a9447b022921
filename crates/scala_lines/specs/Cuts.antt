-- The first lines of a text.
use Rattle.std.specs.Prelude.{ℕ, zero, suc, ◌≡◌, ◌<◌, ◌≤◌, List, [], ◌∷◌, length, take}
use Rattle.scala_lines.specs.Lines.{Numbered, content}

-- the number of the line at this place among those that aren't comments, 0 where there is none
abbrev pub number_at : ℕ → List Numbered → ℕ
number_at k [] = 0
number_at zero (line ∷ lines) = line.number
number_at (suc k) (line ∷ lines) = number_at k lines

-- A text that is cut behind its first n lines, before the line at place k among those that aren't comments, has at most k
-- such lines, the first ones of the text.
abbrev pub CutLeavesFew : Type 0
CutLeavesFew = (lines : List (List ℕ)) (n k : ℕ) → n < number_at k (content lines)
    → (length (take n lines) ≡ n) × ((j : ℕ) × (j ≤ k) × (content (take n lines) ≡ take j (content lines)))
