-- The lines of a text of the Scala file formats.
use Rattle.std.specs.Prelude.{ℕ, ◌+◌, ◌==◌, List, [], ◌∷◌, length, Bool, false, cond, not}
use Rattle.scala_lines.specs.Characters.{behind, after_blanks}

-- one more byte in front of the first piece
abbrev pub with_byte : ℕ → List (List ℕ) → List (List ℕ)
with_byte b [] = (b ∷ []) ∷ []
with_byte b (piece ∷ pieces) = (b ∷ piece) ∷ pieces

-- one more byte in front of a text that has been cut: LF ends a piece that is empty so far
abbrev pub cut_at : ℕ → List (List ℕ) → List (List ℕ)
cut_at b pieces = cond (b == 10) ([] ∷ pieces) (with_byte b pieces)

-- the text, cut at each LF; a last piece that is empty isn't there
abbrev pub pieces_of : List ℕ → List (List ℕ)
pieces_of [] = []
pieces_of (b ∷ bs) = cut_at b (pieces_of bs)

-- a piece without a CR at its end
abbrev pub without_cr : List ℕ → List ℕ
without_cr [] = []
without_cr (b ∷ []) = cond (b == 13) [] (b ∷ [])
without_cr (b ∷ c ∷ cs) = b ∷ without_cr (c ∷ cs)

abbrev pub lines_from : List (List ℕ) → List (List ℕ)
lines_from [] = []
lines_from (piece ∷ pieces) = without_cr piece ∷ lines_from pieces

-- the lines of a text, comments included
abbrev pub lines_of : List ℕ → List (List ℕ)
lines_of text = lines_from (pieces_of text)

-- a byte that doesn't end a line
abbrev pub is_inside : ℕ → Bool
is_inside b = not (b == 10)

-- the bytes from the first LF on
abbrev pub from_end : List ℕ → List ℕ
from_end text = behind is_inside text

-- a line whose first byte is !
abbrev pub is_comment : List ℕ → Bool
is_comment [] = false
is_comment (b ∷ bs) = b == 33

-- a line with its number in the text
pub record Numbered : Type 0 where
  pub number : ℕ
  pub bytes : List ℕ

-- one more line in front of those that are no comments
abbrev pub kept : ℕ → List ℕ → List Numbered → List Numbered
kept n line lines = cond (is_comment line) lines (record { number = n; bytes = line } ∷ lines)

-- The lines that aren't comments, with their numbers, where the first line has the number n.
abbrev pub content_from : ℕ → List (List ℕ) → List Numbered
content_from n [] = []
content_from n (line ∷ lines) = kept n line (content_from (n + 1) lines)

-- lines count from 1
abbrev pub content : List (List ℕ) → List Numbered
content lines = content_from 1 lines

-- one more line in front of those that have more than blanks
abbrev pub unless_blank : Numbered → List Numbered → List Numbered
unless_blank line lines = cond (length (after_blanks line.bytes) == 0) lines (line ∷ lines)

-- the lines that have more than blanks
abbrev pub entry_lines : List Numbered → List Numbered
entry_lines [] = []
entry_lines (line ∷ lines) = unless_blank line (entry_lines lines)
