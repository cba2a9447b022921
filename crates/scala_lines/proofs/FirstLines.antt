-- The first lines of a text, and which of them aren't comments.
use Rattle.std.proofs.Common.{◌≡◌, ℕ, zero, suc, ◌+◌, ◌<◌, ◌≤◌, List, [], ◌∷◌, length, take, Bool, true, false, cond, refl, ap, arith}
use Rattle.scala_lines.specs.Lines.{Numbered, is_comment, content_from, content}
use Rattle.scala_lines.specs.Cuts.{number_at}

-- those in front of the line at place k, where some of them are left
abbrev AreFirst : ℕ → List Numbered → List Numbered → Type 0
AreFirst k left lines = (j : ℕ) × (j ≤ k) × (left ≡ take j lines)

-- one more line in front, which is a comment or isn't
one_more : (b : Bool) (line : Numbered) (left lines : List Numbered) (n k : ℕ) → line.number < n
    → ((i : ℕ) → n ≤ number_at i lines → AreFirst i left lines)
    → n ≤ number_at k (cond b lines (line ∷ lines)) → AreFirst k (cond b left (line ∷ left)) (cond b lines (line ∷ lines))
one_more true line left lines n k low rest few = rest k few
one_more false line left lines n zero low rest few = absurd (omega (arith, low, few))
one_more false line left lines n (suc k) low rest few = let r = rest k few in (suc r.0, omega (arith, r.1), ap (λ ls. line ∷ ls) r.2)

-- where the first line has the number m
cut_from : (m : ℕ) (lines : List (List ℕ)) (n k : ℕ) → 1 ≤ m → n + m ≤ number_at k (content_from m lines) → AreFirst k (content_from m (take n lines)) (content_from m lines)
cut_from m [] n k some few = absurd (omega (arith, some, few))
cut_from m (line ∷ lines) zero k some few = (0, omega arith, refl)
cut_from m (line ∷ lines) (suc n) k some few =
    one_more (is_comment line) (record { number = m; bytes = line }) (content_from (m + 1) (take n lines)) (content_from (m + 1) lines) (suc n + m) k (omega arith)
    (λ i h. cut_from (m + 1) lines n i (omega arith) (omega (arith, h))) few

-- and so many lines are left
whole_one : (b : Bool) (line : Numbered) (lines : List Numbered) (n k m : ℕ) → line.number ≡ m → suc n + m ≤ number_at k (cond b lines (line ∷ lines)) → (i : ℕ) × (n + (m + 1) ≤ number_at i lines)
whole_one true line lines n k m is few = (k, omega (arith, few))
whole_one false line lines n zero m is few = absurd (omega (arith, is, few))
whole_one false line lines n (suc k) m is few = (k, omega (arith, few))

as_many : (m : ℕ) (lines : List (List ℕ)) (n k : ℕ) → 1 ≤ m → n + m ≤ number_at k (content_from m lines) → length (take n lines) ≡ n
as_many m [] n k some few = absurd (omega (arith, some, few))
as_many m (line ∷ lines) zero k some few = refl
as_many m (line ∷ lines) (suc n) k some few =
    let w = whole_one (is_comment line) (record { number = m; bytes = line }) (content_from (m + 1) lines) n k m refl few in
    let h = as_many (m + 1) lines n w.0 (omega arith) w.1 in
    omega (arith, h)

pub cut_few : (lines : List (List ℕ)) (n k : ℕ) → n < number_at k (content lines)
    → (length (take n lines) ≡ n) × ((j : ℕ) × (j ≤ k) × (content (take n lines) ≡ take j (content lines)))
cut_few lines n k few = (as_many 1 lines n k (omega arith) (omega (arith, few)), cut_from 1 lines n k (omega arith) (omega (arith, few)))
