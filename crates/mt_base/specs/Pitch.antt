-- Pitches without logarithms (this project's own).
use Rattle.std.specs.Prelude.{ℕ, zero, suc, ◌*◌, ◌^◌, ◌≡◌, ◌<◌, ◌≤◌, ℤ, pos, ◌+ℤ◌, ◌-ℤ◌}
use Rattle.mt_base.specs.Grains.{octave}

-- octave * log2 (a / b) + c grains above key 0, for a and b above 0
pub record Pitch : Type 0 where
  pub a : ℕ
  pub b : ℕ
  pub c : ℤ

-- a ratio above key 0
abbrev pub ratio : ℕ → ℕ → Pitch
ratio a b = record { a = a; b = b; c = pos 0 }

-- a whole number of grains above key 0
abbrev pub exactly : ℤ → Pitch
exactly n = record { a = 1; b = 1; c = n }

-- both above 0, so that the logarithm exists
pub record IsPitch (p : Pitch) : Type 0 where
  pub above : 0 < p.a
  pub below : 0 < p.b

-- The pitch is at least n grains: 2 ^ (n - c) * b ^ octave ≤ a ^ octave, with the power of two on the side on which it
-- is whole. Each way of writing n - c as up - down says the same.
pub record AtLeast (p : Pitch) (n : ℤ) : Type 0 where
  pub holds : (up down : ℕ) → n +ℤ pos down ≡ p.c +ℤ pos up → 2 ^ up * p.b ^ octave ≤ 2 ^ down * p.a ^ octave

-- The pitch is at most n grains: the inequality turned round.
pub record AtMost (p : Pitch) (n : ℤ) : Type 0 where
  pub holds : (up down : ℕ) → n +ℤ pos down ≡ p.c +ℤ pos up → 2 ^ down * p.a ^ octave ≤ 2 ^ up * p.b ^ octave

-- The pitch is at most d grains from n.
pub record Within (p : Pitch) (n : ℤ) (d : ℕ) : Type 0 where
  pub least : AtLeast p (n -ℤ pos d)
  pub most : AtMost p (n +ℤ pos d)

-- the sum and the difference of two pitches
abbrev pub added : Pitch → Pitch → Pitch
added p q = record { a = p.a * q.a; b = p.b * q.b; c = p.c +ℤ q.c }

abbrev pub subtracted : Pitch → Pitch → Pitch
subtracted p q = record { a = p.a * q.b; b = p.b * q.a; c = p.c -ℤ q.c }

-- the sum of j equal pitches
abbrev pub times : ℕ → Pitch → Pitch
times zero p = exactly (pos 0)
times (suc j) p = added p (times j p)
