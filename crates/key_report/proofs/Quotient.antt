-- A whole number divided by a positive one, rounded down.
use Rattle.std.proofs.Common.{◌≡◌, ◌<◌, ◌+◌, ◌*◌, ◌/◌, ◌%◌, ℕ, suc, refl, arith, pos, negsuc, ℤ, ◌+ℤ◌, ◌*ℤ◌, ◌≤ℤ◌, neg_ℤ}
use Rattle.std.specs.Int.{int_div_euclid}
use Rattle.std.proofs.lemmas.Int.{ints}
use Rattle.std.proofs.Math.Nat.{mod-add-div, mod-lt}

steps_pos : (s k : ℕ) → pos s *ℤ pos k ≡ pos (s * k)
steps_pos s k = refl

pub record IsQuotient (s : ℕ) (z q : ℤ) : Type 0 where
  pub low : (pos s *ℤ q) ≤ℤ z
  pub high : z ≤ℤ ((pos s *ℤ q) +ℤ pos s)

pub quotient : (s : ℕ) (z : ℤ) → 0 < s → IsQuotient s z (int_div_euclid z (pos s))
quotient s (pos a) l =
    let sum : a % s + s * (a / s) ≡ a = mod-add-div a s in
    let small : a % s < s = mod-lt a l in
    record {
      low = rw (steps_pos s (a / s)) (omega (arith, ints, sum, small));
      high = (let h : pos a ≤ℤ (pos (s * (a / s)) +ℤ pos s) = omega (arith, ints, sum, small) in h);
    }
quotient s (negsuc a) l =
    let sum : a % s + s * (a / s) ≡ a = mod-add-div a s in
    let small : a % s < s = mod-lt a l in
    let more : s * suc (a / s) ≡ s + s * (a / s) = grind arith in
    record {
      low = (let h : neg_ℤ (pos (s * suc (a / s))) ≤ℤ negsuc a = omega (arith, ints, sum, small, more) in h);
      high = (let h : negsuc a ≤ℤ (neg_ℤ (pos (s * suc (a / s))) +ℤ pos s) = omega (arith, ints, sum, small, more) in h);
    }
