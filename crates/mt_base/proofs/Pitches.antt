-- Bounds of pitches.
use Rattle.std.proofs.Common.{◌≡◌, ℕ, zero, suc, ◌+◌, ◌*◌, ◌^◌, ◌<◌, ◌≤◌, ℤ, pos, negsuc, ◌+ℤ◌, ◌-ℤ◌, ◌*ℤ◌, arith, refl, sym, ◌∙◌, ap, subst}
use Rattle.std.specs.Prelude.{◌≤ℤ◌, neg_ℤ}
use Rattle.std.proofs.Math.IntN.{+ℤ_comm, suc_ℤ-*ℤ}
use Rattle.std.proofs.Math.Nat.{pow-le-pow_left, one-le-mul, le-mul_of_pos_right, le_of_mul-le-mul_left, mul-le-mul, mul_comm, le_trans}
use Rattle.std.proofs.Math.Pow.{pow_mono}
use Rattle.std.proofs.lemmas.Nat.{pow-add, mul-pow}
use Rattle.std.proofs.lemmas.Int.{ints}
use Rattle.mt_base.specs.Grains.{octave}
use Rattle.mt_base.specs.Pitch.{Pitch, IsPitch, AtLeast, AtMost, ratio, exactly, added, subtracted, times}
use Rattle.mt_base.proofs.Powers.{pow_mul, pow_above, le_of_pow_two-le, cross, any_pair}

-- Two numbers, of which the first less the second is n - c.
pub record Pair (n c : ℤ) : Type 0 where
  pub up : ℕ
  pub down : ℕ
  pub is : n +ℤ pos down ≡ c +ℤ pos up

pub pair : (n c : ℤ) → Pair n c
pair (pos n) (pos c) = record { up = n; down = c; is = omega (arith, ints) }
pair (pos n) (negsuc c) = record { up = n + suc c; down = 0; is = omega (arith, ints) }
pair (negsuc n) (pos c) = record { up = 0; down = suc n + c; is = omega (arith, ints) }
pair (negsuc n) (negsuc c) = record { up = suc c; down = suc n; is = omega (arith, ints) }

-- one pair is enough
pub least_by : (p : Pitch) (n : ℤ) (u d : ℕ) → n +ℤ pos d ≡ p.c +ℤ pos u → 2 ^ u * p.b ^ octave ≤ 2 ^ d * p.a ^ octave → AtLeast p n
least_by p n u d e h = record {
  holds = λ u2 d2 e2. any_pair (p.b ^ octave) (p.a ^ octave) u d u2 d2 (omega (arith, ints)) h;
}

pub most_by : (p : Pitch) (n : ℤ) (u d : ℕ) → n +ℤ pos d ≡ p.c +ℤ pos u → 2 ^ d * p.a ^ octave ≤ 2 ^ u * p.b ^ octave → AtMost p n
most_by p n u d e h = record {
  holds = λ u2 d2 e2. any_pair (p.a ^ octave) (p.b ^ octave) d u d2 u2 (omega (arith, ints)) h;
}

-- products of two such inequalities
product : (u d b a u2 d2 b2 a2 k : ℕ) → 2 ^ u * b ^ k ≤ 2 ^ d * a ^ k → 2 ^ u2 * b2 ^ k ≤ 2 ^ d2 * a2 ^ k → 2 ^ (u + u2) * (b * b2) ^ k ≤ 2 ^ (d + d2) * (a * a2) ^ k
product u d b a u2 d2 b2 a2 k h h2 =
    rw (pow-add 2 u u2, pow-add 2 d d2, mul-pow b b2 k, mul-pow a a2 k, cross (2 ^ u) (2 ^ u2) (b ^ k) (b2 ^ k), cross (2 ^ d) (2 ^ d2) (a ^ k) (a2 ^ k)) (mul-le-mul h h2)

pub least_of_sum : (p q : Pitch) (n m : ℤ) → AtLeast p n → AtLeast q m → AtLeast (added p q) (n +ℤ m)
least_of_sum p q n m h i =
    let s = pair n p.c in
    let t = pair m q.c in
    least_by (added p q) (n +ℤ m) (s.up + t.up) (s.down + t.down) (omega (arith, ints, s.is, t.is))
    (product s.up s.down p.b p.a t.up t.down q.b q.a octave (h.holds s.up s.down s.is) (i.holds t.up t.down t.is))

pub most_of_sum : (p q : Pitch) (n m : ℤ) → AtMost p n → AtMost q m → AtMost (added p q) (n +ℤ m)
most_of_sum p q n m h i =
    let s = pair n p.c in
    let t = pair m q.c in
    most_by (added p q) (n +ℤ m) (s.up + t.up) (s.down + t.down) (omega (arith, ints, s.is, t.is))
    (product s.down s.up p.a p.b t.down t.up q.a q.b octave (h.holds s.up s.down s.is) (i.holds t.up t.down t.is))

pub least_of_difference : (p q : Pitch) (n m : ℤ) → AtLeast p n → AtMost q m → AtLeast (subtracted p q) (n -ℤ m)
least_of_difference p q n m h i =
    let s = pair n p.c in
    let t = pair m q.c in
    least_by (subtracted p q) (n -ℤ m) (s.up + t.down) (s.down + t.up) (omega (arith, ints, s.is, t.is))
    (product s.up s.down p.b p.a t.down t.up q.a q.b octave (h.holds s.up s.down s.is) (i.holds t.up t.down t.is))

pub most_of_difference : (p q : Pitch) (n m : ℤ) → AtMost p n → AtLeast q m → AtMost (subtracted p q) (n -ℤ m)
most_of_difference p q n m h i =
    let s = pair n p.c in
    let t = pair m q.c in
    most_by (subtracted p q) (n -ℤ m) (s.up + t.down) (s.down + t.up) (omega (arith, ints, s.is, t.is))
    (product s.down s.up p.a p.b t.up t.down q.b q.a octave (h.holds s.up s.down s.is) (i.holds t.up t.down t.is))

pub least_of_less : (p : Pitch) (n m : ℤ) → m ≤ℤ n → AtLeast p n → AtLeast p m
least_of_less p n m l h = record {
  holds = λ u d e.
      let s = pair n p.c in
      let less : u + s.down ≤ s.up + d = omega (arith, ints, s.is) in
      let at_s : 2 ^ s.up * p.b ^ octave ≤ 2 ^ s.down * p.a ^ octave = h.holds s.up s.down s.is in
      let more : 2 ^ (u + s.down) * p.b ^ octave ≤ 2 ^ (s.up + d) * p.b ^ octave = mul-le-mul (pow_mono less) (omega arith) in
      let at_d : 2 ^ (s.up + d) * p.b ^ octave ≤ 2 ^ (s.down + d) * p.a ^ octave =
      any_pair (p.b ^ octave) (p.a ^ octave) s.up s.down (s.up + d) (s.down + d) (omega arith) at_s in
      any_pair (p.b ^ octave) (p.a ^ octave) (u + s.down) (s.down + d) u d (omega arith) (le_trans more at_d);
}

pub most_of_more : (p : Pitch) (n m : ℤ) → n ≤ℤ m → AtMost p n → AtMost p m
most_of_more p n m l h = record {
  holds = λ u d e.
      let s = pair n p.c in
      let less : s.up + d ≤ u + s.down = omega (arith, ints, s.is) in
      let at_s : 2 ^ s.down * p.a ^ octave ≤ 2 ^ s.up * p.b ^ octave = h.holds s.up s.down s.is in
      let at_d : 2 ^ (s.down + d) * p.a ^ octave ≤ 2 ^ (s.up + d) * p.b ^ octave =
      any_pair (p.a ^ octave) (p.b ^ octave) s.down s.up (s.down + d) (s.up + d) (omega arith) at_s in
      let more : 2 ^ (s.up + d) * p.b ^ octave ≤ 2 ^ (u + s.down) * p.b ^ octave = mul-le-mul (pow_mono less) (omega arith) in
      any_pair (p.a ^ octave) (p.b ^ octave) (s.down + d) (u + s.down) d u (omega arith) (le_trans at_d more);
}

pub ends_in_order : (p : Pitch) (n m : ℤ) → IsPitch p → AtLeast p n → AtMost p m → n ≤ℤ m
ends_in_order p n m is h i =
    let s = pair n p.c in
    let t = pair m p.c in
    let low : 2 ^ (s.up + t.down) * p.b ^ octave ≤ 2 ^ (s.down + t.down) * p.a ^ octave =
    any_pair (p.b ^ octave) (p.a ^ octave) s.up s.down (s.up + t.down) (s.down + t.down) (omega arith) (h.holds s.up s.down s.is) in
    let high : 2 ^ (s.down + t.down) * p.a ^ octave ≤ 2 ^ (s.down + t.up) * p.b ^ octave =
    any_pair (p.a ^ octave) (p.b ^ octave) t.down t.up (s.down + t.down) (s.down + t.up) (omega arith) (i.holds t.up t.down t.is) in
    let both : p.b ^ octave * 2 ^ (s.up + t.down) ≤ p.b ^ octave * 2 ^ (s.down + t.up) =
    rw (mul_comm (p.b ^ octave) (2 ^ (s.up + t.down)), mul_comm (p.b ^ octave) (2 ^ (s.down + t.up))) (le_trans low high) in
    let powers : 2 ^ (s.up + t.down) ≤ 2 ^ (s.down + t.up) = le_of_mul-le-mul_left {k = p.b ^ octave} both (pow_above p.b octave is.below) in
    let order : s.up + t.down ≤ s.down + t.up = le_of_pow_two-le (s.up + t.down) (s.down + t.up) powers in
    omega (arith, ints, s.is, t.is)

pub least_of_exact : (n : ℤ) → AtLeast (exactly n) n
least_of_exact n = least_by (exactly n) n 0 0 refl (omega arith)

pub most_of_exact : (n : ℤ) → AtMost (exactly n) n
most_of_exact n = most_by (exactly n) n 0 0 refl (omega arith)

none_of : (n : ℤ) → pos 0 ≡ pos 0 *ℤ n
none_of n = omega (arith, ints)

one_more : (j : ℕ) (n : ℤ) → n +ℤ pos j *ℤ n ≡ pos (suc j) *ℤ n
one_more j n = +ℤ_comm n (pos j *ℤ n) ∙ sym (suc_ℤ-*ℤ (pos j) n)

pub least_of_multiple : (p : Pitch) (n : ℤ) (j : ℕ) → AtLeast p n → AtLeast (times j p) (pos j *ℤ n)
least_of_multiple p n zero h = subst (λ z. AtLeast (exactly (pos 0)) z) (none_of n) (least_of_exact (pos 0))
least_of_multiple p n (suc j) h = subst (λ z. AtLeast (times (suc j) p) z) (one_more j n) (least_of_sum p (times j p) n (pos j *ℤ n) h (least_of_multiple p n j h))

pub most_of_multiple : (p : Pitch) (n : ℤ) (j : ℕ) → AtMost p n → AtMost (times j p) (pos j *ℤ n)
most_of_multiple p n zero h = subst (λ z. AtMost (exactly (pos 0)) z) (none_of n) (most_of_exact (pos 0))
most_of_multiple p n (suc j) h = subst (λ z. AtMost (times (suc j) p) z) (one_more j n) (most_of_sum p (times j p) n (pos j *ℤ n) h (most_of_multiple p n j h))

octave_powers : (j b : ℕ) → (2 ^ j * b) ^ octave ≡ 2 ^ (j * octave) * b ^ octave
octave_powers j b = mul-pow (2 ^ j) b octave ∙ ap (λ x. x * b ^ octave) (sym (pow_mul 2 j octave))

pub least_of_octaves : (b j : ℕ) → AtLeast (ratio (2 ^ j * b) b) (pos (j * octave))
least_of_octaves b j = least_by (ratio (2 ^ j * b) b) (pos (j * octave)) (j * octave) 0 (omega (arith, ints)) (rw (octave_powers j b) omega arith)

pub most_of_octaves : (b j : ℕ) → AtMost (ratio (2 ^ j * b) b) (pos (j * octave))
most_of_octaves b j = most_by (ratio (2 ^ j * b) b) (pos (j * octave)) (j * octave) 0 (omega (arith, ints)) (rw (octave_powers j b) omega arith)

pub least_of_octaves_down : (a j : ℕ) → AtLeast (ratio a (2 ^ j * a)) (neg_ℤ (pos (j * octave)))
least_of_octaves_down a j = least_by (ratio a (2 ^ j * a)) (neg_ℤ (pos (j * octave))) 0 (j * octave) (omega (arith, ints)) (rw (octave_powers j a) omega arith)

pub most_of_octaves_down : (a j : ℕ) → AtMost (ratio a (2 ^ j * a)) (neg_ℤ (pos (j * octave)))
most_of_octaves_down a j = most_by (ratio a (2 ^ j * a)) (neg_ℤ (pos (j * octave))) 0 (j * octave) (omega (arith, ints)) (rw (octave_powers j a) omega arith)

zero_of : (a v : ℕ) → 0 < a → a * v ≤ 0 → v ≡ 0
zero_of a v above h = omega (arith, le-mul_of_pos_right {m = a} v above)

-- a fraction in a chain of three: x * b ≤ y * a and a * v ≤ u * b give x * v ≤ y * u
chain : (x y a b u v : ℕ) → 0 < a → x * b ≤ y * a → a * v ≤ u * b → x * v ≤ y * u
chain x y a zero u v above h i =
    let none : v ≡ 0 = zero_of a v above (omega (arith, i)) in
    rw none omega arith
chain x y a (suc b) u v above h i =
    let both : (x * suc b) * (a * v) ≤ (y * a) * (u * suc b) = mul-le-mul h i in
    le_of_mul-le-mul_left {k = a * suc b} (omega (arith, both)) (omega (arith, one-le-mul {a = a} {b = suc b} above (omega arith)))

pub least_of_greater : (p q : Pitch) (n : ℤ) → 0 < p.a → p.c ≡ q.c → p.a * q.b ≤ q.a * p.b → AtLeast p n → AtLeast q n
least_of_greater p q n above same l h = record {
  holds = λ u d e.
      chain (2 ^ u) (2 ^ d) (p.a ^ octave) (p.b ^ octave) (q.a ^ octave) (q.b ^ octave) (pow_above p.a octave above)
      (h.holds u d (rw same e))
      (rw (← mul-pow p.a q.b octave, ← mul-pow q.a p.b octave) (pow-le-pow_left l octave));
}

pub most_of_smaller : (p q : Pitch) (n : ℤ) → 0 < p.b → p.c ≡ q.c → q.a * p.b ≤ p.a * q.b → AtMost p n → AtMost q n
most_of_smaller p q n above same l h = record {
  holds = λ u d e.
      chain (2 ^ d) (2 ^ u) (p.b ^ octave) (p.a ^ octave) (q.b ^ octave) (q.a ^ octave) (pow_above p.b octave above)
      (h.holds u d (rw same e))
      (rw (← mul-pow p.b q.a octave, ← mul-pow q.b p.a octave) (pow-le-pow_left (rw (mul_comm p.b q.a, mul_comm q.b p.a) l) octave));
}
