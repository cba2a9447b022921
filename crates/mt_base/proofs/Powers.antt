-- Powers of whole numbers.
use Rattle.std.proofs.Common.{◌≡◌, ◌≢◌, ℕ, zero, suc, ◌+◌, ◌*◌, ◌^◌, ◌<◌, ◌≤◌, arith, refl, sym, ◌∙◌, ap}
use Rattle.std.proofs.Math.Nat.{pow-zero, pow-suc, one-le-pow, pow-lt-pow_left, le_of_mul-le-mul_left, mul-le-mul_left, mul_assoc, mul_comm, not-le_of_lt}
use Rattle.std.proofs.Math.Pow.{pow-lt}
use Rattle.std.proofs.lemmas.Nat.{pow-add, pow_pos}

pub one_pow : (k : ℕ) → 1 ^ k ≡ 1
one_pow zero = refl
one_pow (suc k) = grind (arith, one_pow k)

pub pow_mul : (n i j : ℕ) → n ^ (i * j) ≡ (n ^ i) ^ j
pow_mul n i zero = grind (arith, pow-zero)
pow_mul n i (suc j) =
    let e : i * suc j ≡ i * j + i = grind arith in
    rw (e, pow-add n (i * j) i, pow_mul n i j, pow-suc (n ^ i) j) refl

pub pow_above : (n k : ℕ) → 0 < n → 0 < n ^ k
pow_above n k h = omega (arith, one-le-pow k n h)

pub le_of_pow-le : (x y k : ℕ) → 0 < k → x ^ k ≤ y ^ k → x ≤ y
le_of_pow-le x y k above h =
    let ne : k ≢ zero = omega arith in
    let no : y < x → ⊥ = λ l. not-le_of_lt (pow-lt-pow_left {a = y} {b = x} {n = k} l ne) h in
    omega (arith, no)

pub le_of_pow_two-le : (i j : ℕ) → 2 ^ i ≤ 2 ^ j → i ≤ j
le_of_pow_two-le i j h =
    let no : j < i → ⊥ = λ l. not-le_of_lt (pow-lt {i = j} {j = i} l) h in
    omega (arith, no)

-- factors of a product, regrouped
pub swap : (a b c : ℕ) → a * (b * c) ≡ b * (a * c)
swap a b c = sym (mul_assoc a b c) ∙ ap (λ x. x * c) (mul_comm a b) ∙ mul_assoc b a c

pub cross : (a b c d : ℕ) → (a * b) * (c * d) ≡ (a * c) * (b * d)
cross a b c d = grind arith

-- what holds at one pair of powers of two holds at each pair that differs as much
pub any_pair : (b a u d u2 d2 : ℕ) → u2 + d ≡ u + d2 → 2 ^ u * b ≤ 2 ^ d * a → 2 ^ u2 * b ≤ 2 ^ d2 * a
any_pair b a u d u2 d2 e h =
    let powers : 2 ^ d * 2 ^ u2 ≡ 2 ^ d2 * 2 ^ u = sym (pow-add 2 d u2) ∙ ap (λ k. 2 ^ k) (let k : d + u2 ≡ d2 + u = omega (arith, e) in k) ∙ pow-add 2 d2 u in
    let left : 2 ^ d * (2 ^ u2 * b) ≡ 2 ^ d2 * (2 ^ u * b) = sym (mul_assoc (2 ^ d) (2 ^ u2) b) ∙ ap (λ x. x * b) powers ∙ mul_assoc (2 ^ d2) (2 ^ u) b in
    let right : 2 ^ d2 * (2 ^ d * a) ≡ 2 ^ d * (2 ^ d2 * a) = swap (2 ^ d2) (2 ^ d) a in
    le_of_mul-le-mul_left {k = 2 ^ d} (rw (left, ← right) (mul-le-mul_left (2 ^ d2) h)) (pow_pos d)
