-- From the digits of a logarithm to a bracket of grains.
use Rattle.std.proofs.Common.{◌≡◌, ℕ, ◌+◌, ◌*◌, ◌^◌, ◌<◌, ◌≤◌, ℤ, pos, ◌+ℤ◌, ◌-ℤ◌, arith, sym, ◌∙◌, ap, subst}
use Rattle.std.specs.Prelude.{◌≤ℤ◌, neg_ℤ}
use Rattle.std.proofs.Math.Nat.{mul-le-mul_left, le_of_mul-le-mul_left}
use Rattle.std.proofs.lemmas.Nat.{pow-add, pow_pos, mul-pow}
use Rattle.std.proofs.lemmas.Int.{ints}
use Rattle.mt_base.specs.Grains.{octave}
use Rattle.mt_base.specs.Pitch.{Pitch, IsPitch, AtLeast, AtMost, ratio}
use Rattle.mt_base.specs.Laws.{PowerOfPower, PowersTell, EndsInOrder, LeastOfOctaves, MostOfOctaves, LeastOfOctavesDown, MostOfOctavesDown}
use Rattle.log_bracket.specs.Digits.{IsLogarithm, power}
use Rattle.log_bracket.proofs.Roots.{root_least, root_most}

power_above : 0 < power
unfolding power
power_above = omega arith

-- what holds at one pair of powers of two holds at each pair that differs as much
any_pair : (x y u d u2 d2 : ℕ) → u2 + d ≡ u + d2 → 2 ^ u * x ≤ 2 ^ d * y → 2 ^ u2 * x ≤ 2 ^ d2 * y
any_pair x y u d u2 d2 e h =
    let powers : 2 ^ u2 * 2 ^ d ≡ 2 ^ u * 2 ^ d2 = sym (pow-add 2 u2 d) ∙ ap (λ k. 2 ^ k) e ∙ pow-add 2 u d2 in
    let more : 2 ^ d2 * (2 ^ u * x) ≤ 2 ^ d2 * (2 ^ d * y) = mul-le-mul_left (2 ^ d2) h in
    le_of_mul-le-mul_left {k = 2 ^ d} (omega (arith, more, ap (λ p. p * x) powers)) (pow_pos d)

-- powers of two taken out of a power
outside : PowerOfPower → (q b k g : ℕ) → 2 ^ g * (2 ^ q * b) ^ k ≡ 2 ^ (g + q * k) * b ^ k
outside of_power q b k g = rw (mul-pow (2 ^ q) b k, ← of_power 2 q k, pow-add 2 g (q * k)) (grind arith)

outside_alone : PowerOfPower → (q b k : ℕ) → (2 ^ q * b) ^ k ≡ 2 ^ (q * k) * b ^ k
outside_alone of_power q b k = mul-pow (2 ^ q) b k ∙ ap (λ x. x * b ^ k) (sym (of_power 2 q k))

joined : (p d a above : ℕ) → above ≡ 2 ^ p * a → 2 ^ d * above ≡ 2 ^ (p + d) * a
joined p d a above is = omega (arith, ap (λ x. 2 ^ d * x) is, ap (λ x. x * a) (pow-add 2 p d))

placed_least : PowerOfPower → (a b p q g : ℕ) (n : ℤ) → n +ℤ pos (p * octave) ≡ pos (g + q * octave) → 2 ^ g * (2 ^ q * b) ^ octave ≤ (2 ^ p * a) ^ octave → AtLeast (ratio a b) n
placed_least of_power a b p q g n e h =
    let at_one : 2 ^ (g + q * octave) * b ^ octave ≤ 2 ^ (p * octave) * a ^ octave = rw (← outside of_power q b octave g, ← outside_alone of_power p a octave) h in
    record { holds = λ u d e2. any_pair (b ^ octave) (a ^ octave) (g + q * octave) (p * octave) u d (omega (arith, ints, e, e2)) at_one }

placed_most : PowerOfPower → (a b p q g : ℕ) (n : ℤ) → n +ℤ pos (p * octave) ≡ pos (g + q * octave) → (2 ^ p * a) ^ octave ≤ 2 ^ g * (2 ^ q * b) ^ octave → AtMost (ratio a b) n
placed_most of_power a b p q g n e h =
    let at_one : 2 ^ (p * octave) * a ^ octave ≤ 2 ^ (g + q * octave) * b ^ octave = rw (← outside of_power q b octave g, ← outside_alone of_power p a octave) h in
    record { holds = λ u d e2. any_pair (a ^ octave) (b ^ octave) (p * octave) (g + q * octave) d u (omega (arith, ints, e, e2)) at_one }

pub digits_least : PowerOfPower → PowersTell → (a b above below p q d g digits : ℕ) (n : ℤ) → above ≡ 2 ^ p * a → below ≡ 2 ^ q * b → IsLogarithm digits (2 ^ d * above) below → g * power ≤ octave * digits → n +ℤ pos ((p + d) * octave) ≡ pos (g + q * octave) → AtLeast (ratio a b) n
digits_least of_power tell a b above below p q d g digits n is is2 log low e =
    placed_least of_power a b (p + d) q g n e
    (rw (← is2, ← joined p d a above is) (root_least of_power tell octave power digits g (2 ^ d * above) below power_above low log.least))

pub digits_most : PowerOfPower → PowersTell → (a b above below p q d g digits : ℕ) (n : ℤ) → above ≡ 2 ^ p * a → below ≡ 2 ^ q * b → IsLogarithm digits (2 ^ d * above) below → octave * (digits + 2) ≤ g * power → n +ℤ pos ((p + d) * octave) ≡ pos (g + q * octave) → AtMost (ratio a b) n
digits_most of_power tell a b above below p q d g digits n is is2 log high e =
    placed_most of_power a b (p + d) q g n e
    (rw (← is2, ← joined p d a above is) (root_most of_power tell octave power (digits + 2) g (2 ^ d * above) below power_above high log.most))

-- equal mantissas make whole octaves
pub equal_least : PowerOfPower → (a b above p q : ℕ) (n : ℤ) → above ≡ 2 ^ p * a → above ≡ 2 ^ q * b → n +ℤ pos (p * octave) ≡ pos (0 + q * octave) → AtLeast (ratio a b) n
equal_least of_power a b above p q n is is2 e = placed_least of_power a b p q 0 n e (rw (← is, ← is2) omega arith)

pub equal_most : PowerOfPower → (a b above p q : ℕ) (n : ℤ) → above ≡ 2 ^ p * a → above ≡ 2 ^ q * b → n +ℤ pos (p * octave) ≡ pos (0 + q * octave) → AtMost (ratio a b) n
equal_most of_power a b above p q n is is2 e = placed_most of_power a b p q 0 n e (rw (← is, ← is2) omega arith)

-- a pitch has one exact number of grains
only : EndsInOrder → (p : Pitch) (n m : ℤ) → IsPitch p → AtLeast p n → AtMost p n → AtLeast p m → AtMost p m → n ≡ m
only in_order p n m is low high low2 high2 =
    let up : n ≤ℤ m = in_order p n m is low high2 in
    let down : m ≤ℤ n = in_order p m n is low2 high in
    omega (arith, ints)

pub octaves_only : EndsInOrder → LeastOfOctaves → MostOfOctaves → (a b j : ℕ) (n : ℤ) → 0 < a → 0 < b → a ≡ 2 ^ j * b → AtLeast (ratio a b) n → AtMost (ratio a b) n → n ≡ pos (j * octave)
octaves_only in_order least most a b j n above above2 is low high =
    only in_order (ratio a b) n (pos (j * octave)) (record { above = above; below = above2 }) low high
    (subst (λ x. AtLeast (ratio x b) (pos (j * octave))) (sym is) (least b j))
    (subst (λ x. AtMost (ratio x b) (pos (j * octave))) (sym is) (most b j))

pub octaves_down_only : EndsInOrder → LeastOfOctavesDown → MostOfOctavesDown → (a b j : ℕ) (n : ℤ) → 0 < a → 0 < b → b ≡ 2 ^ j * a → AtLeast (ratio a b) n → AtMost (ratio a b) n → n ≡ neg_ℤ (pos (j * octave))
octaves_down_only in_order least most a b j n above above2 is low high =
    only in_order (ratio a b) n (neg_ℤ (pos (j * octave))) (record { above = above; below = above2 }) low high
    (subst (λ x. AtLeast (ratio a x) (neg_ℤ (pos (j * octave)))) (sym is) (least a j))
    (subst (λ x. AtMost (ratio a x) (neg_ℤ (pos (j * octave)))) (sym is) (most a j))

near_by : (low high digits : ℕ) → octave * digits < (low + 1) * power → high * power < octave * (digits + 2) + power → high ≤ low + 18000
unfolding octave power
near_by low high digits cut cut2 = omega (arith, cut, cut2)

-- fewer than 2 octaves
pub small_down : (low digits : ℕ) → digits < 2 ^ 32 → low * power ≤ octave * digits → low < 2 ^ 46
unfolding octave power
small_down low digits few cut = omega (arith, few, cut)

pub small_up : (high digits : ℕ) → digits < 2 ^ 32 → high * power < octave * (digits + 2) + power → high < 2 ^ 46
unfolding octave power
small_up high digits few cut = omega (arith, few, cut)

-- the ends of a bracket are as far apart as their grains
pub apart : (low high p q digits : ℕ) (n m : ℤ) → octave * digits < (low + 1) * power → high * power < octave * (digits + 2) + power
    → n +ℤ pos (p * octave) ≡ pos (low + q * octave) → m +ℤ pos (p * octave) ≡ pos (high + q * octave) → (m -ℤ n) ≤ℤ pos 18000
apart low high p q digits n m cut cut2 e e2 =
    let near : high ≤ low + 18000 = near_by low high digits cut cut2 in
    omega (arith, ints, e, e2)

ordered_by : (low high digits : ℕ) → low * power ≤ octave * digits → octave * (digits + 2) ≤ high * power → low ≤ high
unfolding octave power
ordered_by low high digits cut cut2 = omega (arith, cut, cut2)

pub ordered : (low high p q digits : ℕ) (n m : ℤ) → low * power ≤ octave * digits → octave * (digits + 2) ≤ high * power
    → n +ℤ pos (p * octave) ≡ pos (low + q * octave) → m +ℤ pos (p * octave) ≡ pos (high + q * octave) → n ≤ℤ m
ordered low high p q digits n m cut cut2 e e2 =
    let up : low ≤ high = ordered_by low high digits cut cut2 in
    omega (arith, ints, e, e2)

-- neither end is far from 0
pub not_low : (g p q : ℕ) (n : ℤ) → p ≤ 64 → n +ℤ pos (p * octave) ≡ pos (g + q * octave) → neg_ℤ (pos (2 ^ 52)) ≤ℤ n
unfolding octave
not_low g p q n few e = omega (arith, ints, e, few)

pub not_high : (g p q : ℕ) (n : ℤ) → g < 2 ^ 46 → q < 64 → n +ℤ pos (p * octave) ≡ pos (g + q * octave) → n ≤ℤ pos (2 ^ 52)
unfolding octave
not_high g p q n few few2 e = omega (arith, ints, e, few, few2)
