-- What a chain of squarings keeps.
use Rattle.std.proofs.Common.{◌≡◌, ℕ, zero, suc, ◌+◌, ◌-◌, ◌*◌, ◌^◌, ◌<◌, ◌≤◌, arith, refl, ◌∙◌, ap}
use Rattle.std.proofs.Math.Nat.{pow-suc, pow-zero, one-le-pow, mul-le-mul, mul-le-mul_left, mul-le-mul_right, le_of_mul-le-mul_left, le_trans}
use Rattle.std.proofs.lemmas.Nat.{pow-add}
use Rattle.std.proofs.lemmas.Grind.{pow_more}

-- After i squarings x / f * 2 ^ digits is at most (a / b) ^ (2 ^ i), and at least that less a part that each squaring
-- and each cut makes greater: a cut takes less than 1 / (f + 1) of a number.
pub record Chain (f a b i x digits : ℕ) : Type 0 where
  pub cuts : ℕ
  pub few : cuts + 1 ≤ 2 * 2 ^ i
  pub least : x * 2 ^ digits * b ^ (2 ^ i) ≤ f * a ^ (2 ^ i)
  pub most : f * a ^ (2 ^ i) * f ^ cuts ≤ x * 2 ^ digits * (f + 1) ^ cuts * b ^ (2 ^ i)

one_power : (n : ℕ) → n ^ 1 ≡ n
one_power n = grind (arith, pow-suc, pow-zero)

start_most : (f a b x : ℕ) → f ≤ x → f * a < (x + 1) * b → f * a * f ≤ x * 1 * (f + 1) * b
start_most f a b x top high =
    let rounded : (x + 1) * f ≤ x * (f + 1) = omega arith in
    let first : (x + 1) * f * b ≤ x * (f + 1) * b = mul-le-mul_right b rounded in
    let second : f * (f * a) ≤ f * ((x + 1) * b) = mul-le-mul_left f (omega arith) in
    omega (arith, first, second)

pub started : (f a b x : ℕ) → f ≤ x → x * b ≤ f * a → f * a < (x + 1) * b → Chain f a b 0 x 0
started f a b x top low high = record {
  cuts = 1;
  few = omega arith;
  least = rw (one_power a, one_power b) (omega arith);
  most = rw (one_power a, one_power b, one_power f, one_power (f + 1)) (start_most f a b x top high);
}

-- the square of a power of 2 ^ i
twice : (a i : ℕ) → a ^ (2 ^ (i + 1)) ≡ a ^ (2 ^ i) * a ^ (2 ^ i)
twice a i = ap (λ k. a ^ k) (let e : 2 ^ (i + 1) ≡ 2 ^ i + 2 ^ i = omega (arith, pow_more 2 i) in e) ∙ pow-add a (2 ^ i) (2 ^ i)

doubled : (digits d : ℕ) → 2 ^ (2 * digits + d) ≡ 2 ^ digits * 2 ^ digits * 2 ^ d
doubled digits d = pow-add 2 (2 * digits) d ∙ ap (λ p. p * 2 ^ d) (ap (λ k. 2 ^ k) (let e : 2 * digits ≡ digits + digits = omega arith in e) ∙ pow-add 2 digits digits)

more_cuts : (f c : ℕ) → f ^ (c + c + 1) ≡ f ^ c * f ^ c * f
more_cuts f c = pow-add f (c + c) 1 ∙ (rw (pow-add f c c, one_power f) refl)

-- the lower end squared, over plain numbers
square_least : (f x y t m aa bb : ℕ) → 0 < f → y * (f * t) ≤ x * x → x * m * bb ≤ f * aa → y * (m * m * t) * (bb * bb) ≤ f * (aa * aa)
square_least f x y t m aa bb above cut h =
    let first : (y * (f * t)) * (m * m * (bb * bb)) ≤ (x * x) * (m * m * (bb * bb)) = mul-le-mul_right (m * m * (bb * bb)) cut in
    let second : (x * m * bb) * (x * m * bb) ≤ (f * aa) * (f * aa) = mul-le-mul h h in
    le_of_mul-le-mul_left {k = f} (omega (arith, first, second)) above

square_most : (f x y t m aa bb fc gc : ℕ) → 0 < f → f ≤ y → x * x < (y + 1) * (f * t) → f * aa * fc ≤ x * m * gc * bb
    → f * (aa * aa) * (fc * fc * f) ≤ y * (m * m * t) * (gc * gc * (f + 1)) * (bb * bb)
square_most f x y t m aa bb fc gc above top cut h =
    let rounded : (y + 1) * f ≤ y * (f + 1) = omega arith in
    let cut2 : x * x * f ≤ (y + 1) * f * (f * t) = omega (arith, mul-le-mul_right f cut) in
    let cut3 : (y + 1) * f * (f * t) ≤ y * (f + 1) * (f * t) = mul-le-mul_right (f * t) rounded in
    let first : (x * x * f) * (m * m * (gc * gc) * (bb * bb)) ≤ (y * (f + 1) * (f * t)) * (m * m * (gc * gc) * (bb * bb)) = mul-le-mul_right (m * m * (gc * gc) * (bb * bb)) (le_trans cut2 cut3) in
    let second : (f * aa * fc) * (f * aa * fc) * f ≤ (x * m * gc * bb) * (x * m * gc * bb) * f = mul-le-mul_right f (mul-le-mul h h) in
    le_of_mul-le-mul_left {k = f} (omega (arith, first, second)) above

pub stepped : (f a b i x y digits d : ℕ) → 0 < f → f ≤ y → y * (f * 2 ^ d) ≤ x * x → x * x < (y + 1) * (f * 2 ^ d) → Chain f a b i x digits → Chain f a b (i + 1) y (2 * digits + d)
stepped f a b i x y digits d above top low high h = record {
  cuts = h.cuts + h.cuts + 1;
  few = omega (arith, h.few, pow_more 2 i);
  least = rw (doubled digits d, twice a i, twice b i) (square_least f x y (2 ^ d) (2 ^ digits) (a ^ (2 ^ i)) (b ^ (2 ^ i)) above low h.least);
  most = rw (doubled digits d, twice a i, twice b i, more_cuts f h.cuts, more_cuts (f + 1) h.cuts)
      (square_most f x y (2 ^ d) (2 ^ digits) (a ^ (2 ^ i)) (b ^ (2 ^ i)) (f ^ h.cuts) ((f + 1) ^ h.cuts) above top high h.most);
}

-- few cuts take little: (1 + 1 / f) ^ c is at most f / (f - c)
pub cuts_small : (c r f : ℕ) → c + r ≡ f → (f + 1) ^ c * r ≤ f ^ c * f
cuts_small zero r f e = rw (pow-zero (f + 1), pow-zero f) omega arith
cuts_small (suc c) r f e =
    let before : (f + 1) ^ c * (r + 1) ≤ f ^ c * f = cuts_small c (r + 1) f (omega arith) in
    let wider : (f + 1) * r ≤ (r + 1) * f = omega arith in
    let first : (f + 1) ^ c * ((f + 1) * r) ≤ (f + 1) ^ c * ((r + 1) * f) = mul-le-mul_left ((f + 1) ^ c) wider in
    let second : (f + 1) ^ c * (r + 1) * f ≤ f ^ c * f * f = mul-le-mul_right f before in
    rw (pow-suc (f + 1) c, pow-suc f c) (omega (arith, first, second))

-- with at most half as many cuts as f, the whole loss is less than a half
pub half : (f c : ℕ) → 0 < f → 2 * c ≤ f → (f + 1) ^ c ≤ 2 * f ^ c
half f c above few =
    let small : (f + 1) ^ c * (f - c) ≤ f ^ c * f = cuts_small c (f - c) f (omega arith) in
    let most : (f + 1) ^ c * f ≤ (f + 1) ^ c * (2 * (f - c)) = mul-le-mul_left ((f + 1) ^ c) (omega arith) in
    le_of_mul-le-mul_left {k = f} (omega (arith, small, most)) above

pub ended_least : (f a b i x digits : ℕ) → 0 < f → f ≤ x → Chain f a b i x digits → 2 ^ digits * b ^ (2 ^ i) ≤ a ^ (2 ^ i)
ended_least f a b i x digits above top h =
    let first : f * (2 ^ digits * b ^ (2 ^ i)) ≤ x * (2 ^ digits * b ^ (2 ^ i)) = mul-le-mul_right (2 ^ digits * b ^ (2 ^ i)) top in
    le_of_mul-le-mul_left {k = f} (omega (arith, first, h.least)) above

most_numbers : (f x m aa bb fc gc : ℕ) → 0 < f → 0 < fc → x < 2 * f → gc ≤ 2 * fc → f * aa * fc ≤ x * m * gc * bb → aa ≤ m * 4 * bb
most_numbers f x m aa bb fc gc above fc_above low small h =
    let first : x * gc ≤ (2 * f) * (2 * fc) = mul-le-mul (omega arith) small in
    let second : (x * gc) * (m * bb) ≤ ((2 * f) * (2 * fc)) * (m * bb) = mul-le-mul_right (m * bb) first in
    let third : f * (fc * aa) ≤ f * (fc * (m * 4 * bb)) = omega (arith, second, h) in
    le_of_mul-le-mul_left {k = fc} (le_of_mul-le-mul_left {k = f} third above) fc_above

pub ended_most : (f a b i x digits : ℕ) → 0 < f → x < 2 * f → 4 * 2 ^ i ≤ f → Chain f a b i x digits → a ^ (2 ^ i) ≤ 2 ^ (digits + 2) * b ^ (2 ^ i)
ended_most f a b i x digits above low few h =
    rw (pow-add 2 digits 2)
    (most_numbers f x (2 ^ digits) (a ^ (2 ^ i)) (b ^ (2 ^ i)) (f ^ h.cuts) ((f + 1) ^ h.cuts) above (omega (arith, one-le-pow h.cuts f above)) low
    (half f h.cuts above (omega (arith, h.few, few))) h.most)
