-- Sets of channels as numbers.
use Rattle.std.proofs.Common.{◌≡◌, ◌<◌, ◌≤◌, ◌^◌, ℕ, zero, suc, ◌+◌, ◌*◌, ◌/◌, ◌%◌, Bool, true, false, nat_eq, arith, sym, ◌∙◌, ap, inl, inr}
use Rattle.std.proofs.Math.Nat.{pow-suc}
use Rattle.std.proofs.lemmas.Bool.{cases_eq, eq-eqb, ne_eqb}
use Rattle.retune_model.specs.Octave.{has_bit, names_channel}
use Rattle.octave_route.specs.Messages.{bit_of, as_number}

bit_is : (n : ℕ) → bit_of (nat_eq (n % 2) 1) ≡ n % 2
bit_is n =
    elim (cases_eq (n % 2) 1) [
      | inl e ↦ ap bit_of (eq-eqb (n % 2) 1 e) ∙ sym e
      | inr d ↦ let z : n % 2 ≡ 0 = omega (arith, d) in ap bit_of (ne_eqb (n % 2) 1 d) ∙ sym z
    ]

-- the bits of a number give it again
pub bits_of : (k n : ℕ) → n < 2 ^ k → as_number k (λ c. has_bit c n) ≡ n
bits_of zero n small = omega (arith, small)
bits_of (suc k) n small =
    let rest : as_number k (λ c. has_bit c (n / 2)) ≡ n / 2 = bits_of k (n / 2) (omega (arith, small, pow-suc 2 k)) in
    omega (arith, rest, bit_is n)

lowest : (b : Bool) (m : ℕ) → nat_eq ((bit_of b + 2 * m) % 2) 1 ≡ b
lowest true m = eq-eqb ((1 + 2 * m) % 2) 1 (omega arith)
lowest false m = ne_eqb ((0 + 2 * m) % 2) 1 (λ e. omega (arith, e))

others : (b : Bool) (m : ℕ) → (bit_of b + 2 * m) / 2 ≡ m
others true m = omega arith
others false m = omega arith

-- a bit of the number of a set
pub bit_named : (k : ℕ) (named : ℕ → Bool) (c : ℕ) → c < k → has_bit c (as_number k named) ≡ named c
bit_named zero named c inside = absurd (let no : ⊥ = omega (arith, inside) in no)
bit_named (suc k) named zero inside = lowest (named 0) (as_number k (λ c. named (suc c)))
bit_named (suc k) named (suc c) inside =
    ap (has_bit c) (others (named 0) (as_number k (λ c. named (suc c)))) ∙ bit_named k (λ c. named (suc c)) c (omega (arith, inside))

bit_small : (b : Bool) → bit_of b ≤ 1
bit_small true = omega arith
bit_small false = omega arith

pub number_small : (k : ℕ) (named : ℕ → Bool) → as_number k named < 2 ^ k
number_small zero named = omega arith
number_small (suc k) named =
    omega (arith, bit_small (named 0), number_small k (λ c. named (suc c)), pow-suc 2 k)

sixteen : (a b c d e f g h i j k l m n o p : ℕ)
    → a + 2 * (b + 2 * (c + 2 * (d + 2 * (e + 2 * (f + 2 * (g + 2 * (h + 2 * (i + 2 * (j + 2 * (k + 2 * (l + 2 * (m + 2 * (n + 2 * (o + 2 * (p + 2 * 0)))))))))))))))
    ≡ (a + 2 * (b + 2 * (c + 2 * (d + 2 * (e + 2 * (f + 2 * (g + 2 * 0)))))))
    + 128 * ((h + 2 * (i + 2 * (j + 2 * (k + 2 * (l + 2 * (m + 2 * (n + 2 * 0))))))) + 128 * (o + 2 * (p + 2 * 0)))
sixteen a b c d e f g h i j k l m n o p = omega arith

-- the three bytes of channels as a number
pub channels_are : (ff gg hh : ℕ) → ff ≤ 3 → gg ≤ 127 → hh ≤ 127 → as_number 16 (names_channel ff gg hh) ≡ 16384 * ff + 128 * gg + hh
channels_are ff gg hh few second last =
    let one = λ (c : ℕ). bit_of (has_bit c hh) in
    let two = λ (c : ℕ). bit_of (has_bit c gg) in
    let three = λ (c : ℕ). bit_of (has_bit c ff) in
    let parts : as_number 16 (names_channel ff gg hh) ≡ as_number 7 (λ c. has_bit c hh) + 128 * (as_number 7 (λ c. has_bit c gg) + 128 * as_number 2 (λ c. has_bit c ff)) =
    sixteen (one 0) (one 1) (one 2) (one 3) (one 4) (one 5) (one 6) (two 0) (two 1) (two 2) (two 3) (two 4) (two 5) (two 6) (three 0) (three 1) in
    let low : as_number 7 (λ c. has_bit c hh) ≡ hh = bits_of 7 hh (omega (arith, last)) in
    let middle : as_number 7 (λ c. has_bit c gg) ≡ gg = bits_of 7 gg (omega (arith, second)) in
    let high : as_number 2 (λ c. has_bit c ff) ≡ ff = bits_of 2 ff (omega (arith, few)) in
    omega (arith, parts, low, middle, high)
