-- A number shifted until its first digit is the highest.
use Rattle.std.proofs.Common.{◌≡◌, ℕ, suc, ◌+◌, ◌*◌, ◌^◌, ◌<◌, ◌≤◌, arith, sym, ◌∙◌, ap}
use Rattle.std.specs.Int.Count.{count_leading_zeros}
use Rattle.std.proofs.Math.Nat.{mul-le-mul_right, pow-suc}
use Rattle.std.proofs.Math.Pow.{pow_mono}
use Rattle.std.proofs.lemmas.Nat.{pow-add, pow_pos, leading_top}

pub record IsTop (n s : ℕ) : Type 0 where
  pub least : 2 ^ 63 ≤ n * 2 ^ s
  pub most : n * 2 ^ s < 2 ^ 64

between : (n s j : ℕ) → s + suc j ≡ 64 → 2 ^ j ≤ n → n < 2 ^ suc j → IsTop n s
between n s j e low high =
    let least : 2 ^ j * 2 ^ s ≤ n * 2 ^ s = mul-le-mul_right (2 ^ s) low in
    let most : (n + 1) * 2 ^ s ≤ 2 ^ suc j * 2 ^ s = mul-le-mul_right (2 ^ s) (omega arith) in
    let at_63 : 2 ^ j * 2 ^ s ≡ 2 ^ 63 = sym (pow-add 2 j s) ∙ ap (λ k. 2 ^ k) (let k : j + s ≡ 63 = omega arith in k) in
    let at_64 : 2 ^ suc j * 2 ^ s ≡ 2 ^ 64 = sym (pow-add 2 (suc j) s) ∙ ap (λ k. 2 ^ k) (let k : suc j + s ≡ 64 = omega arith in k) in
    record { least = omega (arith, least, at_63); most = omega (arith, most, at_64, pow_pos s) }

pub is_top : (n : ℕ) → 0 < n → n < 2 ^ 64 → IsTop n (count_leading_zeros 64 n)
is_top n above below =
    let t = leading_top 64 n above below in
    between n (count_leading_zeros 64 n) t.0 t.1 t.2 t.3

-- two numbers with their first digits at one place are equal, where they are one number times powers of two
same_or_less : (n s t : ℕ) → s < t → 2 * (2 ^ s * n) ≤ 2 ^ t * n
same_or_less n s t l =
    let more : 2 ^ suc s * n ≤ 2 ^ t * n = mul-le-mul_right n (pow_mono l) in
    omega (arith, more, ap (λ x. x * n) (pow-suc 2 s))

pub same_top : (n s t : ℕ) → 2 ^ 63 ≤ 2 ^ s * n → 2 ^ s * n < 2 ^ 64 → 2 ^ 63 ≤ 2 ^ t * n → 2 ^ t * n < 2 ^ 64 → s ≡ t
same_top n s t low high low2 high2 =
    let no : s < t → ⊥ = λ l. let d : 2 * (2 ^ s * n) ≤ 2 ^ t * n = same_or_less n s t l in omega arith in
    let no2 : t < s → ⊥ = λ l. let d : 2 * (2 ^ t * n) ≤ 2 ^ s * n = same_or_less n t s l in omega arith in
    omega (arith, no, no2)

-- the same, with a third power
pub same_mantissa : (a b j p q above below : ℕ) → above ≡ 2 ^ p * a → below ≡ 2 ^ q * b → 2 ^ 63 ≤ above → above < 2 ^ 64 → 2 ^ 63 ≤ below → below < 2 ^ 64 → a ≡ 2 ^ j * b → above ≡ below
same_mantissa a b j p q above below is is2 low high low2 high2 e =
    let joined : above ≡ 2 ^ (p + j) * b = omega (arith, is, ap (λ x. 2 ^ p * x) e, ap (λ x. x * b) (pow-add 2 p j)) in
    let same : p + j ≡ q = same_top b (p + j) q (rw (← joined) low) (rw (← joined) high) (rw (← is2) low2) (rw (← is2) high2) in
    joined ∙ ap (λ k. 2 ^ k * b) same ∙ sym is2
