-- One bit of a mask of 128, as a test.
use Rattle.std.proofs.Common.{◌≡◌, ◌≢◌, ℕ, ◌<◌, ◌*◌, ◌^◌, ◌%◌, true, false, not, ◌&&◌, ◌||◌, ◌⊎◌, nat_eq, if◌then◌else◌, bit_and, bit_or, refl, sym, ap, ◌∙◌, arith, inl, inr}
use Rattle.std.specs.Int.{bit_at, bit_not, w128, trailing_zeros}
use Rattle.std.proofs.lemmas.Bool.Decides.{eqb_tells}
use Rattle.std.proofs.lemmas.Nat.{and_le_l, one_shl, pow_pos}
use Rattle.std.proofs.lemmas.Nat.Bits.{bit_at-lt, bit_at_and, bit_at_or, bit_at_not, bit_at_set_same, bit_at_set_other, bit_at_clear_same, bit_at_clear_other, bit_at-trailing_zeros, and_pow, bit_at-pow_same, bit_at-pow_other, bit_at-zero}
use Rattle.receiver.specs.Notes.{has}

zero_or_one : (n k : ℕ) → (bit_at n k ≡ 0) ⊎ (bit_at n k ≡ 1)
zero_or_one n k =
    let small = bit_at-lt n k in
    elim (eqb_tells (bit_at n k) 0) [
      | inl t ↦ inl t.1
      | inr t ↦ (let ne = t.1 in inr (omega (arith, small, ne)))
    ]

pub has_or : (a b k : ℕ) → has (bit_or a b) k ≡ (has a k || has b k)
has_or a b k = elim (zero_or_one a k) [
  | inl x ↦ elim (zero_or_one b k) [
    | inl y ↦ rw (bit_at_or a b k, x, y) refl
    | inr y ↦ rw (bit_at_or a b k, x, y) refl
  ]
  | inr x ↦ elim (zero_or_one b k) [
    | inl y ↦ rw (bit_at_or a b k, x, y) refl
    | inr y ↦ rw (bit_at_or a b k, x, y) refl
  ]
]

pub has_without : (a b k : ℕ) → b < 2 ^ 128 → k < 128 → has (bit_and a (bit_not w128 b)) k ≡ (has a k && not (has b k))
has_without a b k fits below = elim (zero_or_one a k) [
  | inl x ↦ elim (zero_or_one b k) [
    | inl y ↦ rw (bit_at_and a (bit_not w128 b) k, bit_at_not w128 b k fits below, x, y) refl
    | inr y ↦ rw (bit_at_and a (bit_not w128 b) k, bit_at_not w128 b k fits below, x, y) refl
  ]
  | inr x ↦ elim (zero_or_one b k) [
    | inl y ↦ rw (bit_at_and a (bit_not w128 b) k, bit_at_not w128 b k fits below, x, y) refl
    | inr y ↦ rw (bit_at_and a (bit_not w128 b) k, bit_at_not w128 b k fits below, x, y) refl
  ]
]

-- one bit set
pub has_set : (a key k : ℕ) → key < 128 → has (bit_or a (1 * 2 ^ key % 2 ^ 128)) k ≡ (if nat_eq k key then true else has a k)
has_set a key k within = elim (eqb_tells k key) [
  | inl t ↦ rw (t.0, t.1, bit_at_set_same w128 a key within) refl
  | inr t ↦ rw (t.0, bit_at_set_other w128 a key within k t.1) refl
]

-- one bit cleared
pub has_cleared : (a key k : ℕ) → key < 128 → k < 128 → has (bit_and a (bit_not w128 (1 * 2 ^ key % 2 ^ 128))) k ≡ (if nat_eq k key then false else has a k)
has_cleared a key k within below = elim (eqb_tells k key) [
  | inl t ↦ rw (t.0, t.1, bit_at_clear_same w128 a key within) refl
  | inr t ↦ rw (t.0, bit_at_clear_other w128 a key within k below t.1) refl
]

-- one bit tested
tested : (a key : ℕ) → key < 128 → bit_and a (1 * 2 ^ key % 2 ^ 128) ≡ bit_at a key * 2 ^ key
tested a key within = ap (bit_and a) (one_shl key 128 within) ∙ and_pow a key

pub has_tested : (a key : ℕ) → key < 128 → bit_and a (1 * 2 ^ key % 2 ^ 128) ≢ 0 → has a key ≡ true
has_tested a key within ne = elim (zero_or_one a key) [
  | inl x ↦ (let none : bit_at a key * 2 ^ key ≡ 0 = rw x (omega arith) in absurd (ne (tested a key within ∙ none)))
  | inr x ↦ rw x refl
]

pub has_not_tested : (a key : ℕ) → key < 128 → bit_and a (1 * 2 ^ key % 2 ^ 128) ≡ 0 → has a key ≡ false
has_not_tested a key within e = elim (zero_or_one a key) [
  | inl x ↦ rw x refl
  | inr x ↦ (let one : 1 * 2 ^ key ≡ 0 = ap (λ b. b * 2 ^ key) (sym x) ∙ sym (tested a key within) ∙ e in
      let some : 0 < 2 ^ key = pow_pos key in
      absurd (omega (arith, one, some)))
]

-- the lowest bit that is set
pub lowest_is_below : (n : ℕ) → n ≢ 0 → n < 2 ^ 128 → trailing_zeros w128 n < 128
lowest_is_below n some fits = (bit_at-trailing_zeros w128 n (omega (arith, some)) fits).0

pub has_lowest : (n : ℕ) → n ≢ 0 → n < 2 ^ 128 → has n (trailing_zeros w128 n) ≡ true
has_lowest n some fits = (let one = (bit_at-trailing_zeros w128 n (omega (arith, some)) fits).1 in rw one refl)

pub less_without_lowest : (n : ℕ) → n ≢ 0 → n < 2 ^ 128 → bit_and n (bit_not w128 (1 * 2 ^ trailing_zeros w128 n % 2 ^ 128)) < n
less_without_lowest n some fits =
    let key = trailing_zeros w128 n in
    let low = bit_at-trailing_zeros w128 n (omega (arith, some)) fits in
    let rest = bit_and n (bit_not w128 (1 * 2 ^ key % 2 ^ 128)) in
    let le = and_le_l n (bit_not w128 (1 * 2 ^ key % 2 ^ 128)) in
    elim (eqb_tells rest n) [
      | inl t ↦ (let e : 0 ≡ 1 = sym (bit_at_clear_same w128 n key low.0) ∙ ap (λ m. bit_at m key) t.1 ∙ low.1 in absurd (omega (arith, e)))
      | inr t ↦ (let ne = t.1 in omega (arith, le, ne))
    ]

-- a mask of one bit, and of none
pub has_one : (key k : ℕ) → key < 128 → has (1 * 2 ^ key % 2 ^ 128) k ≡ nat_eq k key
has_one key k within = ap (λ n. has n k) (one_shl key 128 within) ∙ elim (eqb_tells k key) [
  | inl t ↦ rw (t.0, t.1, bit_at-pow_same key) refl
  | inr t ↦ rw (t.0, bit_at-pow_other key k t.1) refl
]

pub has_none : (k : ℕ) → has 0 k ≡ false
has_none k = rw (bit_at-zero k) refl

pub has_and : (a b k : ℕ) → has (bit_and a b) k ≡ (has a k && has b k)
has_and a b k = elim (zero_or_one a k) [
  | inl x ↦ elim (zero_or_one b k) [
    | inl y ↦ rw (bit_at_and a b k, x, y) refl
    | inr y ↦ rw (bit_at_and a b k, x, y) refl
  ]
  | inr x ↦ elim (zero_or_one b k) [
    | inl y ↦ rw (bit_at_and a b k, x, y) refl
    | inr y ↦ rw (bit_at_and a b k, x, y) refl
  ]
]

pub has_not : (b k : ℕ) → b < 2 ^ 128 → k < 128 → has (bit_not w128 b) k ≡ not (has b k)
has_not b k fits below = elim (zero_or_one b k) [
  | inl y ↦ rw (bit_at_not w128 b k fits below, y) refl
  | inr y ↦ rw (bit_at_not w128 b k fits below, y) refl
]
