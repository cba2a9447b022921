use Rattle.std.proofs.Common.{◌≡◌, ℕ, ◌<◌, ◌≤◌, ◌*◌, ◌^◌, ◌%◌, ◌/◌, ◌+◌, ◌-◌, zero, suc, max, List, length, slice_index, slice_set, refl, sym, ◌∙◌, inl, inr, arith, bit_and, bit_or, ◌≢◌, subst}
use Rattle.std.specs.Int.{bit_at, bit_not, w128}
use Rattle.std.proofs.lemmas.Nat.Bits.{bit_at_set_same, bit_at_set_other, bit_at_clear_same, bit_at_clear_other}
use Rattle.std.proofs.lemmas.List.{get_or-set_same, get_or-set_other}
use Rattle.std.proofs.lemmas.Bool.{cases_lt, eq-eqb}
use Rattle.std.proofs.lemmas.Bool.Decides.{eqb_tells}
use Rattle.std.proofs.lemmas.Nat.Bits.{bit_at-zero, bit_at-trailing_zeros, bit_at_or}
use Rattle.std.proofs.Math.Nat.{div-div-eq-div-mul}
use Rattle.std.proofs.lemmas.Nat.{pow-add, or_lt, shr_le}
use Rattle.std.specs.Int.{trailing_zeros}
use Rattle.std.specs.Int.Count.{trailing_of_zero}
use Rattle.tab.specs.Entries.{differs}

pub same_differs : (a b : ℕ) → a ≡ b → differs a b ≡ 0
same_differs a b e = rw (eq-eqb a b e) refl

-- the mask tells which of the first n entries differ from their defaults
abbrev pub Tells : ℕ → ℕ → List ℕ → List ℕ → Type 0
Tells n mask base now = (i : ℕ) → i < n → bit_at mask i ≡ differs (slice_index base i) (slice_index now i)

pub tells_cleared : (n mask place value : ℕ) (base now : List ℕ) → n ≤ 128 → place < n → length now ≡ n
    → slice_index base place ≡ value → Tells n mask base now
    → Tells n (bit_and mask (bit_not w128 (1 * 2 ^ place % 2 ^ 128))) base (slice_set now place value)
tells_cleared n mask place value base now small inside full same h i below =
    elim (eqb_tells i place) [
      | inl t ↦ rw (t.1, bit_at_clear_same w128 mask place (omega (arith, small, inside)), get_or-set_same now place value 0 (omega (arith, full, inside)))
          (sym (same_differs (slice_index base place) value same))
      | inr t ↦ rw (bit_at_clear_other w128 mask place (omega (arith, small, inside)) i (omega (arith, small, below)) t.1, get_or-set_other now place i value 0 t.1) (h i below)
    ]

pub other_differs : (a b : ℕ) → a ≢ b → differs a b ≡ 1
other_differs a b ne =
    elim (eqb_tells a b) [
      | inl t ↦ absurd (ne t.1)
      | inr t ↦ rw t.0 refl
    ]

pub tells_set : (n mask place value : ℕ) (base now : List ℕ) → n ≤ 128 → place < n → length now ≡ n
    → slice_index base place ≢ value → Tells n mask base now
    → Tells n (bit_or mask (1 * 2 ^ place % 2 ^ 128)) base (slice_set now place value)
tells_set n mask place value base now small inside full other h i below =
    elim (eqb_tells i place) [
      | inl t ↦ rw (t.1, bit_at_set_same w128 mask place (omega (arith, small, inside)), get_or-set_same now place value 0 (omega (arith, full, inside)))
          (sym (other_differs (slice_index base place) value other))
      | inr t ↦ rw (bit_at_set_other w128 mask place (omega (arith, small, inside)) i t.1, get_or-set_other now place i value 0 t.1) (h i below)
    ]

pub zeros_below : (n k : ℕ) → n < 2 ^ 128 → k < trailing_zeros w128 n → bit_at n k ≡ 0
zeros_below zero k h below = bit_at-zero k
zeros_below (suc n) k h below = (bit_at-trailing_zeros w128 (suc n) (omega arith) h).2 k below

pub found_bit : (n : ℕ) → n < 2 ^ 128 → trailing_zeros w128 n < 128 → bit_at n (trailing_zeros w128 n) ≡ 1
found_bit zero small few = let none : trailing_zeros w128 0 ≡ 128 = trailing_of_zero 128 in absurd (omega (arith, few, none))
found_bit (suc n) small few = (bit_at-trailing_zeros w128 (suc n) (omega arith) small).1

pub bit_at-shr : (n i j : ℕ) → bit_at (n / 2 ^ i) j ≡ bit_at n (i + j)
bit_at-shr n i j = rw (div-div-eq-div-mul n (2 ^ i) (2 ^ j), ← pow-add 2 i j) refl

pub same_where_zero : (a b : ℕ) → differs a b ≡ 0 → a ≡ b
same_where_zero a b h =
    elim (eqb_tells a b) [
      | inl t ↦ t.1
      | inr t ↦ let e : 1 ≡ 0 = sym (other_differs a b t.1) ∙ h in absurd (omega (arith, e))
    ]

-- where neither table differs from the defaults, the two are the same
pub both_default : (n m1 m2 : ℕ) (base one two : List ℕ) → Tells n m1 base one → Tells n m2 base two → (k : ℕ) → k < n → bit_at (bit_or m1 m2) k ≡ 0
    → slice_index one k ≡ slice_index two k
both_default n m1 m2 base one two h1 h2 k below z =
    let top : max (bit_at m1 k) (bit_at m2 k) ≡ 0 = sym (bit_at_or m1 m2 k) ∙ z in
    let z1 : bit_at m1 k ≡ 0 = omega (arith, top) in
    let z2 : bit_at m2 k ≡ 0 = omega (arith, top) in
    sym (same_where_zero (slice_index base k) (slice_index one k) (sym (h1 k below) ∙ z1)) ∙ same_where_zero (slice_index base k) (slice_index two k) (sym (h2 k below) ∙ z2)

-- nothing differs up to the next bit that is set in either mask
pub skipped : (n i m1 m2 : ℕ) (base one two : List ℕ) → m1 < 2 ^ 128 → m2 < 2 ^ 128 → Tells n m1 base one → Tells n m2 base two
    → (k : ℕ) → k < n → i ≤ k → k < i + trailing_zeros w128 (bit_or m1 m2 / 2 ^ i) → slice_index one k ≡ slice_index two k
skipped n i m1 m2 base one two f1 f2 h1 h2 k below from to =
    let at : i + (k - i) ≡ k = omega (arith, from) in
    let small : bit_or m1 m2 / 2 ^ i < 2 ^ 128 = omega (arith, or_lt 128 m1 m2 f1 f2, shr_le (bit_or m1 m2) i) in
    let z : bit_at (bit_or m1 m2) (i + (k - i)) ≡ 0 = sym (bit_at-shr (bit_or m1 m2) i (k - i)) ∙ zeros_below _ (k - i) small (omega (arith, from, to)) in
    both_default n m1 m2 base one two h1 h2 k below (rw at at z)

-- the same, behind what is known to be the same up to i
pub same_along : (n i m1 m2 from : ℕ) (base base2 one two : List ℕ) → base ≡ base2 → m1 < 2 ^ 128 → m2 < 2 ^ 128 → Tells n m1 base one → Tells n m2 base2 two
    → ((k : ℕ) → from ≤ k → k < i → slice_index one k ≡ slice_index two k)
    → (k : ℕ) → from ≤ k → k < n → k < i + trailing_zeros w128 (bit_or m1 m2 / 2 ^ i) → slice_index one k ≡ slice_index two k
same_along n i m1 m2 from base base2 one two e f1 f2 h1 h2 known k low below to =
    elim (cases_lt k i) [
      | inl t ↦ known k low t
      | inr t ↦ skipped n i m1 m2 base one two f1 f2 h1 (let P : List ℕ → Type 0 = λ b. Tells n m2 b two in subst P (sym e) h2) k below t to
    ]

-- and one more place
pub same_next : (n i from : ℕ) (one two : List ℕ) → ((k : ℕ) → from ≤ k → k < n → k < i → slice_index one k ≡ slice_index two k) → i < n → slice_index one i ≡ slice_index two i
    → (k : ℕ) → from ≤ k → k < i + 1 → slice_index one k ≡ slice_index two k
same_next n i from one two known small here k low to =
    elim (cases_lt k i) [
      | inl t ↦ known k low (omega (arith, t, small)) t
      | inr t ↦ let at : k ≡ i = omega (arith, t, to) in rw at here
    ]
