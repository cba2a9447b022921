use Rattle.std.proofs.Common.{◌≡◌, ℕ, zero, suc, ◌<◌, ◌≤◌, ◌+◌, ◌-◌, ◌/◌, ◌^◌, max, List, slice_index, refl, sym, ◌∙◌, ap, arith, bit_or, add-one}
use Rattle.std.specs.Int.{bit_at, trailing_zeros, w128}
use Rattle.std.proofs.lemmas.Nat.Bits.{bit_at_or}
use Rattle.std.proofs.lemmas.Nat.{or_lt, shr_le}
use Rattle.tab.specs.Entries.{Entries, differs, away}
use Rattle.tab.proofs.Masks.{Tells, zeros_below, found_bit, bit_at-shr}

-- what one place adds
abbrev pub weight : List ℕ → Entries → ℕ → ℕ
weight one two k = max (differs (slice_index two.defaults k) (slice_index one k)) (differs (slice_index two.defaults k) (slice_index two.items k))

-- the joined mask tells which places count
joined : (n m1 m2 : ℕ) (one : List ℕ) (two : Entries) → Tells n m1 two.defaults one → Tells n m2 two.defaults two.items
    → (k : ℕ) → k < n → bit_at (bit_or m1 m2) k ≡ weight one two k
joined n m1 m2 one two h1 h2 k below = rw (bit_at_or m1 m2 k, h1 k below, h2 k below) refl

away_next : (one : List ℕ) (two : Entries) (n : ℕ) → away one two (n + 1) ≡ away one two n + weight one two n
away_next one two n = rw (add-one n) refl

-- places that add nothing
away_flat : (one : List ℕ) (two : Entries) (i d : ℕ) → ((k : ℕ) → i ≤ k → k < i + d → weight one two k ≡ 0) → away one two (i + d) ≡ away one two i
away_flat one two i zero h = ap (away one two) (omega arith)
away_flat one two i (suc d) h =
    let step : i + suc d ≡ suc (i + d) = omega arith in
    let last : weight one two (i + d) ≡ 0 = h (i + d) (omega arith) (omega arith) in
    let before : away one two (i + d) ≡ away one two i = away_flat one two i d (λ k low high. h k low (omega (arith, high))) in
    rw step (omega (arith, last, before))

-- nothing is counted up to the next bit that is set in either mask
pub away_skip : (n m1 m2 : ℕ) (one : List ℕ) (two : Entries) → m1 < 2 ^ 128 → m2 < 2 ^ 128 → Tells n m1 two.defaults one → Tells n m2 two.defaults two.items
    → (i d : ℕ) → i + d ≤ n → d ≤ trailing_zeros w128 (bit_or m1 m2 / 2 ^ i) → away one two (i + d) ≡ away one two i
away_skip n m1 m2 one two f1 f2 h1 h2 i d inside upto = away_flat one two i d (λ k low high.
    let at : i + (k - i) ≡ k = omega (arith, low) in
    let small : bit_or m1 m2 / 2 ^ i < 2 ^ 128 = omega (arith, or_lt 128 m1 m2 f1 f2, shr_le (bit_or m1 m2) i) in
    let z : bit_at (bit_or m1 m2) (i + (k - i)) ≡ 0 = sym (bit_at-shr (bit_or m1 m2) i (k - i)) ∙ zeros_below _ (k - i) small (omega (arith, low, high, upto)) in
    sym (joined n m1 m2 one two h1 h2 k (omega (arith, high, inside))) ∙ rw at at z)

-- and the place of that bit counts
pub away_found : (n m1 m2 : ℕ) (one : List ℕ) (two : Entries) → m1 < 2 ^ 128 → m2 < 2 ^ 128 → Tells n m1 two.defaults one → Tells n m2 two.defaults two.items
    → n ≤ 128 → (i from looked : ℕ) → i + trailing_zeros w128 (bit_or m1 m2 / 2 ^ i) < n
    → away one two from + looked ≡ away one two i
    → away one two from + (looked + 1) ≡ away one two (i + trailing_zeros w128 (bit_or m1 m2 / 2 ^ i) + 1)
away_found n m1 m2 one two f1 f2 h1 h2 most i from looked inside known =
    let small : bit_or m1 m2 / 2 ^ i < 2 ^ 128 = omega (arith, or_lt 128 m1 m2 f1 f2, shr_le (bit_or m1 m2) i) in
    let bit : bit_at (bit_or m1 m2) (i + trailing_zeros w128 (bit_or m1 m2 / 2 ^ i)) ≡ 1 =
    sym (bit_at-shr (bit_or m1 m2) i _) ∙ found_bit (bit_or m1 m2 / 2 ^ i) small (omega (arith, inside, most)) in
    let one_more : weight one two (i + trailing_zeros w128 (bit_or m1 m2 / 2 ^ i)) ≡ 1 = sym (joined n m1 m2 one two h1 h2 _ inside) ∙ bit in
    let skipped : away one two (i + trailing_zeros w128 (bit_or m1 m2 / 2 ^ i)) ≡ away one two i =
    away_skip n m1 m2 one two f1 f2 h1 h2 i (trailing_zeros w128 (bit_or m1 m2 / 2 ^ i)) (omega (arith, inside)) (omega arith) in
    rw (away_next one two (i + trailing_zeros w128 (bit_or m1 m2 / 2 ^ i))) (omega (arith, known, one_more, skipped))
