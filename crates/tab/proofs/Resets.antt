-- Entries that go back to their defaults.
use Rattle.std.proofs.Common.{◌≡◌, ℕ, ◌<◌, ◌≤◌, ◌^◌, ◌/◌, ◌+◌, ◌-◌, min, List, length, slice_index, slice_set, refl, sym, ap, ◌∙◌, inl, inr, arith, bit_and, nat_eq, if◌then◌else◌}
use Rattle.std.specs.Int.{bit_at, bit_not, trailing_zeros, w128}
use Rattle.std.specs.Int.Bits.{and_lt}
use Rattle.std.proofs.lemmas.Nat.Bits.{bit_at_and, bit_at_not, bit_at-lt}
use Rattle.std.proofs.lemmas.List.{get_or-set_same, get_or-set_other}
use Rattle.std.proofs.lemmas.Bool.{cases_lt}
use Rattle.std.proofs.lemmas.Bool.Decides.{eqb_tells}
use Rattle.std.proofs.lemmas.Nat.{shr_le}
use Rattle.tab.proofs.Masks.{Tells, bit_at-shr, zeros_below, found_bit, same_differs, same_where_zero}

-- what the entries are to become
abbrev pub back : ℕ → List ℕ → List ℕ → ℕ → ℕ
back which base now k = if nat_eq (bit_at which k) 1 then slice_index base k else slice_index now k

-- a place that isn't in both masks stays as it is
back_same : (n mask which : ℕ) (base now : List ℕ) → Tells n mask base now → (k : ℕ) → k < n → bit_at (bit_and mask which) k ≡ 0 → slice_index now k ≡ back which base now k
back_same n mask which base now tells k below z =
    let low : min (bit_at mask k) (bit_at which k) ≡ 0 = sym (bit_at_and mask which k) ∙ z in
    elim (eqb_tells (bit_at which k) 1) [
      | inl t ↦ let e : bit_at which k ≡ 1 = t.1 in
          let z1 : bit_at mask k ≡ 0 = omega (arith, low, e) in
          rw t.0 (sym (same_where_zero (slice_index base k) (slice_index now k) (sym (tells k below) ∙ z1)))
      | inr t ↦ rw t.0 refl
    ]

back_named : (mask which : ℕ) (base now : List ℕ) (k : ℕ) → bit_at (bit_and mask which) k ≡ 1 → slice_index base k ≡ back which base now k
back_named mask which base now k one =
    let high : min (bit_at mask k) (bit_at which k) ≡ 1 = sym (bit_at_and mask which k) ∙ one in
    let small = bit_at-lt which k in
    let e : bit_at which k ≡ 1 = omega (arith, high, small) in
    rw e refl

-- up to the next bit that is set in both masks all places stay as they are
back_along : (n mask which i : ℕ) (base old now : List ℕ) → mask < 2 ^ 128 → which < 2 ^ 128 → Tells n mask base old
    → ((k : ℕ) → k < i → slice_index now k ≡ back which base old k)
    → ((k : ℕ) → i ≤ k → slice_index now k ≡ slice_index old k)
    → (k : ℕ) → k < n → k < i + trailing_zeros w128 (bit_and mask which / 2 ^ i) → slice_index now k ≡ back which base old k
back_along n mask which i base old now f1 f2 tells done rest k below to =
    elim (cases_lt k i) [
      | inl t ↦ done k t
      | inr t ↦ let at : i + (k - i) ≡ k = omega (arith, t) in
          let small : bit_and mask which / 2 ^ i < 2 ^ 128 = omega (arith, and_lt 128 mask which f1 f2, shr_le (bit_and mask which) i) in
          let z : bit_at (bit_and mask which) (i + (k - i)) ≡ 0 = sym (bit_at-shr (bit_and mask which) i (k - i)) ∙ zeros_below _ (k - i) small (omega (arith, t, to)) in
          rest k t ∙ back_same n mask which base old tells k below (rw at at z)
    ]

pub back_all : (n mask which i : ℕ) (base old now : List ℕ) → mask < 2 ^ 128 → which < 2 ^ 128 → Tells n mask base old
    → ((k : ℕ) → k < i → slice_index now k ≡ back which base old k)
    → ((k : ℕ) → i ≤ k → slice_index now k ≡ slice_index old k)
    → n ≤ i + trailing_zeros w128 (bit_and mask which / 2 ^ i)
    → (k : ℕ) → k < n → slice_index now k ≡ back which base old k
back_all n mask which i base old now f1 f2 tells done rest end k below =
    back_along n mask which i base old now f1 f2 tells done rest k below (omega (arith, below, end))

-- and the place of that bit goes back to its default
pub back_next : (n mask which i : ℕ) (base base2 old now : List ℕ) → base2 ≡ base → n ≤ 128 → length now ≡ n → mask < 2 ^ 128 → which < 2 ^ 128 → Tells n mask base old
    → ((k : ℕ) → k < i → slice_index now k ≡ back which base old k)
    → ((k : ℕ) → i ≤ k → slice_index now k ≡ slice_index old k)
    → (at : ℕ) → at ≡ i + trailing_zeros w128 (bit_and mask which / 2 ^ i) → at < n
    → (k : ℕ) → k < at + 1 → slice_index (slice_set now at (slice_index base2 at)) k ≡ back which base old k
back_next n mask which i base base2 old now same most full f1 f2 tells done rest at e inside k to =
    elim (eqb_tells k at) [
      | inl t ↦ let small : bit_and mask which / 2 ^ i < 2 ^ 128 = omega (arith, and_lt 128 mask which f1 f2, shr_le (bit_and mask which) i) in
          let one : bit_at (bit_and mask which) at ≡ 1 =
          rw e (sym (bit_at-shr (bit_and mask which) i _) ∙ found_bit (bit_and mask which / 2 ^ i) small (omega (arith, e, inside, most))) in
          rw t.1 (get_or-set_same now at (slice_index base2 at) 0 (omega (arith, full, inside)) ∙ ap (λ b. slice_index b at) same ∙ back_named mask which base old at one)
      | inr t ↦ let ne = t.1 in
          get_or-set_other now at k (slice_index base2 at) 0 ne
          ∙ back_along n mask which i base old now f1 f2 tells done rest k (omega (arith, to, ne, inside)) (omega (arith, to, ne, e))
    ]

-- the mask without these places tells of the entries as they became
pub tells_back : (n mask which : ℕ) (base old now : List ℕ) → n ≤ 128 → which < 2 ^ 128 → Tells n mask base old
    → ((k : ℕ) → k < n → slice_index now k ≡ back which base old k)
    → Tells n (bit_and mask (bit_not w128 which)) base now
tells_back n mask which base old now most fits tells now_is i below =
    let inverse : bit_at (bit_not w128 which) i ≡ 1 - bit_at which i = bit_at_not w128 which i fits (omega (arith, most, below)) in
    let mask_low = bit_at-lt mask i in
    let which_low = bit_at-lt which i in
    elim (eqb_tells (bit_at which i) 1) [
      | inl t ↦ let e : bit_at which i ≡ 1 = t.1 in
          let same : slice_index base i ≡ slice_index now i = sym (now_is i below ∙ (rw t.0 refl)) in
          let z : min (bit_at mask i) (bit_at (bit_not w128 which) i) ≡ 0 = omega (arith, inverse, e) in
          bit_at_and mask (bit_not w128 which) i ∙ z ∙ sym (same_differs (slice_index base i) (slice_index now i) same)
      | inr t ↦ let ne = t.1 in
          let same : slice_index now i ≡ slice_index old i = now_is i below ∙ (rw t.0 refl) in
          let m : min (bit_at mask i) (bit_at (bit_not w128 which) i) ≡ bit_at mask i = omega (arith, inverse, ne, mask_low, which_low) in
          bit_at_and mask (bit_not w128 which) i ∙ m ∙ tells i below ∙ (rw same refl)
    ]
