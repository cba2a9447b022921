-- One bit of a mask of sixteen, as a test.
use Rattle.std.proofs.Common.{◌≡◌, ◌≢◌, ◌<◌, ◌≤◌, ◌-◌, ◌*◌, ◌^◌, ◌%◌, arith, ℕ, true, false, not, bit_and, bit_or, nat_eq, refl, ap, inl, inr}
use Rattle.std.specs.Int.{bit_not, w16}
use Rattle.std.specs.Int.Count.{count_leading_zeros}
use Rattle.std.proofs.lemmas.Nat.{leading_length}
use Rattle.std.proofs.lemmas.Nat.Bits.{bit_at_above, bit_at-zero, bit_at_set_same, bit_at_set_other, bit_at_clear_same, bit_at_clear_other}
use Rattle.std.proofs.lemmas.Bool.Decides.{eqb_tells}
use Rattle.receiver.specs.Notes.{has}
use Rattle.routes.proofs.Channels.{is_there, not_there}

pub has_none : (c : ℕ) → has 0 c ≡ false
has_none c = rw (bit_at-zero c) refl

pub set_here : (mask c : ℕ) → c < 16 → has (bit_or mask (1 * 2 ^ c % 2 ^ 16)) c ≡ true
set_here mask c low = rw (bit_at_set_same w16 mask c low) refl

pub set_beside : (mask c d : ℕ) → c < 16 → d ≢ c → has (bit_or mask (1 * 2 ^ c % 2 ^ 16)) d ≡ has mask d
set_beside mask c d low apart = ap (λ b. nat_eq b 1) (bit_at_set_other w16 mask c low d apart)

pub cleared_here : (mask c : ℕ) → c < 16 → has (bit_and mask (bit_not w16 (1 * 2 ^ c % 2 ^ 16))) c ≡ false
cleared_here mask c low = rw (bit_at_clear_same w16 mask c low) refl

pub cleared_beside : (mask c d : ℕ) → c < 16 → d < 16 → d ≢ c → has (bit_and mask (bit_not w16 (1 * 2 ^ c % 2 ^ 16))) d ≡ has mask d
cleared_beside mask c d low below apart = ap (λ b. nat_eq b 1) (bit_at_clear_other w16 mask c low d below apart)

-- the program's test of a bit
pub tested : (mask c : ℕ) → c < 16 → not (nat_eq (bit_and mask (1 * 2 ^ c % 2 ^ 16)) 0) ≡ has mask c
tested mask c low = elim (eqb_tells (bit_and mask (1 * 2 ^ c % 2 ^ 16)) 0) [
  | inl t ↦ rw (t.0, not_there 16 mask c low t.1) refl
  | inr t ↦ rw (t.0, is_there 16 mask c low t.1) refl
]

-- behind the leading zeros of a mask no bit is set
pub has_none_from : (mask end c : ℕ) → mask < 2 ^ 16 → end ≡ 16 - count_leading_zeros 16 mask → end ≤ c → has mask c ≡ false
has_none_from mask end c fits is from =
    let top = leading_length 16 mask fits in
    ap (λ b. nat_eq b 1) (bit_at_above mask top.0 c top.2 (omega (arith, top.1, is, from)))
