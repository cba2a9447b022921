-- Products of whole numbers of which one is small.
use Rattle.std.proofs.Common.{◌≡◌, ℕ, zero, suc, ◌+◌, ◌*◌, ◌≤◌, ℤ, pos, negsuc, ◌+ℤ◌, ◌*ℤ◌, arith, refl}
use Rattle.std.specs.Prelude.{◌≤ℤ◌, neg_ℤ}
use Rattle.std.specs.Int.{int_div_euclid, int_rem_euclid}
use Rattle.std.specs.Int.RustNames.{unsigned_abs}
use Rattle.std.proofs.Math.IntN.{pos-*ℤ-pos, pos-*ℤ-negsuc, negsuc-*ℤ-pos, negsuc-*ℤ-negsuc, zero-*ℤ, suc_ℤ-*ℤ}
use Rattle.std.proofs.Math.Nat.{mul-le-mul_left}
use Rattle.std.proofs.lemmas.Int.{ints}
use Rattle.retune_model.specs.Scale.{size_of, floor_div, floor_rem}

pub size_is : (z : ℤ) → size_of z ≡ unsigned_abs z
size_is (pos n) = refl
size_is (negsuc n) = refl

pub div_is : (z : ℤ) (d : ℕ) → int_div_euclid z (pos d) ≡ floor_div z d
div_is (pos a) d = refl
div_is (negsuc a) d = refl

pub rem_is : (z : ℤ) (d : ℕ) → int_rem_euclid z (pos d) ≡ pos (floor_rem z d)
rem_is (pos a) d = refl
rem_is (negsuc a) d = refl

pub size_low : (z : ℤ) (n : ℕ) → size_of z ≤ n → neg_ℤ (pos n) ≤ℤ z
size_low (pos a) n h = omega (arith, ints)
size_low (negsuc a) n h = omega (arith, ints)

pub size_high : (z : ℤ) (n : ℕ) → size_of z ≤ n → z ≤ℤ pos n
size_high (pos a) n h = omega (arith, ints)
size_high (negsuc a) n h = omega (arith, ints)

pub size_within : (z : ℤ) (n : ℕ) → neg_ℤ (pos n) ≤ℤ z → z ≤ℤ pos n → size_of z ≤ n
size_within (pos a) n l h = omega (arith, ints)
size_within (negsuc a) n l h = omega (arith, ints)

-- j times what is at least -n
pub times_low : (j n : ℕ) (z : ℤ) → neg_ℤ (pos n) ≤ℤ z → neg_ℤ (pos (j * n)) ≤ℤ (pos j *ℤ z)
times_low j n (pos a) h = rw (pos-*ℤ-pos j a) omega (arith, ints)
times_low j n (negsuc a) h =
    let l : suc a ≤ n = omega (arith, ints) in
    let p : j * suc a ≤ j * n = mul-le-mul_left j l in
    rw (pos-*ℤ-negsuc j a) omega (arith, ints, p)

pub times_high : (j n : ℕ) (z : ℤ) → z ≤ℤ pos n → (pos j *ℤ z) ≤ℤ pos (j * n)
times_high j n (pos a) h =
    let l : a ≤ n = omega (arith, ints) in
    let p : j * a ≤ j * n = mul-le-mul_left j l in
    rw (pos-*ℤ-pos j a) omega (arith, ints, p)
times_high j n (negsuc a) h = rw (pos-*ℤ-negsuc j a) omega (arith, ints)

pub turned : (j : ℕ) (z : ℤ) → negsuc j *ℤ z ≡ neg_ℤ (pos (suc j) *ℤ z)
turned j (pos a) = rw (negsuc-*ℤ-pos j a, pos-*ℤ-pos (suc j) a) refl
turned j (negsuc a) = rw (negsuc-*ℤ-negsuc j a, pos-*ℤ-negsuc (suc j) a) (omega (arith, ints))

one_more : (j : ℕ) (z : ℤ) → pos (suc j) *ℤ z ≡ pos j *ℤ z +ℤ z
one_more j z = suc_ℤ-*ℤ (pos j) z

one_more_nat : (j n : ℕ) → suc j * n ≡ j * n + n
one_more_nat j n = grind arith

-- j times two numbers, of which the second is at most n more
pub times_apart : (j n : ℕ) (y z : ℤ) → z ≤ℤ (y +ℤ pos n) → (pos j *ℤ z) ≤ℤ ((pos j *ℤ y) +ℤ pos (j * n))
times_apart zero n y z h = rw (zero-*ℤ y, zero-*ℤ z) omega (arith, ints)
times_apart (suc j) n y z h = rw (one_more j y, one_more j z, one_more_nat j n) omega (arith, ints, times_apart j n y z h)

pub times_order : (j : ℕ) (y z : ℤ) → y ≤ℤ z → (pos j *ℤ y) ≤ℤ (pos j *ℤ z)
times_order zero y z h = rw (zero-*ℤ y, zero-*ℤ z) omega (arith, ints)
times_order (suc j) y z h = rw (one_more j y, one_more j z) omega (arith, ints, times_order j y z h)
