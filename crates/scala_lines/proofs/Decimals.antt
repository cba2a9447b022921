-- What digits say.
use Rattle.std.proofs.Common.{◌≡◌, ℕ, zero, suc, ◌+◌, ◌-◌, ◌*◌, ◌/◌, ◌^◌, ◌<◌, ◌≤◌, List, [], ◌∷◌, length, take, drop, get_or, true, Option, Some, None, refl, sym, ap, ◌∙◌, arith, leb, inl, inr}
use Rattle.std.proofs.lemmas.Bool.{leb-true, lt-leb, le-leb, and_parts, cases_lt}
use Rattle.std.proofs.lemmas.List.{drop_more, length-take}
use Rattle.std.proofs.Math.Nat.{pow-succ', mul-le-mul_right, mul-le-mul_left, mul_assoc}
use Rattle.std.proofs.lemmas.Nat.{pow-add}
use Rattle.std.specs.Prelude.{unwrap_or}
use Rattle.scala_lines.specs.Characters.{Are, is_digit}
use Rattle.scala_lines.specs.Numbers.{value_from, value, within, billionths}

-- more digits never say less
pub value_grows : (before : ℕ) (ds : List ℕ) → before ≤ value_from before ds
value_grows before [] = omega arith
value_grows before (d ∷ ds) = omega (arith, value_grows (before * 10 + (d - 48)) ds)

-- once above the limit, the value stays above it
pub above : (limit before n : ℕ) (ds : List ℕ) → limit < before → value_from before ds ≡ n → within limit n ≡ None
above limit before n ds h e =
    let high : limit < n = omega (arith, value_grows before ds, e, h) in rw (lt-leb n limit high) refl

-- one digit more may put it above the limit
pub turned_above : (limit before n : ℕ) (ds : List ℕ) (i : ℕ) → limit / 10 < before → i < length ds → value_from before (drop i ds) ≡ n → within limit n ≡ None
turned_above limit before n ds i h l e =
    let f : value_from before (drop i ds) ≡ value_from (before * 10 + (get_or ds i 0 - 48)) (drop (i + 1) ds) = ap (value_from before) (drop_more ds i 0 l) in
    above limit (before * 10 + (get_or ds i 0 - 48)) n (drop (i + 1) ds) (omega (arith, h)) (sym f ∙ e)

pub read_above : (limit before d n : ℕ) (ds : List ℕ) (i : ℕ) → d ≡ get_or ds i 0 - 48 → limit < before * 10 + d → i < length ds → value_from before (drop i ds) ≡ n → within limit n ≡ None
read_above limit before d n ds i is h l e =
    let f : value_from before (drop i ds) ≡ value_from (before * 10 + (get_or ds i 0 - 48)) (drop (i + 1) ds) = ap (value_from before) (drop_more ds i 0 l) in
    above limit (before * 10 + (get_or ds i 0 - 48)) n (drop (i + 1) ds) (omega (arith, h, is)) (sym f ∙ e)

digit_small : (d : ℕ) → is_digit d ≡ true → d - 48 ≤ 9
digit_small d e = let t = and_parts (leb 48 d) (leb d 57) e in omega (arith, leb-true d 57 t.1)

-- so many digits say less than the power of ten
pub value_from_bound : (before : ℕ) (ds : List ℕ) → Are is_digit ds → value_from before ds < (before + 1) * 10 ^ length ds
value_from_bound before [] a = omega arith
value_from_bound before (d ∷ ds) a =
    let small : d - 48 ≤ 9 = digit_small d a.0 in
    let rest = value_from_bound (before * 10 + (d - 48)) ds a.1 in
    let more : ((before * 10 + (d - 48)) + 1) * 10 ^ length ds ≤ ((before + 1) * 10) * 10 ^ length ds = mul-le-mul_right (10 ^ length ds) (omega (arith, small)) in
    let same : ((before + 1) * 10) * 10 ^ length ds ≡ (before + 1) * 10 ^ suc (length ds) = mul_assoc (before + 1) 10 (10 ^ length ds) ∙ ap (λ r. (before + 1) * r) (sym (pow-succ' 10 (length ds))) in
    omega (arith, rest, more, same)

pow_above : (n : ℕ) → 0 < 10 ^ n
pow_above zero = omega arith
pow_above (suc n) = omega (arith, pow-succ' 10 n, pow_above n)

pub value_bound : (ds : List ℕ) → Are is_digit ds → value ds < 10 ^ length ds
value_bound ds a = omega (arith, value_from_bound 0 ds a)

-- at most nine decimals say less than a whole
pub few_decimals : (ds : List ℕ) → Are is_digit ds → length ds ≤ 9 → value ds * 10 ^ (9 - length ds) < 10 ^ 9
few_decimals ds a few =
    let p : 10 ^ length ds * 10 ^ (9 - length ds) ≡ 10 ^ 9 = sym (pow-add 10 (length ds) (9 - length ds)) ∙ ap (λ n. 10 ^ n) (let e : length ds + (9 - length ds) ≡ 9 = omega (arith, few) in e) in
    let q : (value ds + 1) * 10 ^ (9 - length ds) ≤ 10 ^ length ds * 10 ^ (9 - length ds) = mul-le-mul_right (10 ^ (9 - length ds)) (let b = value_bound ds a in omega (arith, b)) in
    let one : 0 < 10 ^ (9 - length ds) = pow_above (9 - length ds) in
    omega (arith, p, q, one)

-- the same of what the program computes
pub few_read : (ds : List ℕ) (o : Option ℕ) (v p : ℕ) → Are is_digit ds → length ds ≤ 9 → o ≡ within 999999999 (value ds) → v ≡ unwrap_or o 0 → p ≡ 10 ^ (9 - length ds)
    → (v ≡ value ds) × (v * p < 1000000000)
few_read ds o v p a few is got pow =
    let b : value ds * 10 ^ (9 - length ds) < 10 ^ 9 = few_decimals ds a few in
    let one : 0 < 10 ^ (9 - length ds) = pow_above (9 - length ds) in
    let n : value ds * 1 ≤ value ds * 10 ^ (9 - length ds) = mul-le-mul_left (value ds) one in
    let low : value ds ≤ 999999999 = omega (arith, n, b) in
    let same : v ≡ value ds = got ∙ ap (λ (r : Option ℕ). unwrap_or r 0) {y = Some (value ds)} (is ∙ (rw (le-leb (value ds) 999999999 low) refl)) in
    (same, rw (same, pow) b)

take_digits : (n : ℕ) (ds : List ℕ) → Are is_digit ds → Are is_digit (take n ds)
take_digits zero ds a = tt
take_digits (suc n) [] a = tt
take_digits (suc n) (d ∷ ds) a = (a.0, take_digits n ds a.1)

-- the decimals that count say less than a whole
pub billionths_small : (ds : List ℕ) → Are is_digit ds → billionths ds < 10 ^ 9
billionths_small ds a =
    let few : length (take 9 ds) ≤ 9 = omega (arith, length-take 9 ds) in
    let b = few_decimals (take 9 ds) (take_digits 9 ds a) few in
    elim (cases_lt 9 (length ds)) [
      | inl h ↦ let e : 9 - length ds ≡ 9 - length (take 9 ds) = omega (arith, length-take 9 ds, h) in rw e b
      | inr h ↦ let e : length (take 9 ds) ≡ length ds = omega (arith, length-take 9 ds, h) in rw (sym e) b
    ]
