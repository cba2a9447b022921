-- Numbers of steps within a bend, and the least that is beyond one.
use Rattle.std.proofs.Common.{◌≡◌, ◌<◌, ◌⊎◌, ℤ, pos, negsuc, neg_ℤ, ◌+ℤ◌, ◌-ℤ◌, Bool, true, false, Option, Some, None, arith, inl, inr}
use Rattle.std.specs.Prelude.{◌≤ℤ◌, ◌<ℤ◌, IfSome, IfNone}
use Rattle.std.proofs.lemmas.Int.{ints}
use Rattle.std.proofs.lemmas.Bool.{cases_lt, lt-ltb, le-ltb, ltb-true, both_ways}
use Rattle.retune_model.specs.Faults.{is_within_bend}
use Rattle.lifetimes.specs.Resting.{IsLeast}
use Rattle.lifetimes.specs.Due.{least_steps, IsFirstBeyond, NoneBeyond}

pub within_from : (z : ℤ) → neg_ℤ (pos 8192) ≤ℤ z → z <ℤ pos 8192 → is_within_bend z ≡ true
within_from (pos n) low high = lt-ltb n 8192 (omega (arith, ints))
within_from (negsuc n) low high = lt-ltb n 8192 (omega (arith, ints))

pub within_low : (z : ℤ) → is_within_bend z ≡ true → neg_ℤ (pos 8192) ≤ℤ z
within_low (pos n) is = omega (arith, ints)
within_low (negsuc n) is = let l : n < 8192 = ltb-true n 8192 is in omega (arith, ints)

pub beyond_high : (z : ℤ) → pos 8192 ≤ℤ z → is_within_bend z ≡ false
beyond_high (pos n) high = le-ltb n 8192 (omega (arith, ints))
beyond_high (negsuc n) high = absurd (let no : ⊥ = omega (arith, ints) in no)

pub cases_ltz : (p q : ℤ) → (p <ℤ q) ⊎ (q ≤ℤ p)
cases_ltz (pos a) (pos b) = elim (cases_lt a b) [ inl l ↦ inl (omega (arith, ints)) | inr l ↦ inr (omega (arith, ints)) ]
cases_ltz (pos a) (negsuc b) = inr (omega (arith, ints))
cases_ltz (negsuc a) (pos b) = inl (omega (arith, ints))
cases_ltz (negsuc a) (negsuc b) = elim (cases_lt b a) [ inl l ↦ inl (omega (arith, ints)) | inr l ↦ inr (omega (arith, ints)) ]

-- ---- the least steps that are beyond: the least of all, or else the least above a bend's

first_is_beyond : (there : ℤ → Bool) (moved q : ℤ) → IsLeast there least_steps q → is_within_bend (q +ℤ moved) ≡ false → IsFirstBeyond there moved q
first_is_beyond there moved q least beyond = record {
  here = least.here;
  beyond = beyond;
  least = λ p low less is. absurd (both_ways (there p) (least.least p low less) is);
}

-- what lies from the first on and below what is above a bend's is within it
between : (moved first from p : ℤ) → is_within_bend (first +ℤ moved) ≡ true → from ≡ pos 8192 -ℤ moved → first ≤ℤ p → p <ℤ from
    → is_within_bend (p +ℤ moved) ≡ true
between moved first from p within is low high =
    let bound : neg_ℤ (pos 8192) ≤ℤ (first +ℤ moved) = within_low (first +ℤ moved) within in
    within_from (p +ℤ moved) (omega (arith, ints)) (omega (arith, ints))

later : (there : ℤ → Bool) (moved first from p : ℤ) → IsLeast there least_steps first → is_within_bend (first +ℤ moved) ≡ true
    → from ≡ pos 8192 -ℤ moved
    → least_steps ≤ℤ p → p <ℤ from → there p ≡ true → is_within_bend (p +ℤ moved) ≡ true
later there moved first from p least within is low high here = pick (cases_ltz p first)
  where
    pick : (p <ℤ first) ⊎ (first ≤ℤ p) → is_within_bend (p +ℤ moved) ≡ true
    pick (inl less) = absurd (both_ways (there p) (least.least p low less) here)
    pick (inr more) = between moved first from p within is more high

pub second_found : (there : ℤ → Bool) (moved first from : ℤ) (found : Option ℤ) → IsLeast there least_steps first
    → is_within_bend (first +ℤ moved) ≡ true
    → from ≡ pos 8192 -ℤ moved → IfSome found (IsLeast there from) → IfSome found (IsFirstBeyond there moved)
second_found there moved first from None least within is h = tt
second_found there moved first from (Some q) least within is h = record {
  here = h.here;
  beyond = (let above = h.from_on in beyond_high (q +ℤ moved) (omega (arith, ints)));
  least = λ p low less here. pick p low less here (cases_ltz p from);
}
  where
    pick : (p : ℤ) → least_steps ≤ℤ p → p <ℤ q → there p ≡ true → (p <ℤ from) ⊎ (from ≤ℤ p) → is_within_bend (p +ℤ moved) ≡ true
    pick p low less here (inl below) = later there moved first from p least within is low below here
    pick p low less here (inr above) = absurd (both_ways (there p) (h.least p above less) here)

pub second_none : (there : ℤ → Bool) (moved first from : ℤ) (found : Option ℤ) → IsLeast there least_steps first
    → is_within_bend (first +ℤ moved) ≡ true
    → from ≡ pos 8192 -ℤ moved → IfNone found ((p : ℤ) → from ≤ℤ p → there p ≡ false) → IfNone found (NoneBeyond there moved)
second_none there moved first from (Some q) least within is h = tt
second_none there moved first from None least within is h = λ p low here. pick p low here (cases_ltz p from)
  where
    pick : (p : ℤ) → least_steps ≤ℤ p → there p ≡ true → (p <ℤ from) ⊎ (from ≤ℤ p) → is_within_bend (p +ℤ moved) ≡ true
    pick p low here (inl below) = later there moved first from p least within is low below here
    pick p low here (inr above) = absurd (both_ways (there p) (h p above) here)
