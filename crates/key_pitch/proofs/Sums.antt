-- Bounds and counts of sums, differences and multiples.
use Rattle.std.proofs.Common.{◌≡◌, ℕ, suc, ◌+◌, ◌*◌, ◌≤◌, ℤ, pos, negsuc, ◌+ℤ◌, ◌-ℤ◌, ◌*ℤ◌, arith, refl, ◌∙◌, ap, List, [], ◌++◌, true, false}
use Rattle.std.specs.Prelude.{nat_eq, if◌then◌else◌}
use Rattle.std.specs.Int.Signed.{lt_z}
use Rattle.std.proofs.lemmas.Int.{ints}
use Rattle.std.proofs.Math.IntN.{nat_abs}
use Rattle.std.proofs.Math.Nat.{mul-le-mul_left}
use Rattle.mt_base.specs.Pitch.{Pitch, added, subtracted}
use Rattle.mt_base.specs.Laws.{LeastOfSum, MostOfSum, LeastOfDifference, MostOfDifference, LeastOfMultiple, MostOfMultiple}
use Rattle.retune_model.specs.Scale.{repeated, size_of}
use Rattle.key_pitch.specs.declared.sum.Sum.{Sum}
use Rattle.key_pitch.specs.Views.{bounds_of}
use Rattle.key_pitch.specs.Sums.{Sums, IsSmall}
use Rattle.key_pitch.proofs.Signs.{times_low, times_high, times_order, turned}
use Rattle.key_pitch.proofs.Bounds.{sum_bounds, difference_bounds, repeated_up, LawsDown, repeated_down}

pub size_abs : (z : ℤ) → nat_abs z ≡ size_of z
size_abs (pos n) = refl
size_abs (negsuc n) = refl

pub plus_sums : LeastOfSum → MostOfSum → (p q : Pitch) (m n : ℕ) (r t : List (ℕ × ℕ)) (a b c : Sum) → Sums p m r a → Sums q n t b → c.terms ≡ a.terms + b.terms → c.bracket.lo.0 ≡ a.bracket.lo.0 +ℤ b.bracket.lo.0 → c.bracket.hi.0 ≡ a.bracket.hi.0 +ℤ b.bracket.hi.0 → Sums (added p q) (m + n) (r ++ t) c
plus_sums least most p q m n r t a b c h i terms lo hi = record {
  counted = omega (arith, terms, h.counted, i.counted);
  bounds = sum_bounds least most p q m n r t (bounds_of a.bracket) (bounds_of b.bracket) (bounds_of c.bracket) h.bounds i.bounds lo hi;
}

pub minus_sums : LeastOfDifference → MostOfDifference → (p q : Pitch) (m n : ℕ) (r t : List (ℕ × ℕ)) (a b c : Sum) → Sums p m r a → Sums q n t b → c.terms ≡ a.terms + b.terms → c.bracket.lo.0 ≡ a.bracket.lo.0 -ℤ b.bracket.hi.0 → c.bracket.hi.0 ≡ a.bracket.hi.0 -ℤ b.bracket.lo.0 → Sums (subtracted p q) (m + n) (r ++ t) c
minus_sums least most p q m n r t a b c h i terms lo hi = record {
  counted = omega (arith, terms, h.counted, i.counted);
  bounds = difference_bounds least most p q m n r t (bounds_of a.bracket) (bounds_of b.bracket) (bounds_of c.bracket) h.bounds i.bounds lo hi;
}

-- What the program makes of a sum that it repeats: where the number is below 0 the ends change places.
pub record Repeats (j : ℤ) (a c : Sum) : Type 0 where
  pub terms : c.terms ≡ size_of j * a.terms
  pub lo : c.bracket.lo.0 ≡ j *ℤ a.bracket.lo.0
  pub hi : c.bracket.hi.0 ≡ j *ℤ a.bracket.hi.0

pub record RepeatsTurned (j : ℤ) (a c : Sum) : Type 0 where
  pub terms : c.terms ≡ size_of j * a.terms
  pub lo : c.bracket.lo.0 ≡ j *ℤ a.bracket.hi.0
  pub hi : c.bracket.hi.0 ≡ j *ℤ a.bracket.lo.0

true_is_false : {P : Type 0} → true ≡ false → P
true_is_false h = absurd (let no : ⊥ = cc in no)

not_below : (j : ℕ) → lt_z (pos j) (pos 0) ≡ true → ⊥
not_below j h = grind (arith, ints)

pub up_sums : LeastOfMultiple → MostOfMultiple → (j : ℤ) (a c : Sum) → lt_z j (pos 0) ≡ false → Repeats j a c → (p : Pitch) (m : ℕ) (r : List (ℕ × ℕ)) → Sums p m r a → Sums (repeated j p) (size_of j * m) (if nat_eq (size_of j) 0 then [] else r) c
up_sums least most (pos j) a c sign is p m r h = record {
  counted = is.terms ∙ ap (λ n. j * n) h.counted;
  bounds = repeated_up least most p m j r (bounds_of a.bracket) (bounds_of c.bracket) h.bounds is.lo is.hi;
}
up_sums least most (negsuc j) a c sign is p m r h = true_is_false sign

pub down_sums : LawsDown → (j : ℤ) (a c : Sum) → lt_z j (pos 0) ≡ true → RepeatsTurned j a c → (p : Pitch) (m : ℕ) (r : List (ℕ × ℕ)) → Sums p m r a → Sums (repeated j p) (size_of j * m) (if nat_eq (size_of j) 0 then [] else r) c
down_sums laws (pos j) a c sign is p m r h = absurd (not_below j sign)
down_sums laws (negsuc j) a c sign is p m r h = record {
  counted = is.terms ∙ ap (λ n. suc j * n) h.counted;
  bounds = repeated_down laws p m j r (bounds_of a.bracket) (bounds_of c.bracket) h.bounds is.lo is.hi;
}

pub up_small : (j : ℤ) (a c : Sum) → lt_z j (pos 0) ≡ false → Repeats j a c → (g m : ℕ) → IsSmall g m a → IsSmall (size_of j * g) (size_of j * m) c
up_small (pos j) a c sign is g m h = record {
  low = rw is.lo (times_low j g a.bracket.lo.0 h.low);
  order = rw (is.lo, is.hi) (times_order j a.bracket.lo.0 a.bracket.hi.0 h.order);
  high = rw is.hi (times_high j g a.bracket.hi.0 h.high);
  few = rw is.terms (mul-le-mul_left j h.few);
}
up_small (negsuc j) a c sign is g m h = true_is_false sign

pub down_small : (j : ℤ) (a c : Sum) → lt_z j (pos 0) ≡ true → RepeatsTurned j a c → (g m : ℕ) → IsSmall g m a → IsSmall (size_of j * g) (size_of j * m) c
down_small (pos j) a c sign is g m h = absurd (not_below j sign)
down_small (negsuc j) a c sign is g m h =
    let l = times_low (suc j) g a.bracket.lo.0 h.low in
    let o = times_order (suc j) a.bracket.lo.0 a.bracket.hi.0 h.order in
    let u = times_high (suc j) g a.bracket.hi.0 h.high in
    record {
      low = omega (arith, ints, is.lo, turned j a.bracket.hi.0, u);
      order = omega (arith, ints, is.lo, is.hi, turned j a.bracket.lo.0, turned j a.bracket.hi.0, o);
      high = omega (arith, ints, is.hi, turned j a.bracket.lo.0, l);
      few = rw is.terms (mul-le-mul_left (suc j) h.few);
    }

pub smaller : (g h m n : ℕ) (s : Sum) → IsSmall g m s → g ≤ h → m ≤ n → IsSmall h n s
smaller g h m n s is more more_terms = record {
  low = omega (arith, ints, is.low);
  order = is.order;
  high = omega (arith, ints, is.high);
  few = omega (arith, is.few);
}
