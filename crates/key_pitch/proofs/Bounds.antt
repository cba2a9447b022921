-- Bounds of sums, differences and multiples of pitches.
use Rattle.std.proofs.Common.{◌≡◌, ℕ, zero, suc, ◌+◌, ◌*◌, ◌^◌, ℤ, pos, negsuc, ◌+ℤ◌, ◌-ℤ◌, ◌*ℤ◌, arith, refl, sym, ◌∙◌, ap, subst, List, [], ◌∷◌, ◌++◌, inl, inr, false}
use Rattle.std.specs.Prelude.{◌≤ℤ◌, neg_ℤ, nat_eq, if◌then◌else◌}
use Rattle.std.specs.List.{AllByRecursion}
use Rattle.std.proofs.lemmas.Int.{ints}
use Rattle.mt_base.specs.Grains.{octave}
use Rattle.mt_base.specs.Pitch.{Pitch, AtLeast, AtMost, ratio, exactly, added, subtracted, times}
use Rattle.mt_base.specs.Laws.{LeastOfSum, MostOfSum, LeastOfDifference, MostOfDifference, LeastOfMultiple, MostOfMultiple, LeastOfExact, MostOfExact}
use Rattle.retune_model.specs.Scale.{IsOctaves, repeated, size_of}
use Rattle.retune_model.specs.Table.{Bounds, AreBounds}
use Rattle.key_pitch.proofs.Signs.{times_apart, turned}

pub all_first : {X : Type 0} (P : X → Type 0) (xs ys : List X) → AllByRecursion P (xs ++ ys) → AllByRecursion P xs
all_first P [] ys h = tt
all_first P (x ∷ xs) ys h = (h.0, all_first P xs ys h.1)

pub all_second : {X : Type 0} (P : X → Type 0) (xs ys : List X) → AllByRecursion P (xs ++ ys) → AllByRecursion P ys
all_second P [] ys h = h
all_second P (x ∷ xs) ys h = all_second P xs ys h.1

pub sum_bounds : LeastOfSum → MostOfSum → (p q : Pitch) (m n : ℕ) (r s : List (ℕ × ℕ)) (a b c : Bounds) → AreBounds p m r a → AreBounds q n s b → c.lo ≡ a.lo +ℤ b.lo → c.hi ≡ a.hi +ℤ b.hi → AreBounds (added p q) (m + n) (r ++ s) c
sum_bounds least_of_sum most_of_sum p q m n r s a b c h i lo hi = record {
  least = rw lo (least_of_sum p q a.lo b.lo h.least i.least);
  most = rw hi (most_of_sum p q a.hi b.hi h.most i.most);
  narrow = omega (arith, ints, lo, hi, h.narrow, i.narrow);
  exact = λ all. let e = h.exact (all_first IsOctaves r s all) in let f = i.exact (all_second IsOctaves r s all) in omega (arith, ints, lo, hi, e, f);
}

pub difference_bounds : LeastOfDifference → MostOfDifference → (p q : Pitch) (m n : ℕ) (r s : List (ℕ × ℕ)) (a b c : Bounds) → AreBounds p m r a → AreBounds q n s b → c.lo ≡ a.lo -ℤ b.hi → c.hi ≡ a.hi -ℤ b.lo → AreBounds (subtracted p q) (m + n) (r ++ s) c
difference_bounds least_of_difference most_of_difference p q m n r s a b c h i lo hi = record {
  least = rw lo (least_of_difference p q a.lo b.hi h.least i.most);
  most = rw hi (most_of_difference p q a.hi b.lo h.most i.least);
  narrow = omega (arith, ints, lo, hi, h.narrow, i.narrow);
  exact = λ all. let e = h.exact (all_first IsOctaves r s all) in let f = i.exact (all_second IsOctaves r s all) in omega (arith, ints, lo, hi, e, f);
}

pub exact_bounds : LeastOfExact → MostOfExact → (n : ℤ) → AreBounds (exactly n) 0 [] (record { lo = n; hi = n })
exact_bounds least_of_exact most_of_exact n = record {
  least = least_of_exact n;
  most = most_of_exact n;
  narrow = omega (arith, ints);
  exact = λ all. refl;
}

not_none : (j : ℕ) → nat_eq (suc j) 0 ≡ false
not_none j = grind arith

some_ratios : (j : ℕ) (r : List (ℕ × ℕ)) → (if nat_eq (suc j) 0 then [] else r) ≡ r
some_ratios j r = ap (λ b. if b then [] else r) (not_none j)

times_bounds : LeastOfMultiple → MostOfMultiple → (p : Pitch) (m j : ℕ) (r : List (ℕ × ℕ)) (a c : Bounds) → AreBounds p m r a → c.lo ≡ pos j *ℤ a.lo → c.hi ≡ pos j *ℤ a.hi → AreBounds (times j p) (j * m) (if nat_eq j 0 then [] else r) c
times_bounds least_of_multiple most_of_multiple p m zero r a c h lo hi = record {
  least = rw lo (least_of_multiple p a.lo zero h.least);
  most = rw hi (most_of_multiple p a.hi zero h.most);
  narrow = omega (arith, ints, lo, hi);
  exact = λ all. omega (arith, ints, lo, hi);
}
times_bounds least_of_multiple most_of_multiple p m (suc j) r a c h lo hi = record {
  least = rw lo (least_of_multiple p a.lo (suc j) h.least);
  most = rw hi (most_of_multiple p a.hi (suc j) h.most);
  narrow = let e : (suc j) * (18000 * m) ≡ 18000 * (suc j * m) = grind arith in omega (arith, ints, lo, hi, e, times_apart (suc j) (18000 * m) a.lo a.hi h.narrow);
  exact = λ all. lo ∙ ap (λ z. pos (suc j) *ℤ z) (h.exact (subst (AllByRecursion IsOctaves) (some_ratios j r) all)) ∙ sym hi;
}

-- the same bounds, told by other lists of the same ratios
pub retold : (p : Pitch) (m n : ℕ) (r s : List (ℕ × ℕ)) (a : Bounds) → AreBounds p m r a → m ≡ n → (AllByRecursion IsOctaves s → AllByRecursion IsOctaves r) → AreBounds p n s a
retold p m n r s a h same told = record {
  least = h.least;
  most = h.most;
  narrow = rw (sym same) h.narrow;
  exact = λ all. h.exact (told all);
}

pub repeated_up : LeastOfMultiple → MostOfMultiple → (p : Pitch) (m j : ℕ) (r : List (ℕ × ℕ)) (a c : Bounds) → AreBounds p m r a → c.lo ≡ pos j *ℤ a.lo → c.hi ≡ pos j *ℤ a.hi → AreBounds (repeated (pos j) p) (size_of (pos j) * m) (if nat_eq (size_of (pos j)) 0 then [] else r) c
repeated_up least most p m j r a c h lo hi = times_bounds least most p m j r a c h lo hi

-- what a number of repeats below 0 rests on: so many multiples, taken from an exact 0
pub record LawsDown : Type 0 where
  pub least_of_multiple : LeastOfMultiple
  pub most_of_multiple : MostOfMultiple
  pub least_of_difference : LeastOfDifference
  pub most_of_difference : MostOfDifference
  pub least_of_exact : LeastOfExact
  pub most_of_exact : MostOfExact

pub repeated_down : LawsDown → (p : Pitch) (m j : ℕ) (r : List (ℕ × ℕ)) (a c : Bounds) → AreBounds p m r a → c.lo ≡ negsuc j *ℤ a.hi → c.hi ≡ negsuc j *ℤ a.lo → AreBounds (repeated (negsuc j) p) (size_of (negsuc j) * m) (if nat_eq (size_of (negsuc j)) 0 then [] else r) c
repeated_down laws p m j r a c h lo hi =
    let b : Bounds = record { lo = pos (suc j) *ℤ a.lo; hi = pos (suc j) *ℤ a.hi } in
    let t = times_bounds laws.least_of_multiple laws.most_of_multiple p m (suc j) r a b h refl refl in
    let s : List (ℕ × ℕ) = if nat_eq (suc j) 0 then [] else r in
    retold (subtracted (exactly (pos 0)) (times (suc j) p)) (0 + suc j * m) (suc j * m) s s c
    (difference_bounds laws.least_of_difference laws.most_of_difference (exactly (pos 0)) (times (suc j) p) 0 (suc j * m) [] s (record { lo = pos 0; hi = pos 0 }) b c
    (exact_bounds laws.least_of_exact laws.most_of_exact (pos 0)) t
    (omega (arith, ints, lo, turned j a.hi)) (omega (arith, ints, hi, turned j a.lo))) (omega arith) (λ all. all)

-- the same bounds, of a pitch so many grains higher
pub raised : (a b m : ℕ) (r : List (ℕ × ℕ)) (g : ℤ) (x c : Bounds) → AreBounds (ratio a b) m r x → c.lo ≡ x.lo +ℤ g → c.hi ≡ x.hi +ℤ g → AreBounds (record { a = a; b = b; c = g }) m r c
raised a b m r g x c h lo hi = record {
  least = record { holds = λ u d e. h.least.holds u d (omega (arith, ints, lo, e)) };
  most = record { holds = λ u d e. h.most.holds u d (omega (arith, ints, hi, e)) };
  narrow = omega (arith, ints, lo, hi, h.narrow);
  exact = λ all. let e = h.exact all in omega (arith, ints, lo, hi, e);
}

-- a ratio of two numbers, from the bracket of its logarithm
pub ratio_bounds : (a b : ℕ) (x : Bounds) → AtLeast (ratio a b) x.lo → AtMost (ratio a b) x.hi → (x.hi -ℤ x.lo) ≤ℤ pos 18000
    → ((j : ℕ) → a ≡ 2 ^ j * b → (x.lo ≡ pos (j * octave)) × (x.hi ≡ pos (j * octave)))
    → ((j : ℕ) → b ≡ 2 ^ j * a → (x.lo ≡ neg_ℤ (pos (j * octave))) × (x.hi ≡ neg_ℤ (pos (j * octave))))
    → AreBounds (ratio a b) 1 ((a, b) ∷ []) x
ratio_bounds a b x least most width up down = record {
  least = least;
  most = most;
  narrow = omega (arith, ints, width);
  exact = λ all. elim all.0.1 as (λ s. x.lo ≡ x.hi) [ inl e ↦ (up all.0.0 e).0 ∙ sym (up all.0.0 e).1 | inr e ↦ (down all.0.0 e).0 ∙ sym (down all.0.0 e).1 ];
}
