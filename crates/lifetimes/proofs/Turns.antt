-- The order in which the notes of a part are listed.
use Rattle.std.proofs.Common.{◌≡◌, ℕ, ℤ, List, Bool, true, false, ◌&&◌, ◌||◌, nat_eq, nat_lt, sym, subst, arith, inl, inr}
use Rattle.std.specs.List.Sorted.{IsPartitionedBy, IsPartitionPoint}
use Rattle.std.proofs.lemmas.Int.{ints}
use Rattle.std.proofs.lemmas.Bool.{or_cases, or_left, or_right, and_parts, and_from}
use Rattle.retune_model.specs.Faults.{int_eq}
use Rattle.retune_model.specs.Pairs.{int_lt}
use Rattle.lifetimes.specs.declared.notes.Sounding.{Sounding}
use Rattle.lifetimes.proofs.InOrder.{parted}
use Rattle.lifetimes.proofs.Kept.{int_eq_tells}
use Rattle.lifetimes.specs.Lists.{comes_before, is_same, no_note, AreInTurn, IsPlaceIn}

int_then : (a b c : ℤ) → int_lt a b ≡ true → int_lt b c ≡ true → int_lt a c ≡ true
int_then a b c h g = grind (arith, ints)

nat_then : (a b c x y z : ℕ) → (nat_lt a b || (nat_eq a b && nat_lt x y)) ≡ true → (nat_lt b c || (nat_eq b c && nat_lt y z)) ≡ true
    → (nat_lt a c || (nat_eq a c && nat_lt x z)) ≡ true
nat_then a b c x y z h g = grind arith

-- by a first key and then, where it is the same, by what is behind it
by_first : (a b c : ℤ) (k l m : Bool) → (k ≡ true → l ≡ true → m ≡ true)
    → (int_lt a b || (int_eq a b && k)) ≡ true → (int_lt b c || (int_eq b c && l)) ≡ true
    → (int_lt a c || (int_eq a c && m)) ≡ true
by_first a b c k l m behind h g = elim (or_cases (int_lt a b) (int_eq a b && k) h) [
  | inl x ↦ elim (or_cases (int_lt b c) (int_eq b c && l) g) [
    | inl y ↦ or_left (int_lt a c) (int_eq a c && m) (int_then a b c x y)
    | inr y ↦ or_left (int_lt a c) (int_eq a c && m) (subst (λ z. int_lt a z ≡ true) (int_eq_tells b c (and_parts (int_eq b c) l y).0) x)
  ]
  | inr x ↦ (let p = and_parts (int_eq a b) k x in subst (λ z. (int_lt z c || (int_eq z c && m)) ≡ true) (sym (int_eq_tells a b p.0))
      (elim (or_cases (int_lt b c) (int_eq b c && l) g) [
        | inl y ↦ or_left (int_lt b c) (int_eq b c && m) y
        | inr y ↦ (let q = and_parts (int_eq b c) l y in or_right (int_lt b c) (int_eq b c && m) (and_from (int_eq b c) m q.0 (behind p.1 q.1)))
      ]))
]

abbrev before_by_keys : Sounding → Sounding → Bool
before_by_keys x y = nat_lt x.target y.target || (nat_eq x.target y.target && nat_lt x.key y.key)

pub then_before : (a b c : Sounding) → comes_before a b ≡ true → comes_before b c ≡ true → comes_before a c ≡ true
then_before a b c =
    by_first a.steps b.steps c.steps (before_by_keys a b) (before_by_keys b c) (before_by_keys a c)
    (nat_then a.target b.target c.target a.key b.key c.key)

pub or_same : (a b : Sounding) → comes_before a b ≡ false → comes_before b a ≡ false → is_same a b ≡ true
or_same a b h g = grind (arith, ints)

pub in_parts : (xs : List Sounding) (y : Sounding) → AreInTurn xs → IsPartitionedBy (λ e. comes_before e y) xs
in_parts xs y = parted no_note (λ e. comes_before e y) (λ a b. comes_before a b ≡ true) xs (λ a b. then_before a b y)

pub place_of : (xs : List Sounding) (y : Sounding) (i : ℕ)
    → IsPartitionPoint (λ e. comes_before e y ≡ true) (λ e. comes_before e y ≡ false) xs i → IsPlaceIn xs y i
place_of xs y i p = record { before = λ k lt. p.0 k no_note (omega arith) lt; behind = λ k le within. p.1 k no_note le within }
