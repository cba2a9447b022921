-- The first of some numbers in a row that passes a test.
use Rattle.std.proofs.Common.{◌≡◌, ◌<◌, ◌≤◌, ℕ, zero, suc, ◌+◌, ◌%◌, Bool, true, false, nat_eq, Some, None, arith, sym, ◌∙◌, ap, inl, inr}
use Rattle.std.specs.List.{find, range_with_len}
use Rattle.std.proofs.lemmas.Bool.{cases_Bool, cases_lt, cond-true, cond-false, and_parts, and_from, eq-eqb, eqb-true, false_from_ne_true}
use Rattle.octave_route.specs.Classes.{is_used, is_of_class, IsLeastUsed}

record IsFirst (p : ℕ → Bool) (from count key : ℕ) : Type 0 where
  low : from ≤ key
  high : key < from + count
  passes : p key ≡ true
  before : (k : ℕ) → from ≤ k → k < key → p k ≡ false

found : (p : ℕ → Bool) (a n key : ℕ) → find p (range_with_len a n) ≡ Some key → IsFirst p a n key
found p a zero key e = absurd (let clash : ⊥ = cc in clash)
found p a (suc n) key e =
    elim (cases_Bool (p a)) [
      | inl t ↦
          let first : Some a ≡ Some key = sym (cond-true (p a) (Some a) (find p (range_with_len (a + 1) n)) t) ∙ e in
          let same : a ≡ key = cc in
          record { low = omega (arith, same); high = omega (arith, same); passes = ap p (sym same) ∙ t; before = λ k from below. absurd (omega (arith, same, from, below)) }
      | inr f ↦
          let rest = found p (a + 1) n key (sym (cond-false (p a) (Some a) (find p (range_with_len (a + 1) n)) f) ∙ e) in
          record {
            low = omega (arith, rest.low);
            high = omega (arith, rest.high);
            passes = rest.passes;
            before = λ k from below. elim (cases_lt a k) [ inl l ↦ rest.before k (omega (arith, l)) below | inr g ↦ ap p (let is : k ≡ a = omega (arith, from, g) in is) ∙ f ];
          }
    ]

none : (p : ℕ → Bool) (a n : ℕ) → find p (range_with_len a n) ≡ None → (k : ℕ) → a ≤ k → k < a + n → p k ≡ false
none p a zero e k from below = absurd (omega (arith, from, below))
none p a (suc n) e k from below =
    elim (cases_Bool (p a)) [
      | inl t ↦
          let first : Some a ≡ None = sym (cond-true (p a) (Some a) (find p (range_with_len (a + 1) n)) t) ∙ e in
          absurd (let clash : ⊥ = cc in clash)
      | inr f ↦
          let rest : find p (range_with_len (a + 1) n) ≡ None = sym (cond-false (p a) (Some a) (find p (range_with_len (a + 1) n)) f) ∙ e in
          elim (cases_lt a k) [ inl l ↦ none p (a + 1) n rest k (omega (arith, l)) (omega (arith, below)) | inr g ↦ ap p (let is : k ≡ a = omega (arith, from, g) in is) ∙ f ]
    ]

unused : (used class key : ℕ) → is_of_class used class key ≡ false → key % 12 ≡ class → is_used used key ≡ false
unused used class key isnt is =
    false_from_ne_true (is_used used key) (λ t.
    let both : is_of_class used class key ≡ true = and_from (nat_eq (key % 12) class) (is_used used key) (eq-eqb (key % 12) class is) t in
    let clash : true ≡ false = sym both ∙ isnt in cc)

pub least : (used class key : ℕ) → find (is_of_class used class) (range_with_len 0 128) ≡ Some key → IsLeastUsed used class key
least used class key e =
    let first = found (is_of_class used class) 0 128 key e in
    let parts = and_parts (nat_eq (key % 12) class) (is_used used key) first.passes in
    record {
      high = omega (arith, first.high);
      of_class = eqb-true (key % 12) class parts.0;
      wanted = parts.1;
      least = λ k below is. unused used class k (first.before k (omega arith) below) is;
    }

pub no_key : (used class : ℕ) → find (is_of_class used class) (range_with_len 0 128) ≡ None → (key : ℕ) → key ≤ 127 → key % 12 ≡ class → is_used used key ≡ false
no_key used class e key high is = unused used class key (none (is_of_class used class) 0 128 e key (omega arith) (omega (arith, high))) is
