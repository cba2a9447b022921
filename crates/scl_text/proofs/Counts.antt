-- The count of a count line, and its fault.
use Rattle.std.proofs.Common.{◌≡◌, ℕ, zero, suc, ◌<◌, ◌≤◌, ◌⊎◌, List, length, Result, Ok, Err, false, refl, sym, ap, subst, ◌∙◌, inl, inr, arith}
use Rattle.std.specs.Prelude.{◌==◌, nat_lt}
use Rattle.std.proofs.lemmas.Bool.{eq-eqb, ne_eqb, lt-ltb, le-ltb, cases_lt, or_from, or_left, or_right}
use Rattle.scala_lines.specs.Numbers.{value}
use Rattle.scala_lines.specs.Spelling.{IsNumber, HasDigits}
use Rattle.scl_text.specs.declared.fault.SclKind.{SclKind}
use Rattle.scl_text.specs.declared.fault.SclKind.TheVariants.{NoDescription, NoCount, BadCount, CountRange, BadPitch, NegativeRatio, ZeroRatio, BigNumber, MissingPitch}
use Rattle.scl_text.specs.Reading.{count_of, count_digits, count_in_range}
use Rattle.scl_text.specs.Spelling.{IsCount, CountFault}
use Rattle.scala_lines.specs.Laws.{AreNumbers}

abbrev Read : Type 0
Read = Result ℕ SclKind

ok_is : (x y : ℕ) → (let r : Read = Ok x in r) ≡ Ok y → x ≡ y
ok_is x y e = cc

err_is : (x y : SclKind) → (let r : Read = Err x in r) ≡ Err y → x ≡ y
err_is x y e = cc

in_range : (n : ℕ) → 1 ≤ n → n ≤ 4096 → count_in_range n ≡ Ok n
in_range n some few = rw (or_from (n == 0) (nat_lt 4096 n) (ne_eqb n 0 (λ e. omega (arith, some, e))) (le-ltb 4096 n few)) refl

out_of_range : (n : ℕ) → (n ≡ 0) ⊎ (4096 < n) → count_in_range n ≡ Err CountRange
out_of_range n (inl e) = rw (or_left (n == 0) (nat_lt 4096 n) (eq-eqb n 0 e)) refl
out_of_range n (inr h) = rw (or_right (n == 0) (nat_lt 4096 n) (lt-ltb 4096 n h)) refl

-- what is counted: in the range, or out of it
ranged : (n : ℕ) → ((1 ≤ n) × (n ≤ 4096)) ⊎ ((n ≡ 0) ⊎ (4096 < n))
ranged zero = inr (inl refl)
ranged (suc n) = elim (cases_lt 4096 (suc n)) [ inl h ↦ inr (inr h) | inr h ↦ inl (omega arith, h) ]

-- digits are not none
long : (digits : List ℕ) → 0 < length digits → (length digits == 0) ≡ false
long digits some = ne_eqb (length digits) 0 (λ e. omega (arith, some, e))

is_number : (line digits : List ℕ) → HasDigits line digits → IsNumber digits
is_number line digits (blanks, rest, b, n, s, e) = n

pub count_again : AreNumbers → (line : List ℕ) (n : ℕ) → IsCount line n → count_of line ≡ Ok n
unfolding count_of
count_again numbers line n (digits, has, is, some, few) =
    ap count_digits (numbers.found line digits has) ∙ (rw (long digits (is_number line digits has).1, sym is) (in_range n some few))

pub count_fault_again : AreNumbers → (line : List ℕ) (kind : SclKind) → CountFault line kind → count_of line ≡ Err kind
unfolding count_of
count_fault_again numbers line BadCount h = ap count_digits (numbers.none line h)
count_fault_again numbers line CountRange (digits, has, out) =
    ap count_digits (numbers.found line digits has) ∙ (rw (long digits (is_number line digits has).1) (out_of_range (value digits) out))
count_fault_again numbers line NoDescription h = absurd h
count_fault_again numbers line NoCount h = absurd h
count_fault_again numbers line BadPitch h = absurd h
count_fault_again numbers line NegativeRatio h = absurd h
count_fault_again numbers line ZeroRatio h = absurd h
count_fault_again numbers line BigNumber h = absurd h
count_fault_again numbers line MissingPitch h = absurd h

-- each line has a count or a fault
pub counted : AreNumbers → (line : List ℕ) → ((n : ℕ) × IsCount line n) ⊎ ((kind : SclKind) × CountFault line kind)
counted numbers line = elim (numbers.either line) [
  | inl d ↦ elim (ranged (value d.0)) [
    | inl r ↦ inl (value d.0, (d.0, d.1, refl, r.0, r.1))
    | inr r ↦ inr (CountRange, (d.0, d.1, r))
  ]
  | inr h ↦ inr (BadCount, h)
]

pub count_takes : AreNumbers → (line : List ℕ) (n : ℕ) → count_of line ≡ Ok n → IsCount line n
count_takes numbers line n e = elim (counted numbers line) [
  | inl c ↦ subst (IsCount line) (ok_is c.0 n (sym (count_again numbers line c.0 c.1) ∙ e)) c.1
  | inr f ↦ absurd (let h = sym (count_fault_again numbers line f.0 f.1) ∙ e in let g : (let r : Read = Err f.0 in r) ≡ Ok n = h in cc)
]

pub count_fault_takes : AreNumbers → (line : List ℕ) (kind : SclKind) → count_of line ≡ Err kind → CountFault line kind
count_fault_takes numbers line kind e = elim (counted numbers line) [
  | inl c ↦ absurd (let h : (let r : Read = Ok c.0 in r) ≡ Err kind = sym (count_again numbers line c.0 c.1) ∙ e in cc)
  | inr f ↦ subst (CountFault line) (err_is f.0 kind (sym (count_fault_again numbers line f.0 f.1) ∙ e)) f.1
]
