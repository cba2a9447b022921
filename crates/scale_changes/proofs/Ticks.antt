-- The tick and the name of a line, and its fault.
use Rattle.std.proofs.Common.{◌≡◌, ℕ, zero, suc, ◌<◌, ◌≤◌, ◌⊎◌, List, length, Option, Some, None, Ok, Err, false, refl, sym, ap, subst, ◌∙◌, inl, inr, arith}
use Rattle.std.specs.Prelude.{◌==◌, ◌||◌, nat_lt}
use Rattle.std.proofs.lemmas.Bool.{eq-eqb, ne_eqb, lt-ltb, le-ltb, le-leb, lt-leb, cases_lt, or_from, or_left, or_right}
use Rattle.scala_lines.specs.Characters.{after_digits, after_blanks}
use Rattle.scala_lines.specs.Numbers.{value}
use Rattle.scala_lines.specs.Laws.{ArePrefixes, AreNumbers}
use Rattle.scala_lines.specs.Spelling.{HasDigits, number_of}
use Rattle.scala_lines.specs.Steps.{ok_is, err_is, ok_not_err}
use Rattle.scale_changes.specs.declared.fault.ListKind.{ListKind}
use Rattle.scale_changes.specs.declared.fault.ListKind.TheVariants.{BadTick, TickOrder, BadName, TooMany}
use Rattle.scale_changes.specs.Names.{greatest_tick, Change}
use Rattle.scale_changes.specs.Reading.{name_in, above_last, tick_above, tick_of, with_name, change_at, change_of}
use Rattle.scale_changes.specs.Spelling.{HasTick, HasName, IsChange, NoChange}
use Rattle.scale_changes.proofs.Names.{name_found, name_stands}

-- ---- ticks

ranged : (n : ℕ) → 1 ≤ n → n ≤ greatest_tick → (n == 0 || nat_lt greatest_tick n) ≡ false
ranged n some few = or_from (n == 0) (nat_lt greatest_tick n) (ne_eqb n 0 (λ e. omega (arith, some, e))) (le-ltb greatest_tick n few)

long : (line digits : List ℕ) → HasDigits line digits → (length digits == 0) ≡ false
long line digits (blanks, rest, b, n, s, e) = let some = n.1 in ne_eqb (length digits) 0 (λ e. omega (arith, some, e))

-- what is read of a line that has a tick
read_tick : AreNumbers → (last : ℕ) (line : List ℕ) (tick : ℕ) → HasTick line tick → tick_of last (number_of line) ≡ above_last last tick
read_tick numbers last line tick (digits, has, is, some, few) =
    ap (tick_of last) (numbers.found line digits has) ∙ (rw (long line digits has, sym is, ranged tick some few) refl)

tick_again : AreNumbers → (last : ℕ) (line : List ℕ) (tick : ℕ) → HasTick line tick → last < tick → tick_of last (number_of line) ≡ Ok tick
tick_again numbers last line tick t above = read_tick numbers last line tick t ∙ (rw (lt-leb tick last above) refl)

order_again : AreNumbers → (last : ℕ) (line : List ℕ) (tick : ℕ) → HasTick line tick → tick ≤ last → tick_of last (number_of line) ≡ Err TickOrder
order_again numbers last line tick t low = read_tick numbers last line tick t ∙ (rw (le-leb tick last low) refl)

out_of_range : (last n : ℕ) → (n ≡ 0) ⊎ (greatest_tick < n) → tick_above last n ≡ Err BadTick
out_of_range last n (inl e) = rw (or_left (n == 0) (nat_lt greatest_tick n) (eq-eqb n 0 e)) refl
out_of_range last n (inr h) = rw (or_right (n == 0) (nat_lt greatest_tick n) (lt-ltb greatest_tick n h)) refl

bad_again : AreNumbers → (last : ℕ) (line : List ℕ) → NoChange last line BadTick → tick_of last (number_of line) ≡ Err BadTick
bad_again numbers last line (inl none) = ap (tick_of last) (numbers.none line none)
bad_again numbers last line (inr (digits, has, out)) =
    ap (tick_of last) (numbers.found line digits has) ∙ (rw (long line digits has) (out_of_range last (value digits) out))

-- a value is a tick, or out of range
kinds : (n : ℕ) → ((1 ≤ n) × (n ≤ greatest_tick)) ⊎ ((n ≡ 0) ⊎ (greatest_tick < n))
kinds zero = inr (inl refl)
kinds (suc n) = elim (cases_lt greatest_tick (suc n)) [ inl h ↦ inr (inr h) | inr h ↦ inl (omega arith, h) ]

-- a line has a tick, or none
ticked : AreNumbers → (last : ℕ) (line : List ℕ) → ((tick : ℕ) × HasTick line tick) ⊎ NoChange last line BadTick
ticked numbers last line = elim (numbers.either line) [
  | inl d ↦ elim (kinds (value d.0)) [
    | inl r ↦ inl (value d.0, (d.0, d.1, refl, r.0, r.1))
    | inr r ↦ inr (inr (d.0, d.1, r))
  ]
  | inr h ↦ inr (inl h)
]

-- ---- a line

pub change_again : ArePrefixes → AreNumbers → (last : ℕ) (line : List ℕ) (change : Change) → IsChange last line change → change_of last line ≡ Ok change
unfolding change_of
change_again laws numbers last line change (t, above, n) =
    ap (λ r. change_at r (name_in (after_digits (after_blanks line)))) (tick_again numbers last line change.0 t above)
    ∙ ap (λ o. change_at (Ok change.0) o) (name_found laws line change.1 n)

-- a line of which no name stands behind the digits
no_name : ArePrefixes → (line : List ℕ) (tick : ℕ) → HasTick line tick → ((name : List ℕ) → HasName line name → ⊥)
    → (o : Option (List ℕ)) → name_in (after_digits (after_blanks line)) ≡ o → with_name tick o ≡ Err BadName
no_name laws line tick t none None is = refl
no_name laws line tick t none (Some name) is = absurd (none name (name_stands laws line t.0 name t.1 is))

pub no_change_again : ArePrefixes → AreNumbers → (last : ℕ) (line : List ℕ) (kind : ListKind) → NoChange last line kind → change_of last line ≡ Err kind
unfolding change_of
no_change_again laws numbers last line BadTick h = ap (λ r. change_at r (name_in (after_digits (after_blanks line)))) (bad_again numbers last line h)
no_change_again laws numbers last line TickOrder (tick, t, low) =
    ap (λ r. change_at r (name_in (after_digits (after_blanks line)))) (order_again numbers last line tick t low)
no_change_again laws numbers last line BadName (tick, t, above, none) =
    ap (λ r. change_at r (name_in (after_digits (after_blanks line)))) (tick_again numbers last line tick t above)
    ∙ no_name laws line tick t none (name_in (after_digits (after_blanks line))) refl
no_change_again laws numbers last line TooMany h = absurd h

-- each line is a change, or has a kind for which it can't be taken
abbrev Either : ℕ → List ℕ → Type 0
Either last line = ((change : Change) × IsChange last line change) ⊎ ((kind : ListKind) × NoChange last line kind)

not_both : (name : List ℕ) (o : Option (List ℕ)) → o ≡ Some name → o ≡ None → ⊥
not_both name o e f = cc

named : ArePrefixes → (last : ℕ) (line : List ℕ) (tick : ℕ) → HasTick line tick → last < tick → (o : Option (List ℕ)) → name_in (after_digits (after_blanks line)) ≡ o → Either last line
named laws last line tick t above (Some name) is = inl ((tick, name), (t, above, name_stands laws line t.0 name t.1 is))
named laws last line tick t above None is =
    inr (BadName, (tick, t, above, λ name n. not_both name (name_in (after_digits (after_blanks line))) (name_found laws line name n) is))

changed : ArePrefixes → AreNumbers → (last : ℕ) (line : List ℕ) → Either last line
changed laws numbers last line = elim (ticked numbers last line) [
  | inl t ↦ elim (cases_lt last t.0) [
    | inl above ↦ named laws last line t.0 t.1 above (name_in (after_digits (after_blanks line))) refl
    | inr low ↦ inr (TickOrder, (t.0, t.1, low))
  ]
  | inr h ↦ inr (BadTick, h)
]

pub change_takes : ArePrefixes → AreNumbers → (last : ℕ) (line : List ℕ) (change : Change) → change_of last line ≡ Ok change → IsChange last line change
change_takes laws numbers last line change e = elim (changed laws numbers last line) [
  | inl c ↦ subst (IsChange last line) (ok_is {E = ListKind} c.0 change (sym (change_again laws numbers last line c.0 c.1) ∙ e)) c.1
  | inr f ↦ absurd (ok_not_err change f.0 (sym e ∙ no_change_again laws numbers last line f.0 f.1))
]

pub no_change_takes : ArePrefixes → AreNumbers → (last : ℕ) (line : List ℕ) (kind : ListKind) → change_of last line ≡ Err kind → NoChange last line kind
no_change_takes laws numbers last line kind e = elim (changed laws numbers last line) [
  | inl c ↦ absurd (ok_not_err c.0 kind (sym (change_again laws numbers last line c.0 c.1) ∙ e))
  | inr f ↦ subst (NoChange last line) (err_is {A = Change} f.0 kind (sym (no_change_again laws numbers last line f.0 f.1) ∙ e)) f.1
]
