-- The entry of a pitch line, and its fault.
use Rattle.std.proofs.Common.{◌≡◌, ℕ, zero, suc, ◌+◌, ◌*◌, ◌≤◌, ◌⊎◌, List, Option, Some, None, Result, Ok, Err, Bool, true, false, refl, sym, ap, subst, ◌∙◌, inl, inr, arith}
use Rattle.std.specs.Prelude.{◌==◌, ◌||◌, nat_lt}
use Rattle.std.proofs.lemmas.Bool.{eqb-true, eqb-false, eq-eqb, ne_eqb, ltb-true, ltb-false, lt-ltb, le-ltb, or_parts, or_cases, or_from, or_left, or_right}
use Rattle.std.proofs.lemmas.Int.{ints}
use Rattle.scala_lines.specs.Characters.{is_digit, Are}
use Rattle.scala_lines.specs.Numbers.{value, billionths}
use Rattle.scala_lines.specs.Laws.{DecimalsAreLow}
use Rattle.scl_text.specs.declared.entry.Entry.{Entry}
use Rattle.scl_text.specs.declared.entry.Entry.TheVariants.{Ratio, Cents}
use Rattle.scl_text.specs.declared.fault.SclKind.{SclKind}
use Rattle.scl_text.specs.declared.fault.SclKind.TheVariants.{NoDescription, NoCount, BadCount, CountRange, BadPitch, NegativeRatio, ZeroRatio, BigNumber, MissingPitch}
use Rattle.scl_text.specs.Pitch.{Form, InCents, AsRatio, Alone, form_of, entry_of, entry_if, ratio_entry, pitch_of, signed, greatest_number, greatest_cents}
use Rattle.scl_text.specs.Spelling.{Stands, IsValue, IsPitch, RatioFault, FormFault, PitchFault}
use Rattle.scl_text.specs.Ranges.{IsRatio, IsCents, IsEntry}
use Rattle.scala_lines.specs.Laws.{ArePrefixes}
use Rattle.scala_lines.specs.Steps.{chosen}
use Rattle.scl_text.proofs.Written.{form_takes, form_again, no_form}

pub decimals_are : ArePrefixes → (line : List ℕ) (negative : Bool) (whole decimals : List ℕ) → form_of line ≡ Some (InCents negative whole decimals) → Are is_digit decimals
decimals_are prefixes line negative whole decimals e = let s = form_takes prefixes line (InCents negative whole decimals) e in s.4.1

abbrev Read : Type 0
Read = Result Entry SclKind

ok_is : (x y : Entry) → (let r : Read = Ok x in r) ≡ Ok y → x ≡ y
ok_is x y e = cc

err_is : (x y : SclKind) → (let r : Read = Err x in r) ≡ Err y → x ≡ y
err_is x y e = cc

ok_not_err : (x : Entry) (k : SclKind) → (let r : Read = Ok x in r) ≡ Err k → ⊥
ok_not_err x k e = cc

-- ---- ratios

abbrev RatioOk : ℕ → ℕ → Entry → Type 0
RatioOk a b (Ratio num den) = (num ≡ a) × (den ≡ b) × IsRatio num den
RatioOk a b (Cents nanocents) = ⊥

positive : (n : ℕ) → (n == 0) ≡ false → 1 ≤ n
positive n e = let h = eqb-false n 0 e in elim n as (λ k. (k ≡ 0 → ⊥) → 1 ≤ k) [ zero ↦ λ g. absurd (g refl) | suc k ↦ λ g. omega arith ] h

ratio_ok : (a b : ℕ) (entry : Entry) → ratio_entry a b ≡ Ok entry → RatioOk a b entry
ratio_ok a b entry e =
    elim (chosen (nat_lt greatest_number a || nat_lt greatest_number b) _ _ (Ok entry) e) [
      | inl t ↦ absurd (let h = t.1 in cc)
      | inr t ↦ elim (chosen (a == 0 || b == 0) _ _ (Ok entry) t.1) [
        | inl u ↦ absurd (let h = u.1 in cc)
        | inr u ↦
            let big = or_parts (nat_lt greatest_number a) (nat_lt greatest_number b) t.0 in
            let none = or_parts (a == 0) (b == 0) u.0 in
            let high : a ≤ greatest_number = ltb-false greatest_number a big.0 in
            let high2 : b ≤ greatest_number = ltb-false greatest_number b big.1 in
            let some : 1 ≤ a = positive a none.0 in
            let some2 : 1 ≤ b = positive b none.1 in
            subst (RatioOk a b) (ok_is (Ratio a b) entry u.1)
            (refl, refl, record { num_some = some; num_high = omega (arith, high); den_some = some2; den_high = omega (arith, high2) })
      ]
    ]

not_zero : (n : ℕ) → 1 ≤ n → (n == 0) ≡ false
not_zero n some = ne_eqb n 0 (λ e. omega (arith, some, e))

ratio_again : (a b num den : ℕ) → RatioOk a b (Ratio num den) → ratio_entry a b ≡ Ok (Ratio num den)
ratio_again a b num den (p, q, r) =
    rw (sym p, sym q, le-ltb greatest_number num (let h = r.num_high in omega (arith, h)), le-ltb greatest_number den (let h = r.den_high in omega (arith, h)), not_zero num r.num_some, not_zero den r.den_some) refl

ratio_err : (a b : ℕ) (kind : SclKind) → ratio_entry a b ≡ Err kind → RatioFault a b kind
ratio_err a b kind e =
    elim (chosen (nat_lt greatest_number a || nat_lt greatest_number b) _ _ (Err kind) e) [
      | inl t ↦ subst (RatioFault a b) (err_is BigNumber kind t.1)
          (elim (or_cases (nat_lt greatest_number a) (nat_lt greatest_number b) t.0) [ inl h ↦ inl (ltb-true greatest_number a h) | inr h ↦ inr (ltb-true greatest_number b h) ])
      | inr t ↦ elim (chosen (a == 0 || b == 0) _ _ (Err kind) t.1) [
        | inl u ↦
            let big = or_parts (nat_lt greatest_number a) (nat_lt greatest_number b) t.0 in
            subst (RatioFault a b) (err_is ZeroRatio kind u.1) (
              ltb-false greatest_number a big.0,
              ltb-false greatest_number b big.1,
              elim (or_cases (a == 0) (b == 0) u.0) [ inl h ↦ inl (eqb-true a 0 h) | inr h ↦ inr (eqb-true b 0 h) ],
            )
        | inr u ↦ absurd (ok_not_err (Ratio a b) kind u.1)
      ]
    ]

ratio_err_again : (a b : ℕ) (kind : SclKind) → RatioFault a b kind → ratio_entry a b ≡ Err kind
ratio_err_again a b BigNumber (inl h) = rw (or_left (nat_lt greatest_number a) (nat_lt greatest_number b) (lt-ltb greatest_number a h)) refl
ratio_err_again a b BigNumber (inr h) = rw (or_right (nat_lt greatest_number a) (nat_lt greatest_number b) (lt-ltb greatest_number b h)) refl
ratio_err_again a b ZeroRatio (p, q, inl h) = rw (or_from _ _ (le-ltb greatest_number a p) (le-ltb greatest_number b q), or_left (a == 0) (b == 0) (eq-eqb a 0 h)) refl
ratio_err_again a b ZeroRatio (p, q, inr h) = rw (or_from _ _ (le-ltb greatest_number a p) (le-ltb greatest_number b q), or_right (a == 0) (b == 0) (eq-eqb b 0 h)) refl
ratio_err_again a b NoDescription h = absurd h
ratio_err_again a b NoCount h = absurd h
ratio_err_again a b BadCount h = absurd h
ratio_err_again a b CountRange h = absurd h
ratio_err_again a b BadPitch h = absurd h
ratio_err_again a b NegativeRatio h = absurd h
ratio_err_again a b MissingPitch h = absurd h

-- ---- forms

cents_is : (negative : Bool) (whole decimals : List ℕ) (entry : Entry) → (value whole ≤ greatest_cents) → Cents (signed negative (value whole * 1000000000 + billionths decimals)) ≡ entry → IsValue (InCents negative whole decimals) entry
cents_is negative whole decimals entry low e = subst (IsValue (InCents negative whole decimals)) e (low, refl)

ratio_is : (num den : List ℕ) (entry : Entry) → RatioOk (value num) (value den) entry → IsValue (AsRatio false num den) entry
ratio_is num den (Ratio a b) h = h
ratio_is num den (Cents n) h = h

alone_is : (num : List ℕ) (entry : Entry) → RatioOk (value num) 1 entry → IsValue (Alone false num) entry
alone_is num (Ratio a b) h = h
alone_is num (Cents n) h = h

pub entry_takes : (form : Form) (entry : Entry) → entry_of form ≡ Ok entry → IsValue form entry
unfolding entry_of
entry_takes (InCents negative whole decimals) entry e =
    elim (chosen (nat_lt greatest_cents (value whole)) _ _ (Ok entry) e) [
      | inl t ↦ absurd (let h = t.1 in cc)
      | inr t ↦ cents_is negative whole decimals entry (ltb-false greatest_cents (value whole) t.0) (ok_is _ entry t.1)
    ]
entry_takes (AsRatio true num den) entry e = absurd cc
entry_takes (AsRatio false num den) entry e = ratio_is num den entry (ratio_ok (value num) (value den) entry e)
entry_takes (Alone true num) entry e = absurd cc
entry_takes (Alone false num) entry e = alone_is num entry (ratio_ok (value num) 1 entry e)

pub entry_again : (form : Form) (entry : Entry) → IsValue form entry → entry_of form ≡ Ok entry
unfolding entry_of
entry_again (InCents negative whole decimals) (Cents n) (low, e) = rw (le-ltb greatest_cents (value whole) low, e) refl
entry_again (InCents negative whole decimals) (Ratio a b) h = absurd h
entry_again (AsRatio true num den) (Ratio a b) h = absurd h
entry_again (AsRatio true num den) (Cents n) h = absurd h
entry_again (AsRatio false num den) (Cents n) h = absurd h
entry_again (AsRatio false num den) (Ratio a b) h = ratio_again (value num) (value den) a b h
entry_again (Alone true num) (Ratio a b) h = absurd h
entry_again (Alone true num) (Cents n) h = absurd h
entry_again (Alone false num) (Cents n) h = absurd h
entry_again (Alone false num) (Ratio a b) h = ratio_again (value num) 1 a b h

pub fault_takes : (form : Form) (kind : SclKind) → entry_of form ≡ Err kind → FormFault form kind
unfolding entry_of
fault_takes (InCents negative whole decimals) kind e =
    elim (chosen (nat_lt greatest_cents (value whole)) _ _ (Err kind) e) [
      | inl t ↦ (sym (err_is BigNumber kind t.1), ltb-true greatest_cents (value whole) t.0)
      | inr t ↦ absurd (ok_not_err _ kind t.1)
    ]
fault_takes (AsRatio true num den) kind e = sym (err_is NegativeRatio kind e)
fault_takes (AsRatio false num den) kind e = ratio_err (value num) (value den) kind e
fault_takes (Alone true num) kind e = sym (err_is NegativeRatio kind e)
fault_takes (Alone false num) kind e = ratio_err (value num) 1 kind e

pub fault_again : (form : Form) (kind : SclKind) → FormFault form kind → entry_of form ≡ Err kind
unfolding entry_of
fault_again (InCents negative whole decimals) kind (e, high) = rw (lt-ltb greatest_cents (value whole) high, e) refl
fault_again (AsRatio true num den) kind e = rw e refl
fault_again (AsRatio false num den) kind e = ratio_err_again (value num) (value den) kind e
fault_again (Alone true num) kind e = rw e refl
fault_again (Alone false num) kind e = ratio_err_again (value num) 1 kind e

-- ---- pitch lines

-- whether a form was found
found : (o : Option Form) → (o ≡ None) ⊎ ((form : Form) × (o ≡ Some form))
found None = inl refl
found (Some form) = inr (form, refl)

pub pitch_takes : ArePrefixes → (line : List ℕ) (entry : Entry) → pitch_of line ≡ Ok entry → IsPitch line entry
pitch_takes prefixes line entry e = elim (found (form_of line)) [
  | inl n ↦ absurd (let h : (let r : Read = Err BadPitch in r) ≡ Ok entry = sym (ap entry_if n) ∙ e in cc)
  | inr s ↦ (s.0, form_takes prefixes line s.0 s.1, entry_takes s.0 entry (sym (ap entry_if s.1) ∙ e))
]

pub pitch_again : ArePrefixes → (line : List ℕ) (entry : Entry) → IsPitch line entry → pitch_of line ≡ Ok entry
pitch_again prefixes line entry (form, s, v) = ap entry_if (form_again prefixes line form s) ∙ entry_again form entry v

pub pitch_fault_takes : ArePrefixes → (line : List ℕ) (kind : SclKind) → pitch_of line ≡ Err kind → PitchFault line kind
pitch_fault_takes prefixes line kind e = elim (found (form_of line)) [
  | inl n ↦ inl (sym (err_is BadPitch kind (sym (ap entry_if n) ∙ e)), no_form prefixes line n)
  | inr s ↦ inr (s.0, form_takes prefixes line s.0 s.1, fault_takes s.0 kind (sym (ap entry_if s.1) ∙ e))
]

pub pitch_fault_again : ArePrefixes → (line : List ℕ) (kind : SclKind) → PitchFault line kind → pitch_of line ≡ Err kind
pitch_fault_again prefixes line kind (inl (e, none)) = elim (found (form_of line)) [
  | inl n ↦ ap entry_if n ∙ (rw e refl)
  | inr s ↦ absurd (none s.0 (form_takes prefixes line s.0 s.1))
]
pitch_fault_again prefixes line kind (inr (form, s, f)) = ap entry_if (form_again prefixes line form s) ∙ fault_again form kind f

-- ---- ranges

signed_range : (negative : Bool) (n : ℕ) → n ≤ 1000000999999999 → IsCents (signed negative n)
signed_range true n h = record { low = omega (arith, ints, h); high = omega (arith, ints, h) }
signed_range false n h = record { low = omega (arith, ints, h); high = omega (arith, ints, h) }

pub value_in_range : DecimalsAreLow → (line : List ℕ) (form : Form) (entry : Entry) → Stands line form → IsValue form entry → IsEntry entry
value_in_range low_decimals line (InCents negative whole decimals) (Cents n) s (low, e) =
    let small = low_decimals decimals s.4.1 in
    subst IsCents (sym e) (signed_range negative _ (omega (arith, low, small)))
value_in_range low_decimals line (InCents negative whole decimals) (Ratio a b) s h = absurd h
value_in_range low_decimals line (AsRatio true num den) (Ratio a b) s h = absurd h
value_in_range low_decimals line (AsRatio true num den) (Cents n) s h = absurd h
value_in_range low_decimals line (AsRatio false num den) (Cents n) s h = absurd h
value_in_range low_decimals line (AsRatio false num den) (Ratio a b) s h = h.2
value_in_range low_decimals line (Alone true num) (Ratio a b) s h = absurd h
value_in_range low_decimals line (Alone true num) (Cents n) s h = absurd h
value_in_range low_decimals line (Alone false num) (Cents n) s h = absurd h
value_in_range low_decimals line (Alone false num) (Ratio a b) s h = h.2

pub pitch_in_range : DecimalsAreLow → (line : List ℕ) (entry : Entry) → IsPitch line entry → IsEntry entry
pitch_in_range low_decimals line entry (form, s, v) = value_in_range low_decimals line form entry s v
