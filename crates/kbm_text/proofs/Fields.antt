-- A number in a range, an entry, and their faults.
use Rattle.std.proofs.Common.{◌≡◌, ℕ, ◌<◌, ◌≤◌, ◌⊎◌, List, [], ◌∷◌, ◌++◌, length, Option, Some, None, Result, Ok, Err, true, false, cond, refl, sym, ap, subst, ◌∙◌, inl, inr, arith}
use Rattle.std.specs.Prelude.{◌==◌, nat_lt, nat_le}
use Rattle.std.proofs.lemmas.Bool.{eqb-true, lt-ltb, le-ltb, leb-true, cases_lt, and_parts, or_cases, or_from, or_left, or_right, ne_eqb, cases_Bool, cond-true, cond-false}
use Rattle.scala_lines.specs.Characters.{is_digit, is_blank, prefix, StopsAt, digits_of, after_blanks}
use Rattle.scala_lines.specs.Numbers.{value}
use Rattle.scala_lines.specs.Spelling.{IsNumber, HasDigits, HasNoDigit}
use Rattle.kbm_text.specs.declared.fault.KbmKind.{KbmKind}
use Rattle.kbm_text.specs.declared.fault.KbmKind.TheVariants.{MissingField, BadNumber, SizeRange, KeyRange, BadFrequency, BadEntry, DegreeRange}
use Rattle.kbm_text.specs.Field.{ranged, number_of, number_in, is_cross, degree_of, unblanked_entry, entry_of}
use Rattle.kbm_text.specs.Spelling.{IsIn, NotIn, HasCross, IsEntry, NoEntry}
use Rattle.scala_lines.specs.Laws.{ArePrefixes, AreNumbers}

-- an answer is one value or one kind
pub ok_is : {A : Type 0} (x y : A) → (let r : Result A KbmKind = Ok x in r) ≡ Ok y → x ≡ y
ok_is x y e = cc

pub err_is : {A : Type 0} (x y : KbmKind) → (let r : Result A KbmKind = Err x in r) ≡ Err y → x ≡ y
err_is x y e = cc

pub ok_not_err : {A : Type 0} (x : A) (k : KbmKind) → (let r : Result A KbmKind = Ok x in r) ≡ Err k → ⊥
ok_not_err x k e = cc

-- ---- numbers

-- digits are not none
long : (digits : List ℕ) → 0 < length digits → (length digits == 0) ≡ false
long digits some = ne_eqb (length digits) 0 (λ e. omega (arith, some, e))

is_number : (line digits : List ℕ) → HasDigits line digits → IsNumber digits
is_number line digits (blanks, rest, b, n, s, e) = n

number_again : (out : KbmKind) (low high n : ℕ) → low ≤ n → n ≤ high → ranged out low high n ≡ Ok n
number_again out low high n l h = rw (or_from (nat_lt n low) (nat_lt high n) (le-ltb n low l) (le-ltb high n h)) refl

number_out : (out : KbmKind) (low high n : ℕ) → (n < low) ⊎ (high < n) → ranged out low high n ≡ Err out
number_out out low high n (inl h) = rw (or_left (nat_lt n low) (nat_lt high n) (lt-ltb n low h)) refl
number_out out low high n (inr h) = rw (or_right (nat_lt n low) (nat_lt high n) (lt-ltb high n h)) refl

in_or_out : (low high n : ℕ) → ((low ≤ n) × (n ≤ high)) ⊎ ((n < low) ⊎ (high < n))
in_or_out low high n = elim (cases_lt n low) [
  | inl h ↦ inr (inl h)
  | inr h ↦ elim (cases_lt high n) [ inl g ↦ inr (inr g) | inr g ↦ inl (h, g) ]
]

pub in_again : AreNumbers → (out : KbmKind) (low high : ℕ) (line : List ℕ) (n : ℕ) → IsIn low high line n → number_in out low high line ≡ Ok n
unfolding number_in
in_again numbers out low high line n (digits, has, is, l, h) =
    ap (number_of out low high) (numbers.found line digits has) ∙ (rw (long digits (is_number line digits has).1, sym is) (number_again out low high n l h))

pub out_again : AreNumbers → (out : KbmKind) (low high : ℕ) (line : List ℕ) (kind : KbmKind) → NotIn out low high line kind → number_in out low high line ≡ Err kind
unfolding number_in
out_again numbers out low high line kind (inl (e, none)) = ap (number_of out low high) (numbers.none line none) ∙ (rw e refl)
out_again numbers out low high line kind (inr (e, (digits, has, o))) =
    ap (number_of out low high) (numbers.found line digits has) ∙ (rw (long digits (is_number line digits has).1, e) (number_out out low high (value digits) o))

-- each line has a number in the range, or a fault
in_or_fault : AreNumbers → (out : KbmKind) (low high : ℕ) (line : List ℕ) → ((n : ℕ) × IsIn low high line n) ⊎ ((kind : KbmKind) × NotIn out low high line kind)
in_or_fault numbers out low high line = elim (numbers.either line) [
  | inl d ↦ elim (in_or_out low high (value d.0)) [
    | inl r ↦ inl (value d.0, (d.0, d.1, refl, r.0, r.1))
    | inr r ↦ inr (out, inr (refl, (d.0, d.1, r)))
  ]
  | inr h ↦ inr (BadNumber, inl (refl, h))
]

pub in_takes : AreNumbers → (out : KbmKind) (low high : ℕ) (line : List ℕ) (n : ℕ) → number_in out low high line ≡ Ok n → IsIn low high line n
in_takes numbers out low high line n e = elim (in_or_fault numbers out low high line) [
  | inl c ↦ subst (IsIn low high line) (ok_is c.0 n (sym (in_again numbers out low high line c.0 c.1) ∙ e)) c.1
  | inr f ↦ absurd (ok_not_err n f.0 (sym e ∙ out_again numbers out low high line f.0 f.1))
]

pub out_takes : AreNumbers → (out : KbmKind) (low high : ℕ) (line : List ℕ) (kind : KbmKind) → number_in out low high line ≡ Err kind → NotIn out low high line kind
out_takes numbers out low high line kind e = elim (in_or_fault numbers out low high line) [
  | inl c ↦ absurd (ok_not_err c.0 kind (sym (in_again numbers out low high line c.0 c.1) ∙ e))
  | inr f ↦ subst (NotIn out low high line) (err_is {A = ℕ} f.0 kind (sym (out_again numbers out low high line f.0 f.1) ∙ e)) f.1
]

-- ---- entries

cross_no_blank : (b : ℕ) → is_cross b ≡ true → is_blank b ≡ false
cross_no_blank b x = elim (or_cases _ _ x) [
  | inl h ↦ let e = eqb-true b 120 h in rw e refl
  | inr h ↦ let e = eqb-true b 88 h in rw e refl
]

cross_no_digit : (b : ℕ) → is_digit b ≡ true → is_cross b ≡ false
cross_no_digit b d = let t = and_parts (nat_le 48 b) (nat_le b 57) d in let h = leb-true b 57 t.1 in
    or_from _ _ (ne_eqb b 120 (λ e. omega (arith, h, e))) (ne_eqb b 88 (λ e. omega (arith, h, e)))

cross_again : ArePrefixes → (line : List ℕ) → HasCross line → entry_of line ≡ Ok None
unfolding entry_of
cross_again prefixes line (blanks, rest, b, a, x, e) =
    ap unblanked_entry (ap after_blanks e ∙ prefixes.behind is_blank blanks (b ∷ rest) a (cross_no_blank b x)) ∙ (rw x refl)

-- a text with digits at its front
digits_first : (text digits : List ℕ) → digits_of text ≡ digits → 0 < length digits → unblanked_entry text ≡ degree_of (value digits)
digits_first [] digits e some = absurd (let h : [] ≡ digits = e in let g : length {A = ℕ} [] ≡ length digits = ap length h in omega (arith, g, some))
digits_first (b ∷ bs) digits e some = elim (cases_Bool (is_digit b)) [
  | inl d ↦ cond-false (is_cross b) _ _ (cross_no_digit b d) ∙ cond-true (is_digit b) _ _ d ∙ ap (λ r. degree_of (value r)) e
  | inr n ↦ absurd (let h : cond (is_digit b) (b ∷ digits_of bs) [] ≡ digits = e in
      let g : [] ≡ digits = sym (cond-false (is_digit b) (b ∷ digits_of bs) [] n) ∙ h in
      let l : length {A = ℕ} [] ≡ length digits = ap length g in omega (arith, l, some))
]

digits_entry : AreNumbers → (line digits : List ℕ) → HasDigits line digits → entry_of line ≡ degree_of (value digits)
unfolding entry_of
digits_entry numbers line digits has = digits_first (after_blanks line) digits (numbers.found line digits has) (is_number line digits has).1

degree_again : AreNumbers → (line : List ℕ) (n : ℕ) → IsIn 0 16383 line n → entry_of line ≡ Ok (Some n)
degree_again numbers line n (digits, has, is, l, h) = digits_entry numbers line digits has ∙ (rw (sym is, le-ltb 16383 n h) refl)

high_again : AreNumbers → (line digits : List ℕ) → HasDigits line digits → 16383 < value digits → entry_of line ≡ Err DegreeRange
high_again numbers line digits has h = digits_entry numbers line digits has ∙ (rw (lt-ltb 16383 (value digits) h) refl)

-- a text with neither at its front
neither : (text : List ℕ) → digits_of text ≡ [] → StopsAt is_cross text → unblanked_entry text ≡ Err BadEntry
neither [] e s = refl
neither (b ∷ bs) e s = elim (cases_Bool (is_digit b)) [
  | inl d ↦ absurd (let h : b ∷ digits_of bs ≡ [] = sym (cond-true (is_digit b) (b ∷ digits_of bs) [] d) ∙ e in cc)
  | inr n ↦ rw (s, n) refl
]

-- a cross behind the blanks, or none
cross_or_not : ArePrefixes → (line : List ℕ) → HasCross line ⊎ StopsAt is_cross (after_blanks line)
cross_or_not prefixes line = pick (after_blanks line) refl
  where
    pick : (text : List ℕ) → after_blanks line ≡ text → HasCross line ⊎ StopsAt is_cross text
    pick [] e = inr tt
    pick (b ∷ bs) e = elim (cases_Bool (is_cross b)) [
      | inl x ↦ inl (prefix is_blank line, bs, b, prefixes.passes is_blank line, x, sym (prefixes.whole is_blank line) ∙ ap (λ r. prefix is_blank line ++ r) e)
      | inr n ↦ inr n
    ]

bad_again : ArePrefixes → AreNumbers → (line : List ℕ) → HasNoDigit line → (HasCross line → ⊥) → entry_of line ≡ Err BadEntry
unfolding entry_of
bad_again prefixes numbers line none bare = elim (cross_or_not prefixes line) [
  | inl x ↦ absurd (bare x)
  | inr s ↦ neither (after_blanks line) (numbers.none line none) s
]

pub entry_again : ArePrefixes → AreNumbers → (line : List ℕ) (entry : Option ℕ) → IsEntry line entry → entry_of line ≡ Ok entry
entry_again prefixes numbers line None h = cross_again prefixes line h
entry_again prefixes numbers line (Some n) h = degree_again numbers line n h

pub no_entry_again : ArePrefixes → AreNumbers → (line : List ℕ) (kind : KbmKind) → NoEntry line kind → entry_of line ≡ Err kind
no_entry_again prefixes numbers line BadEntry h = bad_again prefixes numbers line h.0 h.1
no_entry_again prefixes numbers line DegreeRange (digits, has, h) = high_again numbers line digits has h
no_entry_again prefixes numbers line MissingField h = absurd h
no_entry_again prefixes numbers line BadNumber h = absurd h
no_entry_again prefixes numbers line SizeRange h = absurd h
no_entry_again prefixes numbers line KeyRange h = absurd h
no_entry_again prefixes numbers line BadFrequency h = absurd h

-- no line has both
cross_or_digits : ArePrefixes → AreNumbers → (line digits : List ℕ) → HasDigits line digits → HasCross line → ⊥
cross_or_digits prefixes numbers line digits has x = let h : entry_of line ≡ degree_of (value digits) = digits_entry numbers line digits has in let g = cross_again prefixes line x in
    elim (cases_lt 16383 (value digits)) [
      | inl high ↦ ok_not_err {A = Option ℕ} None DegreeRange (sym g ∙ high_again numbers line digits has high)
      | inr low ↦ let e : (let r : Result (Option ℕ) KbmKind = Ok None in r) ≡ Ok (Some (value digits)) = sym g ∙ degree_again numbers line (value digits) (digits, has, refl, omega arith, low) in cc
    ]

entry_or_fault : ArePrefixes → AreNumbers → (line : List ℕ) → ((entry : Option ℕ) × IsEntry line entry) ⊎ ((kind : KbmKind) × NoEntry line kind)
entry_or_fault prefixes numbers line = elim (numbers.either line) [
  | inl d ↦ elim (cases_lt 16383 (value d.0)) [
    | inl h ↦ inr (DegreeRange, (d.0, d.1, h))
    | inr h ↦ inl (Some (value d.0), (d.0, d.1, refl, omega arith, h))
  ]
  | inr none ↦ elim (cross_or_not prefixes line) [
    | inl x ↦ inl (None, x)
    | inr s ↦ inr (BadEntry, (none, λ x. no_cross line s x))
  ]
]
  where
    no_cross : (l : List ℕ) → StopsAt is_cross (after_blanks l) → HasCross l → ⊥
    no_cross l s (blanks, rest, b, a, x, e) =
        let t : after_blanks l ≡ b ∷ rest = ap after_blanks e ∙ prefixes.behind is_blank blanks (b ∷ rest) a (cross_no_blank b x) in
        let P : List ℕ → Type 0 = λ r. StopsAt is_cross r in
        let no : is_cross b ≡ false = subst P t s in
        let both : true ≡ false = sym x ∙ no in cc

pub entry_takes : ArePrefixes → AreNumbers → (line : List ℕ) (entry : Option ℕ) → entry_of line ≡ Ok entry → IsEntry line entry
entry_takes prefixes numbers line entry e = elim (entry_or_fault prefixes numbers line) [
  | inl c ↦ subst (IsEntry line) (ok_is c.0 entry (sym (entry_again prefixes numbers line c.0 c.1) ∙ e)) c.1
  | inr f ↦ absurd (ok_not_err entry f.0 (sym e ∙ no_entry_again prefixes numbers line f.0 f.1))
]

pub no_entry_takes : ArePrefixes → AreNumbers → (line : List ℕ) (kind : KbmKind) → entry_of line ≡ Err kind → NoEntry line kind
no_entry_takes prefixes numbers line kind e = elim (entry_or_fault prefixes numbers line) [
  | inl c ↦ absurd (ok_not_err c.0 kind (sym (entry_again prefixes numbers line c.0 c.1) ∙ e))
  | inr f ↦ subst (NoEntry line) (err_is {A = Option ℕ} f.0 kind (sym (no_entry_again prefixes numbers line f.0 f.1) ∙ e)) f.1
]
