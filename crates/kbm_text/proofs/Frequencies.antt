-- The frequency of a line, and its fault.
use Rattle.std.proofs.Common.{◌≡◌, ℕ, zero, suc, ◌+◌, ◌*◌, ◌<◌, ◌⊎◌, List, [], ◌∷◌, ◌++◌, length, Result, Ok, Err, true, false, refl, sym, ap, subst, ◌∙◌, inl, inr, arith}
use Rattle.std.specs.Prelude.{◌==◌, ◌||◌, nat_lt, nat_le}
use Rattle.std.proofs.lemmas.Bool.{eqb-true, eqb-false, leb-true, ltb-false, le-ltb, and_parts, or_parts, or_from, ne_eqb, cases_Bool, cond-true, cond-false}
use Rattle.scala_lines.specs.Characters.{is_digit, is_blank, prefix, Are, StopsAt, digits_of, after_digits, after_blanks}
use Rattle.scala_lines.specs.Numbers.{value, billionths}
use Rattle.scala_lines.specs.Spelling.{IsNumber}
use Rattle.kbm_text.specs.declared.fault.KbmKind.{KbmKind}
use Rattle.kbm_text.specs.declared.fault.KbmKind.TheVariants.{BadFrequency}
use Rattle.kbm_text.specs.Field.{ranged, decimals_of, nanohertz_of, frequency_of, greatest_frequency}
use Rattle.kbm_text.specs.Spelling.{digit_or_period, HasFrequency, IsFrequency, NoFrequency}
use Rattle.scala_lines.specs.Laws.{ArePrefixes}
use Rattle.scala_lines.specs.Steps.{chosen}
use Rattle.kbm_text.proofs.Fields.{ok_is, err_is, ok_not_err}

-- the two parts of a frequency
abbrev pub whole_of : List ℕ → List ℕ
whole_of line = digits_of (after_blanks line)

abbrev pub part_of : List ℕ → List ℕ
part_of line = decimals_of (after_digits (after_blanks line))

-- ---- what stands there is found

stops_digit : (rest : List ℕ) → StopsAt digit_or_period rest → StopsAt is_digit rest
stops_digit [] s = tt
stops_digit (b ∷ bs) s = (or_parts _ _ s).0

no_decimals : (rest : List ℕ) → StopsAt digit_or_period rest → decimals_of rest ≡ []
no_decimals [] s = refl
no_decimals (b ∷ bs) s = rw ((or_parts (is_digit b) (b == 46) s).1) refl

digit_no_blank : (b : ℕ) → is_digit b ≡ true → is_blank b ≡ false
digit_no_blank b d = let t = and_parts (nat_le 48 b) (nat_le b 57) d in let l = leb-true 48 b t.0 in
    or_from _ _ (ne_eqb b 32 (λ e. omega (arith, l, e))) (ne_eqb b 9 (λ e. omega (arith, l, e)))

number_no_blank : (digits rest : List ℕ) → Are is_digit digits → StopsAt is_blank rest → StopsAt is_blank (digits ++ rest)
number_no_blank [] rest a s = s
number_no_blank (d ∷ ds) rest a s = digit_no_blank d a.0

some_no_blank : (digits rest : List ℕ) → IsNumber digits → StopsAt is_blank (digits ++ rest)
some_no_blank [] rest n = absurd (let h = n.1 in omega (arith, h))
some_no_blank (d ∷ ds) rest n = digit_no_blank d n.0.0

parts_again : ArePrefixes → (line whole decimals : List ℕ) → HasFrequency line whole decimals → (whole_of line ≡ whole) × (part_of line ≡ decimals) × (0 < length whole + length decimals)
parts_again prefixes line whole decimals (inl ((blanks, rest, b, n, s, e), d)) =
    let t : after_blanks line ≡ whole ++ rest = ap after_blanks e ∙ prefixes.behind is_blank blanks (whole ++ rest) b (some_no_blank whole rest n) in
    let some = n.1 in (
      ap digits_of t ∙ prefixes.prefix is_digit whole rest n.0 (stops_digit rest s),
      ap (λ r. decimals_of (after_digits r)) t ∙ ap decimals_of (prefixes.behind is_digit whole rest n.0 (stops_digit rest s)) ∙ no_decimals rest s ∙ sym d,
      omega (arith, some),
    )
parts_again prefixes line whole decimals (inr (blanks, rest, b, w, f, some, s, e)) =
    let tail = 46 ∷ (decimals ++ rest) in
    let t : after_blanks line ≡ whole ++ tail = ap after_blanks e ∙ prefixes.behind is_blank blanks (whole ++ tail) b (number_no_blank whole tail w refl) in (
      ap digits_of t ∙ prefixes.prefix is_digit whole tail w refl,
      ap (λ r. decimals_of (after_digits r)) t ∙ ap decimals_of (prefixes.behind is_digit whole tail w refl) ∙ prefixes.prefix is_digit decimals rest f s,
      some,
    )

-- ---- what is found stands there

abbrev Found : List ℕ → Type 0
Found line = HasFrequency line (whole_of line) (part_of line)

found_by : ArePrefixes → (line behind : List ℕ) → after_digits (after_blanks line) ≡ behind → 0 < length (whole_of line) + length (decimals_of behind) → HasFrequency line (whole_of line) (decimals_of behind)
found_by prefixes line [] a some =
    let w = whole_of line in
    let some2 : 0 < length w = omega (arith, some) in
    inl (
      (
        prefix is_blank line,
        [],
        prefixes.passes is_blank line,
        (prefixes.passes is_digit (after_blanks line), some2),
        tt,
        sym (prefixes.whole is_blank line) ∙ ap (λ r. prefix is_blank line ++ r) (sym (prefixes.whole is_digit (after_blanks line)) ∙ ap (λ r. w ++ r) a),
      ),
      refl,
    )
found_by prefixes line (b ∷ bs) a some =
    let w = whole_of line in
    let whole : line ≡ prefix is_blank line ++ (w ++ b ∷ bs) =
    (sym (prefixes.whole is_blank line) ∙ ap (λ r. prefix is_blank line ++ r) (sym (prefixes.whole is_digit (after_blanks line)) ∙ ap (λ r. w ++ r) a)) in
    let no : is_digit b ≡ false = (let P : List ℕ → Type 0 = λ r. StopsAt is_digit r in subst P a (prefixes.stops is_digit (after_blanks line))) in
    let Q : List ℕ → Type 0 = λ ds. 0 < length w + length ds → HasFrequency line w ds in
    elim (cases_Bool (b == 46)) [
      | inl p ↦ subst Q (sym (cond-true (b == 46) (digits_of bs) [] p)) (λ h.
          inr (
            prefix is_blank line,
            after_digits bs,
            prefixes.passes is_blank line,
            prefixes.passes is_digit (after_blanks line),
            prefixes.passes is_digit bs,
            h,
            prefixes.stops is_digit bs,
            whole ∙ ap (λ c. prefix is_blank line ++ (w ++ c ∷ bs)) (eqb-true b 46 p) ∙ ap (λ r. prefix is_blank line ++ (w ++ 46 ∷ r)) (sym (prefixes.whole is_digit bs)),
          )) some
      | inr n ↦ subst Q (sym (cond-false (b == 46) (digits_of bs) [] n)) (λ h.
          inl ((prefix is_blank line, b ∷ bs, prefixes.passes is_blank line, (prefixes.passes is_digit (after_blanks line), omega (arith, h)), or_from _ _ no n, whole), refl)) some
    ]

found : ArePrefixes → (line : List ℕ) → 0 < length (whole_of line) + length (part_of line) → Found line
found prefixes line some = found_by prefixes line (after_digits (after_blanks line)) refl some

-- ---- the value

abbrev nano : List ℕ → List ℕ → ℕ
nano whole decimals = value whole * 1000000000 + billionths decimals

pub frequency_again : ArePrefixes → (line : List ℕ) (n : ℕ) → IsFrequency line n → frequency_of line ≡ Ok n
unfolding frequency_of
frequency_again prefixes line n (whole, decimals, has, is, low, high) =
    let p = parts_again prefixes line whole decimals has in
    ap (λ r. nanohertz_of r (part_of line)) p.0 ∙ ap (nanohertz_of whole) p.1
    ∙ (rw (
      ne_eqb (length whole + length decimals) 0 (let some = p.2 in λ e. omega (arith, some, e)),
      sym is,
      or_from (nat_lt n 1) (nat_lt greatest_frequency n) (le-ltb n 1 low) (le-ltb greatest_frequency n high),
    ) refl)

nonzero : (n : ℕ) → (n == 0) ≡ false → 0 < n
nonzero n e = let h = eqb-false n 0 e in elim n as (λ k. (k ≡ 0 → ⊥) → 0 < k) [ zero ↦ λ g. absurd (g refl) | suc k ↦ λ g. omega arith ] h

pub frequency_takes : ArePrefixes → (line : List ℕ) (n : ℕ) → frequency_of line ≡ Ok n → IsFrequency line n
unfolding frequency_of
frequency_takes prefixes line n e =
    let w = whole_of line in let d = part_of line in
    elim (chosen (length w + length d == 0) (Err BadFrequency) (ranged BadFrequency 1 greatest_frequency (nano w d)) (Ok n) e) [
      | inl t ↦ absurd (ok_not_err n BadFrequency (sym t.1))
      | inr t ↦ elim (chosen (nat_lt (nano w d) 1 || nat_lt greatest_frequency (nano w d)) (Err BadFrequency) (Ok (nano w d)) (Ok n) t.1) [
        | inl u ↦ absurd (ok_not_err n BadFrequency (sym u.1))
        | inr u ↦
            let p = or_parts (nat_lt (nano w d) 1) (nat_lt greatest_frequency (nano w d)) u.0 in
            let some = nonzero (length w + length d) t.0 in
            subst (IsFrequency line) (ok_is (nano w d) n u.1)
            (w, d, found prefixes line some, refl, ltb-false (nano w d) 1 p.0, ltb-false greatest_frequency (nano w d) p.1)
      ]
    ]

-- each answer is one or the other
pub known : {A : Type 0} (r : Result A KbmKind) → ((x : A) × (r ≡ Ok x)) ⊎ ((k : KbmKind) × (r ≡ Err k))
known (Ok x) = inl (x, refl)
known (Err k) = inr (k, refl)

only_bad : (line : List ℕ) (kind : KbmKind) → frequency_of line ≡ Err kind → kind ≡ BadFrequency
unfolding frequency_of
only_bad line kind e =
    let w = whole_of line in let d = part_of line in
    elim (chosen (length w + length d == 0) (Err BadFrequency) (ranged BadFrequency 1 greatest_frequency (nano w d)) (Err kind) e) [
      | inl t ↦ sym (err_is {A = ℕ} BadFrequency kind t.1)
      | inr t ↦ elim (chosen (nat_lt (nano w d) 1 || nat_lt greatest_frequency (nano w d)) (Err BadFrequency) (Ok (nano w d)) (Err kind) t.1) [
        | inl u ↦ sym (err_is {A = ℕ} BadFrequency kind u.1)
        | inr u ↦ absurd (ok_not_err (nano w d) kind u.1)
      ]
    ]

pub no_frequency_takes : ArePrefixes → (line : List ℕ) (kind : KbmKind) → frequency_of line ≡ Err kind → NoFrequency line kind
no_frequency_takes prefixes line kind e = (only_bad line kind e, λ n is. ok_not_err n kind (sym (frequency_again prefixes line n is) ∙ e))

pub no_frequency_again : ArePrefixes → (line : List ℕ) (kind : KbmKind) → NoFrequency line kind → frequency_of line ≡ Err kind
no_frequency_again prefixes line kind (bad, none) = elim (known (frequency_of line)) [
  | inl o ↦ absurd (none o.0 (frequency_takes prefixes line o.0 o.1))
  | inr k ↦ rw bad (k.1 ∙ ap (λ (q : KbmKind). let r : Result ℕ KbmKind = Err q in r) (only_bad line k.0 k.1))
]
