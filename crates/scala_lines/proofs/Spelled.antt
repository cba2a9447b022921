-- The digits that are found behind blanks stand there, and those that stand there are found.
use Rattle.std.proofs.Common.{◌≡◌, ℕ, ◌<◌, ◌⊎◌, List, [], ◌∷◌, ◌++◌, length, true, false, refl, sym, ap, subst, ◌∙◌, inl, inr, arith}
use Rattle.std.proofs.lemmas.Bool.{ne_eqb, leb-true, and_parts, or_from}
use Rattle.scala_lines.specs.Characters.{is_digit, is_blank, prefix, StopsAt, digits_of, after_digits, after_blanks}
use Rattle.scala_lines.specs.Spelling.{IsNumber, HasDigits, HasNoDigit, number_of}
use Rattle.scala_lines.proofs.Prefixes.{prefix_behind, prefix_are, behind_stops, prefix_at, behind_at}

-- a digit is no blank
pub digit_no_blank : (b : ℕ) → is_digit b ≡ true → is_blank b ≡ false
digit_no_blank b d = let t = and_parts _ _ d in let l = leb-true 48 b t.0 in
    or_from _ _ (ne_eqb b 32 (λ e. omega (arith, l, e))) (ne_eqb b 9 (λ e. omega (arith, l, e)))

parts : (line : List ℕ) → line ≡ prefix is_blank line ++ (number_of line ++ after_digits (after_blanks line))
parts line = sym (prefix_behind is_blank line) ∙ ap (λ r. prefix is_blank line ++ r) (sym (prefix_behind is_digit (after_blanks line)))

some_digits : (line digits : List ℕ) → number_of line ≡ digits → 0 < length digits → HasDigits line digits
some_digits line digits e some =
    subst (λ (ds : List ℕ). 0 < length ds → HasDigits line ds) e
    (λ h. (prefix is_blank line, after_digits (after_blanks line), prefix_are is_blank line, (prefix_are is_digit (after_blanks line), h), behind_stops is_digit (after_blanks line), parts line)) some

no_digits : (line : List ℕ) → number_of line ≡ [] → HasNoDigit line
no_digits line e =
    let all : after_digits (after_blanks line) ≡ after_blanks line = (let f = prefix_behind is_digit (after_blanks line) in sym (ap (λ r. r ++ after_digits (after_blanks line)) e) ∙ f) in (
      prefix is_blank line,
      after_blanks line,
      prefix_are is_blank line,
      behind_stops is_blank line,
      (let P : List ℕ → Type 0 = λ r. StopsAt is_digit r in subst P all (behind_stops is_digit (after_blanks line))),
      sym (prefix_behind is_blank line),
    )

first_blank : (digits rest : List ℕ) → IsNumber digits → StopsAt is_blank (digits ++ rest)
first_blank [] rest n = absurd (let h = n.1 in omega (arith, h))
first_blank (d ∷ ds) rest n = digit_no_blank d n.0.0

pub digits_again : (line digits : List ℕ) → HasDigits line digits → number_of line ≡ digits
digits_again line digits (blanks, rest, b, n, s, e) =
    ap number_of e ∙ ap digits_of (behind_at is_blank blanks (digits ++ rest) b (first_blank digits rest n)) ∙ prefix_at is_digit digits rest n.0 s

no_prefix : (rest : List ℕ) → StopsAt is_digit rest → digits_of rest ≡ []
no_prefix [] s = refl
no_prefix (b ∷ bs) s = rw s refl

pub no_digits_again : (line : List ℕ) → HasNoDigit line → number_of line ≡ []
no_digits_again line (blanks, rest, b, s, d, e) = ap number_of e ∙ ap digits_of (behind_at is_blank blanks rest b s) ∙ no_prefix rest d

-- a line has a number behind its blanks, or no digit
pub digits_or_none : (line : List ℕ) → ((digits : List ℕ) × HasDigits line digits) ⊎ HasNoDigit line
digits_or_none line = pick (number_of line) refl
  where
    pick : (digits : List ℕ) → number_of line ≡ digits → ((ds : List ℕ) × HasDigits line ds) ⊎ HasNoDigit line
    pick [] e = inr (no_digits line e)
    pick (d ∷ ds) e = inl (d ∷ ds, some_digits line (d ∷ ds) e (omega arith))
