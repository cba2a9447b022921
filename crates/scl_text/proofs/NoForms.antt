-- Where no form is found, what stands there in its place, and the other way round.
use Rattle.std.proofs.Common.{◌≡◌, ℕ, ◌<◌, ◌⊎◌, List, [], ◌∷◌, ◌++◌, length, Option, Some, None, Bool, true, false, cond, refl, sym, ap, subst, ◌∙◌, inl, inr, arith}
use Rattle.std.specs.Prelude.{◌==◌}
use Rattle.std.proofs.lemmas.Bool.{eqb-true, eqb-false, cases_Bool, cond-true, cond-false}
use Rattle.std.proofs.lemmas.List.{nil_from_length}
use Rattle.scala_lines.specs.Characters.{is_digit, StopsAt, digits_of, after_digits, after_blanks}
use Rattle.scl_text.specs.declared.fault.SclKind.TheVariants.{BadPitch}
use Rattle.scl_text.specs.Pitch.{Form, InCents, AsRatio, Alone, form_behind, unsigned_form, signed_form, form_of}
use Rattle.scl_text.specs.Spelling.{PitchFault, FormFault}
use Rattle.scl_text.specs.BadPitch.{unsigned, NoStart, IsCutRatio, HasNoForm}
use Rattle.scala_lines.specs.Laws.{ArePrefixes}
use Rattle.scala_lines.specs.Steps.{chosen}
use Rattle.scl_text.proofs.Written.{form_takes, no_form}

abbrev Bad : List ℕ → Type 0
Bad text = NoStart text ⊎ IsCutRatio text

not_none : {A : Type 0} (x : A) → (let o : Option A = Some x in o) ≡ None → ⊥
not_none x e = cc

empty : (digits : List ℕ) → (length digits == 0) ≡ true → digits ≡ []
empty digits e = nil_from_length digits (eqb-true (length digits) 0 e)

full : (digits : List ℕ) → (length digits == 0) ≡ false → 0 < length digits
full [] e = absurd (eqb-false 0 0 e refl)
full (d ∷ ds) e = omega arith

stopped : (bs : List ℕ) → digits_of bs ≡ [] → StopsAt is_digit bs
stopped [] e = tt
stopped (b ∷ bs) e = elim (cases_Bool (is_digit b)) [
  | inl d ↦ absurd (let h : b ∷ digits_of bs ≡ [] = sym (cond-true (is_digit b) (b ∷ digits_of bs) [] d) ∙ e in cc)
  | inr n ↦ n
]

-- where there is no digit at the start, the rest is the whole
no_digits : ArePrefixes → (text rest : List ℕ) → digits_of text ≡ [] → after_digits text ≡ rest → text ≡ rest
no_digits prefixes text rest d a = sym (prefixes.whole is_digit text) ∙ ap (λ r. r ++ after_digits text) d ∙ a

at_start : ArePrefixes → (text : List ℕ) (b : ℕ) (bs : List ℕ) → digits_of text ≡ [] → after_digits text ≡ b ∷ bs → (b ≡ 46 → StopsAt is_digit bs) → Bad text
at_start prefixes text b bs d a h =
    let no : is_digit b ≡ false = (let P : List ℕ → Type 0 = λ r. StopsAt is_digit r in subst P a (prefixes.stops is_digit text)) in
    let P : List ℕ → Type 0 = λ r. Bad r in
    subst P (sym (no_digits prefixes text (b ∷ bs) d a)) (inl (no, h))

none_behind : ArePrefixes → (negative : Bool) (text rest : List ℕ) → after_digits text ≡ rest → form_behind negative (digits_of text) rest ≡ None → Bad text
none_behind prefixes negative text [] a e =
    elim (chosen (length (digits_of text) == 0) _ _ None e) [
      | inl t ↦ let P : List ℕ → Type 0 = λ r. Bad r in subst P (sym (no_digits prefixes text [] (empty (digits_of text) t.0) a)) (inl tt)
      | inr t ↦ absurd (not_none (Alone negative (digits_of text)) t.1)
    ]
none_behind prefixes negative text (b ∷ bs) a e =
    elim (chosen (b == 46) _ _ None e) [
      | inl p ↦ elim (chosen (length (digits_of text) == 0) _ _ None p.1) [
        | inl t ↦ elim (chosen (length (digits_of bs) == 0) _ _ None t.1) [
          | inl u ↦ at_start prefixes text b bs (empty (digits_of text) t.0) a (λ h. stopped bs (empty (digits_of bs) u.0))
          | inr u ↦ absurd (not_none (InCents negative (digits_of text) (digits_of bs)) u.1)
        ]
        | inr t ↦ absurd (not_none (InCents negative (digits_of text) (digits_of bs)) t.1)
      ]
      | inr p ↦ elim (chosen (b == 47) _ _ None p.1) [
        | inl q ↦ elim (chosen (length (digits_of text) == 0) _ _ None q.1) [
          | inl t ↦ at_start prefixes text b bs (empty (digits_of text) t.0) a (λ h. absurd (eqb-false b 46 p.0 h))
          | inr t ↦ elim (chosen (length (digits_of bs) == 0) _ _ None t.1) [
            | inl u ↦ inr (
              digits_of text,
              bs,
              (prefixes.passes is_digit text, full (digits_of text) t.0),
              stopped bs (empty (digits_of bs) u.0),
              sym (prefixes.whole is_digit text) ∙ ap (λ r. digits_of text ++ r) (a ∙ ap (λ c. c ∷ bs) (eqb-true b 47 q.0)),
            )
            | inr u ↦ absurd (not_none (AsRatio negative (digits_of text) (digits_of bs)) u.1)
          ]
        ]
        | inr q ↦ elim (chosen (length (digits_of text) == 0) _ _ None q.1) [
          | inl t ↦ at_start prefixes text b bs (empty (digits_of text) t.0) a (λ h. absurd (eqb-false b 46 p.0 h))
          | inr t ↦ absurd (not_none (Alone negative (digits_of text)) t.1)
        ]
      ]
    ]

no_prefix : (bs : List ℕ) → StopsAt is_digit bs → digits_of bs ≡ []
no_prefix [] s = refl
no_prefix (b ∷ bs) s = rw s refl

start_none : (negative : Bool) (text : List ℕ) → NoStart text → unsigned_form negative text ≡ None
start_none negative [] h = refl
start_none negative (b ∷ bs) (no_digit, h) = rw no_digit (elim (cases_Bool (b == 46)) [
  | inl p ↦ cond-true (b == 46) _ _ p ∙ (rw (no_prefix bs (h (eqb-true b 46 p))) refl)
  | inr p ↦ cond-false (b == 46) _ _ p ∙ elim (cases_Bool (b == 47)) [
    | inl q ↦ cond-true (b == 47) _ _ q
    | inr q ↦ cond-false (b == 47) _ _ q
  ]
])

either_none : (b : Bool) → cond {A = Option Form} b None None ≡ None
either_none true = refl
either_none false = refl

cut_none : ArePrefixes → (negative : Bool) (text : List ℕ) → IsCutRatio text → unsigned_form negative text ≡ None
cut_none prefixes negative text (digits, rest, n, s, e) =
    ap (unsigned_form negative) e ∙ (rw (prefixes.prefix is_digit digits (47 ∷ rest) n.0 refl, prefixes.behind is_digit digits (47 ∷ rest) n.0 refl, no_prefix rest s) (either_none (length digits == 0)))

unsigned_none : ArePrefixes → (negative : Bool) (text : List ℕ) → Bad text → unsigned_form negative text ≡ None
unsigned_none prefixes negative text (inl h) = start_none negative text h
unsigned_none prefixes negative text (inr h) = cut_none prefixes negative text h

signed_bad : ArePrefixes → (text : List ℕ) → signed_form text ≡ None → Bad (unsigned text)
signed_bad prefixes [] e = inl tt
signed_bad prefixes (b ∷ bs) e = let P : List ℕ → Type 0 = λ r. Bad r in elim (cases_Bool (b == 45)) [
  | inl m ↦ subst P (sym (cond-true (b == 45) bs (b ∷ bs) m)) (none_behind prefixes true bs (after_digits bs) refl (sym (cond-true (b == 45) (unsigned_form true bs) (unsigned_form false (b ∷ bs)) m) ∙ e))
  | inr m ↦ subst P (sym (cond-false (b == 45) bs (b ∷ bs) m)) (none_behind prefixes false (b ∷ bs) (after_digits (b ∷ bs)) refl (sym (cond-false (b == 45) (unsigned_form true bs) (unsigned_form false (b ∷ bs)) m) ∙ e))
]

bad_signed : ArePrefixes → (text : List ℕ) → Bad (unsigned text) → signed_form text ≡ None
bad_signed prefixes [] h = refl
bad_signed prefixes (b ∷ bs) h = let P : List ℕ → Type 0 = λ r. Bad r in elim (cases_Bool (b == 45)) [
  | inl m ↦ cond-true (b == 45) (unsigned_form true bs) (unsigned_form false (b ∷ bs)) m ∙ unsigned_none prefixes true bs (subst P (cond-true (b == 45) bs (b ∷ bs) m) h)
  | inr m ↦ cond-false (b == 45) (unsigned_form true bs) (unsigned_form false (b ∷ bs)) m ∙ unsigned_none prefixes false (b ∷ bs) (subst P (cond-false (b == 45) bs (b ∷ bs) m) h)
]

form_none : ArePrefixes → (line : List ℕ) → form_of line ≡ None → HasNoForm line
unfolding form_of
form_none prefixes line e = signed_bad prefixes (after_blanks line) e

none_form : ArePrefixes → (line : List ℕ) → HasNoForm line → form_of line ≡ None
unfolding form_of
none_form prefixes line h = bad_signed prefixes (after_blanks line) h

found : (o : Option Form) → (o ≡ None) ⊎ ((form : Form) × (o ≡ Some form))
found None = inl refl
found (Some form) = inr (form, refl)

pub bad_is : ArePrefixes → (line : List ℕ) → PitchFault line BadPitch → HasNoForm line
bad_is prefixes line (inl (e, none)) = elim (found (form_of line)) [
  | inl n ↦ form_none prefixes line n
  | inr s ↦ absurd (none s.0 (form_takes prefixes line s.0 s.1))
]
bad_is prefixes line (inr (form, s, f)) = absurd (not_form form f)
  where
    not_form : (g : Form) → FormFault g BadPitch → ⊥
    not_form (InCents negative whole decimals) h = let k = h.0 in cc
    not_form (AsRatio true num den) h = cc
    not_form (AsRatio false num den) h = h
    not_form (Alone true num) h = cc
    not_form (Alone false num) h = h

pub is_bad : ArePrefixes → (line : List ℕ) → HasNoForm line → PitchFault line BadPitch
is_bad prefixes line h = inl (refl, no_form prefixes line (none_form prefixes line h))
