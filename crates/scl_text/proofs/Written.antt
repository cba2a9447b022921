-- What is written on a pitch line: the form that is found stands there, and the form that stands there is found.
use Rattle.std.proofs.Common.{◌≡◌, ℕ, zero, suc, ◌+◌, ◌<◌, ◌⊎◌, List, [], ◌∷◌, ◌++◌, length, Option, Some, None, Bool, true, false, leb, refl, sym, ap, subst, ◌∙◌, inl, inr, arith, append_assoc}
use Rattle.std.specs.Prelude.{◌==◌, ◌||◌}
use Rattle.std.proofs.lemmas.Bool.{eqb-true, eqb-false, ne_eqb, leb-true, and_parts, or_from, or_parts}
use Rattle.scala_lines.specs.Characters.{is_blank, is_digit, prefix, Are, StopsAt, digits_of, after_digits, after_blanks}
use Rattle.scl_text.specs.Pitch.{Form, InCents, AsRatio, Alone, cents_form, ratio_form, alone_form, form_behind, unsigned_form, signed_form, form_of}
use Rattle.scala_lines.specs.Spelling.{IsNumber}
use Rattle.scl_text.specs.Spelling.{sign, goes_on, IsForm, Stands}
use Rattle.scala_lines.specs.Laws.{ArePrefixes}
use Rattle.scala_lines.specs.Steps.{chosen}

some_is : {A : Type 0} (x y : A) → (let o : Option A = Some x in o) ≡ Some y → x ≡ y
some_is x y e = cc

nonzero : (n : ℕ) → (n == 0) ≡ false → 0 < n
nonzero n e = let h = eqb-false n 0 e in elim n as (λ k. (k ≡ 0 → ⊥) → 0 < k) [ zero ↦ λ g. absurd (g refl) | suc k ↦ λ g. omega arith ] h

some_length : (x : ℕ) (xs : List ℕ) → (length (x ∷ xs) == 0) ≡ false
some_length x xs = ne_eqb (length (x ∷ xs)) 0 (λ e. omega (arith, e))

-- a form with the text behind its sign, where bytes is what stands behind the sign
abbrev Takes : Bool → List ℕ → Form → Type 0
Takes negative bytes form = (text rest : List ℕ) × IsForm (sign negative ++ text) form rest × (bytes ≡ text ++ rest)

-- bytes are digits, a byte, digits, and what stands behind them
split_twice : ArePrefixes → (bytes bs : List ℕ) (b : ℕ) → after_digits bytes ≡ b ∷ bs → bytes ≡ (digits_of bytes ++ b ∷ digits_of bs) ++ after_digits bs
split_twice prefixes bytes bs b e =
    sym (prefixes.whole is_digit bytes)
    ∙ ap (λ r. digits_of bytes ++ r) (e ∙ ap (λ r. b ∷ r) (sym (prefixes.whole is_digit bs)))
    ∙ sym (append_assoc (digits_of bytes) (b ∷ digits_of bs) (after_digits bs))

cents_take : ArePrefixes → (negative : Bool) (bytes bs : List ℕ) (form : Form) → after_digits bytes ≡ 46 ∷ bs → cents_form negative (digits_of bytes) (digits_of bs) ≡ Some form → Takes negative bytes form
cents_take prefixes negative bytes bs form a e =
    let whole = digits_of bytes in let decimals = digits_of bs in
    let took : 0 < length whole + length decimals → Takes negative bytes (InCents negative whole decimals) =
    λ h. (whole ++ 46 ∷ decimals, after_digits bs, (prefixes.passes is_digit bytes, prefixes.passes is_digit bs, h, refl, prefixes.stops is_digit bs), split_twice prefixes bytes bs 46 a) in
    elim (chosen (length whole == 0) _ _ (Some form) e) [
      | inl t ↦ elim (chosen (length decimals == 0) _ _ (Some form) t.1) [
        | inl u ↦ absurd (let h = u.1 in cc)
        | inr u ↦ subst (Takes negative bytes) (some_is _ _ u.1) (took (omega (arith, nonzero (length decimals) u.0)))
      ]
      | inr t ↦ subst (Takes negative bytes) (some_is _ _ t.1) (took (omega (arith, nonzero (length whole) t.0)))
    ]

ratio_takes : ArePrefixes → (negative : Bool) (bytes bs : List ℕ) (form : Form) → after_digits bytes ≡ 47 ∷ bs → ratio_form negative (digits_of bytes) (digits_of bs) ≡ Some form → Takes negative bytes form
ratio_takes prefixes negative bytes bs form a e =
    let num = digits_of bytes in let den = digits_of bs in
    elim (chosen (length num == 0) _ _ (Some form) e) [
      | inl t ↦ absurd (let h = t.1 in cc)
      | inr t ↦ elim (chosen (length den == 0) _ _ (Some form) t.1) [
        | inl u ↦ absurd (let h = u.1 in cc)
        | inr u ↦ subst (Takes negative bytes) (some_is _ _ u.1)
            (num ++ 47 ∷ den, after_digits bs, ((prefixes.passes is_digit bytes, nonzero (length num) t.0), (prefixes.passes is_digit bs, nonzero (length den) u.0), refl, prefixes.stops is_digit bs), split_twice prefixes bytes bs 47 a)
      ]
    ]

alone_takes : ArePrefixes → (negative : Bool) (bytes : List ℕ) (form : Form) → StopsAt goes_on (after_digits bytes) → alone_form negative (digits_of bytes) ≡ Some form → Takes negative bytes form
alone_takes prefixes negative bytes form s e =
    let num = digits_of bytes in
    elim (chosen (length num == 0) _ _ (Some form) e) [
      | inl t ↦ absurd (let h = t.1 in cc)
      | inr t ↦ subst (Takes negative bytes) (some_is _ _ t.1)
          (num, after_digits bytes, ((prefixes.passes is_digit bytes, nonzero (length num) t.0), refl, s), sym (prefixes.whole is_digit bytes))
    ]

behind_takes : ArePrefixes → (negative : Bool) (bytes rest : List ℕ) (form : Form) → after_digits bytes ≡ rest → form_behind negative (digits_of bytes) rest ≡ Some form → Takes negative bytes form
behind_takes prefixes negative bytes [] form a e = alone_takes prefixes negative bytes form (let P : List ℕ → Type 0 = λ r. StopsAt goes_on r in subst P (sym a) tt) e
behind_takes prefixes negative bytes (b ∷ bs) form a e =
    elim (chosen (b == 46) _ _ (Some form) e) [
      | inl t ↦ cents_take prefixes negative bytes bs form (a ∙ ap (λ c. c ∷ bs) (eqb-true b 46 t.0)) t.1
      | inr t ↦ elim (chosen (b == 47) _ _ (Some form) t.1) [
        | inl u ↦ ratio_takes prefixes negative bytes bs form (a ∙ ap (λ c. c ∷ bs) (eqb-true b 47 u.0)) u.1
        | inr u ↦
            let no : is_digit b ≡ false = (let P : List ℕ → Type 0 = λ r. StopsAt is_digit r in subst P a (prefixes.stops is_digit bytes)) in
            let stop : goes_on b ≡ false = or_from _ _ (or_from _ _ no t.0) u.0 in
            alone_takes prefixes negative bytes form (let P : List ℕ → Type 0 = λ r. StopsAt goes_on r in subst P (sym a) stop) u.1
      ]
    ]

unsigned_takes : ArePrefixes → (negative : Bool) (bytes : List ℕ) (form : Form) → unsigned_form negative bytes ≡ Some form → Takes negative bytes form
unsigned_takes prefixes negative bytes form e = behind_takes prefixes negative bytes (after_digits bytes) form refl e

signed_takes : ArePrefixes → (bytes : List ℕ) (form : Form) → signed_form bytes ≡ Some form → (text rest : List ℕ) × IsForm text form rest × (bytes ≡ text ++ rest)
signed_takes prefixes [] form e = absurd cc
signed_takes prefixes (b ∷ bs) form e =
    elim (chosen (b == 45) _ _ (Some form) e) [
      | inl t ↦ let u = unsigned_takes prefixes true bs form t.1 in (45 ∷ u.0, u.1, u.2, ap (λ c. c ∷ bs) (eqb-true b 45 t.0) ∙ ap (λ r. 45 ∷ r) u.3)
      | inr t ↦ let u = unsigned_takes prefixes false (b ∷ bs) form t.1 in (u.0, u.1, u.2, u.3)
    ]

-- what is found stands there
pub form_takes : ArePrefixes → (line : List ℕ) (form : Form) → form_of line ≡ Some form → Stands line form
unfolding form_of
form_takes prefixes line form e =
    let s = signed_takes prefixes (after_blanks line) form e in
    (prefix is_blank line, s.0, s.1, prefixes.passes is_blank line, s.2, sym (prefixes.whole is_blank line) ∙ ap (λ r. prefix is_blank line ++ r) s.3)

-- ---- what stands there is found

-- the text behind a sign begins with a digit or a period
abbrev Begins : List ℕ → Type 0
Begins text = (b : ℕ) × (bs : List ℕ) × (text ≡ b ∷ bs) × ((is_digit b ≡ true) ⊎ (b ≡ 46))

digits_begin : (digits more : List ℕ) → Are is_digit digits → 0 < length digits → Begins (digits ++ more)
digits_begin [] more a some = absurd (omega (arith, some))
digits_begin (d ∷ ds) more a some = (d, ds ++ more, refl, inl a.0)

period_begins : (digits more : List ℕ) → Are is_digit digits → Begins (digits ++ 46 ∷ more)
period_begins [] more a = (46, more, refl, inr refl)
period_begins (d ∷ ds) more a = (d, ds ++ 46 ∷ more, refl, inl a.0)

not_byte : (b n : ℕ) → (is_digit b ≡ true) ⊎ (b ≡ 46) → n < 46 → (b == n) ≡ false
not_byte b n (inl d) low = let t = and_parts (leb 48 b) (leb b 57) d in let l = leb-true 48 b t.0 in ne_eqb b n (λ e. omega (arith, l, low, e))
not_byte b n (inr p) low = ne_eqb b n (λ e. omega (arith, p, low, e))

no_blank : (text : List ℕ) → Begins text → StopsAt is_blank text
no_blank text (b, bs, e, h) = let P : List ℕ → Type 0 = λ r. StopsAt is_blank r in subst P (sym e) (or_from _ _ (not_byte b 32 h (omega arith)) (not_byte b 9 h (omega arith)))

no_sign : (text : List ℕ) → Begins text → signed_form text ≡ unsigned_form false text
no_sign text (b, bs, e, h) = ap signed_form e ∙ (rw (not_byte b 45 h (omega arith)) (ap (unsigned_form false) (sym e)))

cents_found : ArePrefixes → (negative : Bool) (whole decimals rest : List ℕ) → Are is_digit whole → Are is_digit decimals → 0 < length whole + length decimals → StopsAt is_digit rest
    → unsigned_form negative (whole ++ 46 ∷ (decimals ++ rest)) ≡ Some (InCents negative whole decimals)
cents_found prefixes negative whole decimals rest a d some s =
    let f = prefixes.prefix is_digit whole (46 ∷ (decimals ++ rest)) a refl in
    let b = prefixes.behind is_digit whole (46 ∷ (decimals ++ rest)) a refl in
    let g = prefixes.prefix is_digit decimals rest d s in
    rw (f, b, g) (pick whole some)
  where
    pick : (w : List ℕ) → 0 < length w + length decimals → cents_form negative w decimals ≡ Some (InCents negative w decimals)
    pick [] h = elim decimals as (λ ds. 0 < 0 + length ds → cents_form negative [] ds ≡ Some (InCents negative [] ds)) [ [] ↦ λ g. absurd (omega (arith, g)) | x ∷ xs ↦ λ g. rw (some_length x xs) refl ] h
    pick (x ∷ xs) h = rw (some_length x xs) refl

ratio_found : ArePrefixes → (negative : Bool) (num den rest : List ℕ) → IsNumber num → IsNumber den → StopsAt is_digit rest
    → unsigned_form negative (num ++ 47 ∷ (den ++ rest)) ≡ Some (AsRatio negative num den)
ratio_found prefixes negative num den rest a d s =
    let f = prefixes.prefix is_digit num (47 ∷ (den ++ rest)) a.0 refl in
    let b = prefixes.behind is_digit num (47 ∷ (den ++ rest)) a.0 refl in
    let g = prefixes.prefix is_digit den rest d.0 s in
    rw (f, b, g) (pick num den a.1 d.1)
  where
    pick : (n m : List ℕ) → 0 < length n → 0 < length m → ratio_form negative n m ≡ Some (AsRatio negative n m)
    pick [] m h g = absurd (omega (arith, h))
    pick (x ∷ xs) [] h g = absurd (omega (arith, g))
    pick (x ∷ xs) (y ∷ ys) h g = rw (some_length x xs, some_length y ys) refl

-- what goes on with no form doesn't go on with a digit
stops_digits : (rest : List ℕ) → StopsAt goes_on rest → StopsAt is_digit rest
stops_digits [] s = tt
stops_digits (b ∷ bs) s = (or_parts _ _ (or_parts _ _ s).0).0

alone_behind : (negative : Bool) (num rest : List ℕ) → 0 < length num → StopsAt goes_on rest → form_behind negative num rest ≡ Some (Alone negative num)
alone_behind negative [] rest some s = absurd (omega (arith, some))
alone_behind negative (d ∷ ds) [] some s = rw (some_length d ds) refl
alone_behind negative (d ∷ ds) (b ∷ bs) some s =
    let p = or_parts (is_digit b || b == 46) (b == 47) s in
    let q = or_parts (is_digit b) (b == 46) p.0 in
    rw (q.1, p.1, some_length d ds) refl

alone_found : ArePrefixes → (negative : Bool) (num rest : List ℕ) → IsNumber num → StopsAt goes_on rest → unsigned_form negative (num ++ rest) ≡ Some (Alone negative num)
alone_found prefixes negative num rest a s =
    let f = prefixes.prefix is_digit num rest a.0 (stops_digits rest s) in
    let b = prefixes.behind is_digit num rest a.0 (stops_digits rest s) in
    rw (f, b) (alone_behind negative num rest a.1 s)

-- with the sign in front of a text that begins so
found_behind : (negative : Bool) (text : List ℕ) (form : Form) → Begins text → unsigned_form negative text ≡ Some form
    → StopsAt is_blank (sign negative ++ text) × (signed_form (sign negative ++ text) ≡ Some form)
found_behind true text form b e = (refl, e)
found_behind false text form b e = (no_blank text b, no_sign text b ∙ e)

-- the text and what stands behind it, once more with the sign apart
apart : (s text rest whole : List ℕ) → whole ≡ s ++ text → whole ++ rest ≡ s ++ (text ++ rest)
apart s text rest whole e = ap (λ r. r ++ rest) e ∙ append_assoc s text rest

inner : (a b rest : List ℕ) (c : ℕ) → (a ++ c ∷ b) ++ rest ≡ a ++ c ∷ (b ++ rest)
inner a b rest c = append_assoc a (c ∷ b) rest

found_text : ArePrefixes → (form : Form) (text rest : List ℕ) → IsForm text form rest → StopsAt is_blank (text ++ rest) × (signed_form (text ++ rest) ≡ Some form)
found_text prefixes (InCents negative whole decimals) text rest (a, d, some, is, s) =
    let e : text ++ rest ≡ sign negative ++ (whole ++ 46 ∷ (decimals ++ rest)) = apart (sign negative) (whole ++ 46 ∷ decimals) rest text is ∙ ap (λ r. sign negative ++ r) (inner whole decimals rest 46) in
    let P : List ℕ → Type 0 = λ r. StopsAt is_blank r × (signed_form r ≡ Some (InCents negative whole decimals)) in
    subst P (sym e) (found_behind negative _ _ (period_begins whole (decimals ++ rest) a) (cents_found prefixes negative whole decimals rest a d some s))
found_text prefixes (AsRatio negative num den) text rest (a, d, is, s) =
    let e : text ++ rest ≡ sign negative ++ (num ++ 47 ∷ (den ++ rest)) = apart (sign negative) (num ++ 47 ∷ den) rest text is ∙ ap (λ r. sign negative ++ r) (inner num den rest 47) in
    let P : List ℕ → Type 0 = λ r. StopsAt is_blank r × (signed_form r ≡ Some (AsRatio negative num den)) in
    subst P (sym e) (found_behind negative _ _ (digits_begin num (47 ∷ (den ++ rest)) a.0 a.1) (ratio_found prefixes negative num den rest a d s))
found_text prefixes (Alone negative num) text rest (a, is, s) =
    let e : text ++ rest ≡ sign negative ++ (num ++ rest) = apart (sign negative) num rest text is in
    let P : List ℕ → Type 0 = λ r. StopsAt is_blank r × (signed_form r ≡ Some (Alone negative num)) in
    subst P (sym e) (found_behind negative _ _ (digits_begin num rest a.0 a.1) (alone_found prefixes negative num rest a s))

pub form_again : ArePrefixes → (line : List ℕ) (form : Form) → Stands line form → form_of line ≡ Some form
unfolding form_of
form_again prefixes line form (blanks, text, rest, b, f, e) =
    let t = found_text prefixes form text rest f in
    ap signed_form (ap after_blanks e ∙ prefixes.behind is_blank blanks (text ++ rest) b t.0) ∙ t.1

-- where none is found, none stands there
pub no_form : ArePrefixes → (line : List ℕ) → form_of line ≡ None → (form : Form) → Stands line form → ⊥
no_form prefixes line e form s = let h = form_again prefixes line form s in absurd cc
