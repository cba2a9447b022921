-- The name on a line: the one that is found stands there, and the one that stands there is found.
use Rattle.std.proofs.Common.{◌≡◌, ℕ, zero, suc, ◌<◌, List, [], ◌∷◌, ◌++◌, length, Option, Some, None, Bool, true, false, refl, sym, ap, subst, ◌∙◌, inl, inr, arith, append-nil}
use Rattle.std.specs.Prelude.{◌==◌, nat_le, if◌then◌else◌, slice_index, IsUtf8}
use Rattle.std.proofs.lemmas.Str.{IsUtf8-from_ascii}
use Rattle.std.proofs.lemmas.Bool.{eqb-true, eqb-false, ne_eqb, leb-true, and_parts, or_from}
use Rattle.std.proofs.lemmas.List.{nil_from_length}
use Rattle.scala_lines.specs.Characters.{is_blank, is_digit, prefix, behind, Are, StopsAt, after_digits, after_blanks}
use Rattle.scala_lines.specs.Laws.{ArePrefixes}
use Rattle.scala_lines.specs.Spelling.{HasDigits}
use Rattle.scala_lines.specs.Steps.{chosen}
use Rattle.scale_changes.specs.Names.{is_name_byte}
use Rattle.scale_changes.specs.Reading.{name_alone, name_behind, name_in}
use Rattle.scale_changes.specs.Spelling.{HasName}

some_is : {A : Type 0} (x y : A) → (let o : Option A = Some x in o) ≡ Some y → x ≡ y
some_is x y e = cc

full : (xs : List ℕ) → (length xs == 0) ≡ false → 0 < length xs
full [] e = absurd (eqb-false 0 0 e refl)
full (x ∷ xs) e = omega arith

not_empty : (xs : List ℕ) → 0 < length xs → (length xs == 0) ≡ false
not_empty xs some = ne_eqb (length xs) 0 (λ e. omega (arith, some, e))

-- ---- bytes of one kind are none of another

digit_no_blank : (b : ℕ) → is_digit b ≡ true → is_blank b ≡ false
digit_no_blank b d =
    let low = leb-true 48 b (and_parts (nat_le 48 b) (nat_le b 57) d).0 in
    or_from _ _ (ne_eqb b 32 (λ e. omega (arith, low, e))) (ne_eqb b 9 (λ e. omega (arith, low, e)))

blank_no_digit : (b : ℕ) → is_blank b ≡ true → is_digit b ≡ false
blank_no_digit b x = elim (is_digit b) as (λ t. is_digit b ≡ t → is_digit b ≡ false) [
  | true ↦ λ d. absurd (let h = digit_no_blank b d in cc)
  | false ↦ λ d. d
] refl

name_no_blank : (b : ℕ) → is_name_byte b ≡ true → is_blank b ≡ false
name_no_blank b d =
    let low = leb-true 33 b (and_parts (nat_le 33 b) (nat_le b 126) d).0 in
    or_from _ _ (ne_eqb b 32 (λ e. omega (arith, low, e))) (ne_eqb b 9 (λ e. omega (arith, low, e)))

blank_no_name : (b : ℕ) → is_blank b ≡ true → is_name_byte b ≡ false
blank_no_name b x = elim (is_name_byte b) as (λ t. is_name_byte b ≡ t → is_name_byte b ≡ false) [
  | true ↦ λ d. absurd (let h = name_no_blank b d in cc)
  | false ↦ λ d. d
] refl

-- bytes of one kind, before anything, don't begin with another kind
stops : (p q : ℕ → Bool) → ((b : ℕ) → p b ≡ true → q b ≡ false) → (xs rest : List ℕ) → Are p xs → 0 < length xs → StopsAt q (xs ++ rest)
stops p q other [] rest a some = absurd (omega (arith, some))
stops p q other (x ∷ xs) rest a some = other x a.0

-- also where they may be none, at the end of the text
stops_end : (p q : ℕ → Bool) → ((b : ℕ) → p b ≡ true → q b ≡ false) → (xs : List ℕ) → Are p xs → StopsAt q xs
stops_end p q other [] a = tt
stops_end p q other (x ∷ xs) a = other x a.0

all_behind : ArePrefixes → (p : ℕ → Bool) (xs : List ℕ) → Are p xs → behind p xs ≡ []
all_behind laws p xs a = ap (behind p) (sym (append-nil xs)) ∙ laws.behind p xs [] a tt

-- ---- the name that stands there is found

alone_found : (name after : List ℕ) → 0 < length name → after_blanks after ≡ [] → name_alone name after ≡ Some name
alone_found name after some none = rw (not_empty name some, none) refl

behind_found : ArePrefixes → (name after : List ℕ) → Are is_name_byte name → 0 < length name → Are is_blank after → name_behind (name ++ after) ≡ Some name
behind_found laws name after n some a =
    let s = stops_end is_blank is_name_byte blank_no_name after a in
    rw (laws.prefix is_name_byte name after n s, laws.behind is_name_byte name after n s) (alone_found name after some (all_behind laws is_blank after a))

in_found : ArePrefixes → (between name after : List ℕ) → Are is_blank between → 0 < length between → Are is_name_byte name → 0 < length name → Are is_blank after
    → name_in (between ++ (name ++ after)) ≡ Some name
in_found laws [] name after b some n named a = absurd (omega (arith, some))
in_found laws (x ∷ xs) name after b some n named a =
    let e : after_blanks (xs ++ (name ++ after)) ≡ name ++ after = laws.behind is_blank xs (name ++ after) b.1 (stops is_name_byte is_blank name_no_blank name after n named) in
    rw (b.0, e) (behind_found laws name after n named a)

-- what stands behind the digits of a line with a name
behind_digits : ArePrefixes → (line name : List ℕ) → (h : HasName line name) → after_digits (after_blanks line) ≡ h.between ++ (name ++ h.after)
behind_digits laws line name h =
    let rest = h.between ++ (name ++ h.after) in
    ap after_digits (ap after_blanks h.whole ∙ laws.behind is_blank h.before (h.digits ++ rest) h.before_blank (stops is_digit is_blank digit_no_blank h.digits rest h.number.0 h.number.1))
    ∙ laws.behind is_digit h.digits rest h.number.0 (stops is_blank is_digit blank_no_digit h.between (name ++ h.after) h.between_blank h.some_between)

pub name_found : ArePrefixes → (line name : List ℕ) → HasName line name → name_in (after_digits (after_blanks line)) ≡ Some name
name_found laws line name h =
    ap name_in (behind_digits laws line name h) ∙ in_found laws h.between name h.after h.between_blank h.some_between h.named h.some_name h.after_blank

-- ---- the name that is found stands there

-- what stands behind the digits, where a name was found
abbrev Stands : List ℕ → List ℕ → Type 0
Stands rest name = (between after : List ℕ) × Are is_blank between × (0 < length between) × Are is_name_byte name × (0 < length name) × Are is_blank after × (rest ≡ between ++ (name ++ after))

alone_stands : ArePrefixes → (text name : List ℕ) → name_behind text ≡ Some name
    → (after : List ℕ) × Are is_name_byte name × (0 < length name) × Are is_blank after × (text ≡ name ++ after)
alone_stands laws text name e =
    let front = prefix is_name_byte text in
    let after = behind is_name_byte text in
    elim (chosen (length front == 0) None (if length (after_blanks after) == 0 then Some front else None) (Some name) e) [
      | inl t ↦ absurd (let h = t.1 in cc)
      | inr t ↦ elim (chosen (length (after_blanks after) == 0) (Some front) None (Some name) t.1) [
        | inl u ↦
            let same : front ≡ name = some_is front name u.1 in
            let none : after_blanks after ≡ [] = nil_from_length (after_blanks after) (eqb-true (length (after_blanks after)) 0 u.0) in
            let blank : Are is_blank after = subst (Are is_blank) (sym (append-nil (prefix is_blank after)) ∙ ap (λ r. prefix is_blank after ++ r) (sym none) ∙ laws.whole is_blank after) (laws.passes is_blank after) in
            (after, subst (Are is_name_byte) same (laws.passes is_name_byte text), subst (λ n. 0 < length n) same (full front t.0), blank, sym (laws.whole is_name_byte text) ∙ ap (λ n. n ++ after) same)
        | inr u ↦ absurd (let h = u.1 in cc)
      ]
    ]

in_stands : ArePrefixes → (rest name : List ℕ) → name_in rest ≡ Some name → Stands rest name
in_stands laws [] name e = absurd cc
in_stands laws (b ∷ bs) name e =
    elim (chosen (is_blank b) (name_behind (after_blanks bs)) None (Some name) e) [
      | inl t ↦
          let s = alone_stands laws (after_blanks bs) name t.1 in (
            b ∷ prefix is_blank bs,
            s.0,
            (t.0, laws.passes is_blank bs),
            omega arith,
            s.1,
            s.2,
            s.3,
            ap (λ r. b ∷ r) (sym (laws.whole is_blank bs) ∙ ap (λ r. prefix is_blank bs ++ r) s.4),
          )
      | inr t ↦ absurd (let h = t.1 in cc)
    ]

pub name_stands : ArePrefixes → (line digits name : List ℕ) → HasDigits line digits → name_in (after_digits (after_blanks line)) ≡ Some name → HasName line name
name_stands laws line digits name (blanks, rest, b, n, s, e) found =
    let r : after_digits (after_blanks line) ≡ rest =
    ap after_digits (ap after_blanks e ∙ laws.behind is_blank blanks (digits ++ rest) b (stops is_digit is_blank digit_no_blank digits rest n.0 n.1)) ∙ laws.behind is_digit digits rest n.0 s in
    let t = in_stands laws rest name (ap name_in (sym r) ∙ found) in
    record {
      before = blanks;
      digits = digits;
      between = t.0;
      after = t.1;
      before_blank = b;
      number = n;
      between_blank = t.2;
      some_between = t.3;
      named = t.4;
      some_name = t.5;
      after_blank = t.6;
      whole = e ∙ ap (λ q. blanks ++ (digits ++ q)) t.7;
    }

-- ---- a name is a text

low_bytes : (bs : List ℕ) → Are is_name_byte bs → (i : ℕ) → slice_index bs i < 128
low_bytes [] a i = omega arith
low_bytes (b ∷ bs) a zero = let high = leb-true b 126 (and_parts (nat_le 33 b) (nat_le b 126) a.0).1 in omega (arith, high)
low_bytes (b ∷ bs) a (suc i) = low_bytes bs a.1 i

pub name_is_text : (bs : List ℕ) → Are is_name_byte bs → IsUtf8 bs
name_is_text bs a = IsUtf8-from_ascii bs (low_bytes bs a)
