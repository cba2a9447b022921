-- The first line of a text, and the lines behind it.
use Rattle.std.proofs.Common.{◌≡◌, ℕ, zero, suc, ◌-◌, ◌<◌, ◌≤◌, List, [], ◌∷◌, length, take, drop, get_or, true, false, cond, not, eqb, ◌==◌, refl, sym, ap, ◌∙◌, arith}
use Rattle.std.proofs.lemmas.Bool.{eq-eqb, ne_eqb, eqb-true}
use Rattle.scala_lines.proofs.Prefixes.{take_prefix}
use Rattle.std.proofs.lemmas.List.{take_all}
use Rattle.scala_lines.specs.Characters.{prefix, behind}
use Rattle.scala_lines.specs.Lines.{pieces_of, with_byte, lines_of, lines_from, without_cr, is_inside, from_end}

-- a text whose first LF is followed by a rest
pub pieces_more : (text : List ℕ) (c : ℕ) (rest : List ℕ) → from_end text ≡ c ∷ rest → pieces_of text ≡ prefix is_inside text ∷ pieces_of rest
pieces_more [] c rest e = absurd cc
pieces_more (b ∷ bs) c rest e = elim (eqb b 10) as (λ t. cond (not t) (behind is_inside bs) (b ∷ bs) ≡ c ∷ rest
    → cond t ([] ∷ pieces_of bs) (with_byte b (pieces_of bs)) ≡ cond (not t) (b ∷ prefix is_inside bs) [] ∷ pieces_of rest) [
      | true ↦ λ h. ap (λ r. [] ∷ pieces_of r) (let e : bs ≡ rest = cc in e)
      | false ↦ λ h. ap (with_byte b) (pieces_more bs c rest h)
    ] e

-- a text without an LF
pub pieces_end : (text : List ℕ) → 0 < length text → from_end text ≡ [] → pieces_of text ≡ prefix is_inside text ∷ []
pieces_end [] some e = absurd (omega (arith, some))
pieces_end (b ∷ []) some e = elim (eqb b 10) as (λ t. cond (not t) [] (b ∷ []) ≡ []
    → cond t ([] ∷ []) ((b ∷ []) ∷ []) ≡ cond (not t) (b ∷ []) [] ∷ [])
    [ true ↦ λ h. absurd cc | false ↦ λ h. refl ] e
pieces_end (b ∷ c ∷ cs) some e = elim (eqb b 10) as (λ t. cond (not t) (behind is_inside (c ∷ cs)) (b ∷ c ∷ cs) ≡ []
    → cond t ([] ∷ pieces_of (c ∷ cs)) (with_byte b (pieces_of (c ∷ cs))) ≡ cond (not t) (b ∷ prefix is_inside (c ∷ cs)) [] ∷ []) [
      | true ↦ λ h. absurd cc
      | false ↦ λ h. ap (with_byte b) (pieces_end (c ∷ cs) (omega arith) h)
    ] e

-- a line that ends with CR
cr_at : (line : List ℕ) (n : ℕ) → length line ≡ suc n → get_or line n 0 ≡ 13 → take n line ≡ without_cr line
cr_at [] n l e = absurd (omega (arith, l))
cr_at (b ∷ []) zero l e = rw (eq-eqb b 13 e) refl
cr_at (b ∷ []) (suc n) l e = absurd (omega (arith, l))
cr_at (b ∷ c ∷ cs) zero l e = absurd (omega (arith, l))
cr_at (b ∷ c ∷ cs) (suc n) l e = ap (λ r. b ∷ r) (cr_at (c ∷ cs) n (omega (arith, l)) e)

pub cr_last : (line : List ℕ) → 0 < length line → get_or line (length line - 1) 0 ≡ 13 → take (length line - 1) line ≡ without_cr line
cr_last line some e = cr_at line (length line - 1) (omega (arith, some)) e

-- one that doesn't
other_at : (line : List ℕ) (n : ℕ) → length line ≡ suc n → (get_or line n 0 ≡ 13 → ⊥) → line ≡ without_cr line
other_at [] n l e = refl
other_at (b ∷ []) zero l e = rw (ne_eqb b 13 e) refl
other_at (b ∷ []) (suc n) l e = absurd (omega (arith, l))
other_at (b ∷ c ∷ cs) zero l e = absurd (omega (arith, l))
other_at (b ∷ c ∷ cs) (suc n) l e = ap (λ r. b ∷ r) (other_at (c ∷ cs) n (omega (arith, l)) e)

pub other_last : (line : List ℕ) → 0 < length line → (get_or line (length line - 1) 0 ≡ 13 → ⊥) → line ≡ without_cr line
other_last line some e = other_at line (length line - 1) (omega (arith, some)) e

pub nothing : (line : List ℕ) → (length line == 0) ≡ true → line ≡ without_cr line
nothing [] e = refl
nothing (b ∷ bs) e = absurd (omega (arith, eqb-true (length (b ∷ bs)) 0 e))

-- the first line of a text, and the lines behind it
pub line_end : (text end line : List ℕ) → 0 < length text → end ≡ from_end text → length end < 1
    → line ≡ without_cr (take (length text - length end) text) → lines_of text ≡ line ∷ lines_of end
line_end text [] line some e short l =
    ap lines_from (pieces_end text some (sym e))
    ∙ ap (λ r. r ∷ []) (ap without_cr (sym (ap (λ (r : List ℕ). take (length text - length r) text) e ∙ take_prefix is_inside text)) ∙ sym l)
line_end text (c ∷ cs) line some e short l = absurd (omega (arith, short))

pub line_more : (text end line : List ℕ) → end ≡ from_end text → 1 ≤ length end
    → line ≡ without_cr (take (length text - length end) text) → lines_of text ≡ line ∷ lines_of (take (length end - 1) (drop 1 end))
line_more text [] line e long l = absurd (omega (arith, long))
line_more text (c ∷ rest) line e long l =
    ap lines_from (pieces_more text c rest (sym e))
    ∙ ap (λ r. r ∷ lines_of rest) (ap without_cr (sym (ap (λ (r : List ℕ). take (length text - length r) text) e ∙ take_prefix is_inside text)) ∙ sym l)
    ∙ ap (λ r. line ∷ lines_of r) (sym (take_all (length (c ∷ rest) - 1) rest (omega arith)))
