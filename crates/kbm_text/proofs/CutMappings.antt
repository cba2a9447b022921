-- A mapping text that is cut before its seventh field.
use Rattle.std.proofs.Common.{ℕ, zero, suc, ◌+◌, ◌<◌, ◌≤◌, List, ◌∷◌, take, refl, sym, subst, inr, arith}
use Rattle.scala_lines.specs.Lines.{Numbered, content}
use Rattle.scala_lines.specs.Cuts.{CutLeavesFew}
use Rattle.kbm_text.specs.declared.fault.KbmKind.TheVariants.{MissingField}
use Rattle.kbm_text.specs.Map.{KeyMap}
use Rattle.kbm_text.specs.Spelling.{IsMap, IsFault, MapText, MapFault}
use Rattle.kbm_text.specs.Cuts.{seventh_field_line}

-- with only the first j of the lines that aren't comments
cut_map : (missing : ℕ) (lines : List Numbered) (m : KeyMap) (j : ℕ) → IsMap lines m → j ≤ 6 → IsFault missing (take j lines) missing MissingField
cut_map missing (size ∷ first ∷ last ∷ middle ∷ reference ∷ frequency ∷ octave ∷ lines) m j (n, s, f, l, d, r, q, o, e) few = go j few
  where
    go : (i : ℕ) → i ≤ 6 → IsFault missing (take i (size ∷ first ∷ last ∷ middle ∷ reference ∷ frequency ∷ octave ∷ lines)) missing MissingField
    go zero h = (refl, refl)
    go (suc zero) h = inr (n, s, (refl, refl))
    go (suc (suc zero)) h = inr (n, s, inr (m.first, f, (refl, refl)))
    go (suc (suc (suc zero))) h = inr (n, s, inr (m.first, f, inr (m.last, l, (refl, refl))))
    go (suc (suc (suc (suc zero)))) h = inr (n, s, inr (m.first, f, inr (m.last, l, inr (m.middle, d, (refl, refl)))))
    go (suc (suc (suc (suc (suc zero))))) h = inr (n, s, inr (m.first, f, inr (m.last, l, inr (m.middle, d, inr (m.reference, r, (refl, refl))))))
    go (suc (suc (suc (suc (suc (suc zero)))))) h = inr (n, s, inr (m.first, f, inr (m.last, l, inr (m.middle, d, inr (m.reference, r, inr (m.nanohertz, q, (refl, refl)))))))
    go (suc (suc (suc (suc (suc (suc (suc i))))))) h = absurd (omega (arith, h))
cut_map missing lines m j s few = absurd s

pub cut_misses : CutLeavesFew → (lines : List (List ℕ)) (m : KeyMap) (n : ℕ) → MapText lines m → n < seventh_field_line lines → MapFault (take n lines) (n + 1) MissingField
cut_misses leaves lines m n s before =
    let cut = leaves lines n 6 before in
    let P : List Numbered → Type 0 = λ ls. IsFault (n + 1) ls (n + 1) MissingField in
    let Q : ℕ → Type 0 = λ k. IsFault (k + 1) (content (take n lines)) (n + 1) MissingField in
    subst Q (sym cut.0) (subst P (sym cut.1.2) (cut_map (n + 1) (content lines) m cut.1.0 s cut.1.1))
