-- A table that is filled key by key.
use Rattle.std.proofs.Common.{◌≡◌, ◌≢◌, ℕ, ◌+◌, ◌<◌, pos, arith, sym, subst, List, length, get_or, set, Option, None}
use Rattle.std.proofs.lemmas.Int.{ints, by_lt_z}
use Rattle.std.proofs.lemmas.List.{get_or-set_same, get_or-set_other, get_or_past}
use Rattle.mt_base.specs.declared.Bracket.{Bracket}
use Rattle.scl_text.specs.declared.entry.Entry.{Entry}
use Rattle.kbm_text.specs.Map.{KeyMap}
use Rattle.key_pitch.specs.Tables.{IsNarrow, AreNarrow, IsKeyBound}
use Rattle.key_pitch.proofs.Few.{none_narrow}

pub filled : (scale : List Entry) (m : KeyMap) (ps : List (Option Bracket)) (k : ℕ) (p : Option Bracket) → k < length ps → ((j : ℕ) → j < k → IsKeyBound scale m j (get_or ps j None)) → IsKeyBound scale m k p → (j : ℕ) → j < k + 1 → IsKeyBound scale m j (get_or (set ps k p) j None)
filled scale m ps k p within made h j below =
    by_lt_z (pos j) (pos k)
    (λ l. let lt : j < k = omega (arith, ints) in let ne : j ≢ k = omega arith in subst (λ q. IsKeyBound scale m j q) (sym (get_or-set_other ps k j p None ne)) (made j lt))
    (λ l. let e : j ≡ k = omega (arith, ints) in subst (λ i. IsKeyBound scale m i (get_or (set ps k p) i None)) (sym e) (subst (λ q. IsKeyBound scale m k q) (sym (get_or-set_same ps k p None within)) h))

pub all_narrow : (scale : List Entry) (m : KeyMap) (ps : List (Option Bracket)) → length ps ≡ 128 → ((j : ℕ) → j < 128 → IsKeyBound scale m j (get_or ps j None)) → AreNarrow ps
all_narrow scale m ps size made = record {
  each = λ k. by_lt_z (pos k) (pos 128)
      (λ l. (made k (omega (arith, ints))).narrow)
      (λ l. subst (λ q. IsNarrow q) (sym (get_or_past ps k None (omega (arith, ints, size)))) none_narrow);
}
