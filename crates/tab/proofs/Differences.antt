-- At how many places two lists differ, counted from difference to difference.
use Rattle.std.proofs.Common.{◌≡◌, ◌≢◌, ℕ, zero, suc, ◌≤◌, ◌+◌, ◌-◌, List, slice_index, length, sym, ◌∙◌, ap, arith, add-one, cond}
use Rattle.std.proofs.lemmas.Bool.{eq-eqb, ne_eqb}
use Rattle.std.proofs.lemmas.List.{ext_get_or}
use Rattle.tab.specs.Entries.{differs, differing, SameBetween, DifferAt}

no_step : (a b : ℕ) → a ≡ b → differs a b ≡ 0
no_step a b e = ap (λ t. cond t 0 1) (eq-eqb a b e)

one_step : (a b : ℕ) → a ≢ b → differs a b ≡ 1
one_step a b e = ap (λ t. cond t 0 1) (ne_eqb a b e)

-- places that are the same add nothing
flat : (one two : List ℕ) (i d : ℕ) → SameBetween i (i + d) one two → differing one two (i + d) ≡ differing one two i
flat one two i zero h = ap (differing one two) (omega arith)
flat one two i (suc d) h =
    let step : i + suc d ≡ suc (i + d) = omega arith in
    let last : differs (slice_index one (i + d)) (slice_index two (i + d)) ≡ 0 = no_step _ _ (h (i + d) (omega arith) (omega arith)) in
    let before : differing one two (i + d) ≡ differing one two i = flat one two i d (λ k low high. h k low (omega (arith, high))) in
    rw step (omega (arith, last, before))

pub same_count : (one two : List ℕ) (i n : ℕ) → i ≤ n → SameBetween i n one two → differing one two n ≡ differing one two i
same_count one two i n up h =
    let at : i + (n - i) ≡ n = omega (arith, up) in
    ap (differing one two) (sym at) ∙ flat one two i (n - i) (λ k low high. h k low (omega (arith, at, high)))

-- and the place of the next difference adds one
pub next_count : (one two : List ℕ) (i n : ℕ) → i ≤ n → SameBetween i n one two → DifferAt n one two → differing one two (n + 1) ≡ differing one two i + 1
next_count one two i n up h d =
    let before = same_count one two i n up h in
    let last = one_step (slice_index one n) (slice_index two n) d in
    rw (add-one n) (omega (arith, before, last))

-- lists of one length that differ nowhere are equal
pub equal : (n : ℕ) (one two : List ℕ) → length one ≡ n → length two ≡ n → SameBetween 0 n one two → one ≡ two
equal n one two a b h = ext_get_or 0 one two (a ∙ sym b) (λ i low. h i (omega arith) (omega (arith, a, low)))
