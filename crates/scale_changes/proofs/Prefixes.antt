-- Parts of a text, by what stands at its start.
use Rattle.std.proofs.Common.{◌≡◌, ℕ, ◌-◌, ◌≤◌, List, ◌++◌, length, take, Bool, sym, ap, ◌∙◌, arith}
use Rattle.std.proofs.lemmas.List.{take_at, length-append}
use Rattle.scala_lines.specs.Characters.{prefix, behind}
use Rattle.scala_lines.specs.Laws.{ArePrefixes}

pub behind_short : ArePrefixes → (p : ℕ → Bool) (bs : List ℕ) → length (behind p bs) ≤ length bs
behind_short laws p bs = let e : length (prefix p bs ++ behind p bs) ≡ length bs = ap length (laws.whole p bs) in
    omega (arith, e, length-append (prefix p bs) (behind p bs))

pub take_prefix : ArePrefixes → (p : ℕ → Bool) (bs : List ℕ) → take (length bs - length (behind p bs)) bs ≡ prefix p bs
take_prefix laws p bs =
    let e : length (prefix p bs ++ behind p bs) ≡ length bs = ap length (laws.whole p bs) in
    let n : length (prefix p bs) ≡ length bs - length (behind p bs) = omega (arith, e, length-append (prefix p bs) (behind p bs)) in
    ap (λ r. take (length bs - length (behind p bs)) r) (sym (laws.whole p bs)) ∙ take_at (prefix p bs) (behind p bs) (length bs - length (behind p bs)) n
