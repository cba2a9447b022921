-- What stands at the start of a list, and behind it.
use Rattle.std.proofs.Common.{◌≡◌, ℕ, ◌-◌, ◌≤◌, List, [], ◌∷◌, ◌++◌, length, take, Bool, true, false, cond, refl, sym, ap, ◌∙◌, arith}
use Rattle.std.proofs.lemmas.List.{take_at, length-append}
use Rattle.scala_lines.specs.Characters.{prefix, behind, Are, StopsAt}

-- the two parts are the whole
pub prefix_behind : (p : ℕ → Bool) (bs : List ℕ) → prefix p bs ++ behind p bs ≡ bs
prefix_behind p [] = refl
prefix_behind p (b ∷ bs) = elim (p b) as (λ t. cond t (b ∷ prefix p bs) [] ++ cond t (behind p bs) (b ∷ bs) ≡ b ∷ bs)
    [ true ↦ ap (λ r. b ∷ r) (prefix_behind p bs) | false ↦ refl ]

pub behind_short : (p : ℕ → Bool) (bs : List ℕ) → length (behind p bs) ≤ length bs
behind_short p bs = let e : length (prefix p bs ++ behind p bs) ≡ length bs = ap length (prefix_behind p bs) in
    omega (arith, e, length-append (prefix p bs) (behind p bs))

pub take_prefix : (p : ℕ → Bool) (bs : List ℕ) → take (length bs - length (behind p bs)) bs ≡ prefix p bs
take_prefix p bs =
    let e : length (prefix p bs ++ behind p bs) ≡ length bs = ap length (prefix_behind p bs) in
    let n : length (prefix p bs) ≡ length bs - length (behind p bs) = omega (arith, e, length-append (prefix p bs) (behind p bs)) in
    ap (λ r. take (length bs - length (behind p bs)) r) (sym (prefix_behind p bs)) ∙ take_at (prefix p bs) (behind p bs) (length bs - length (behind p bs)) n

-- the front passes the test, and what stands behind it doesn't go on with it
pub prefix_are : (p : ℕ → Bool) (bs : List ℕ) → Are p (prefix p bs)
prefix_are p [] = tt
prefix_are p (b ∷ bs) = elim (p b) as (λ t. p b ≡ t → Are p (cond t (b ∷ prefix p bs) []))
    [ true ↦ λ e. (e, prefix_are p bs) | false ↦ λ e. tt ] refl

pub behind_stops : (p : ℕ → Bool) (bs : List ℕ) → StopsAt p (behind p bs)
behind_stops p [] = tt
behind_stops p (b ∷ bs) = elim (p b) as (λ t. p b ≡ t → StopsAt p (cond t (behind p bs) (b ∷ bs)))
    [ true ↦ λ e. behind_stops p bs | false ↦ λ e. e ] refl

-- where one part passes and the other doesn't go on, they are the two parts
stopped_prefix : (p : ℕ → Bool) (rest : List ℕ) → StopsAt p rest → prefix p rest ≡ []
stopped_prefix p [] s = refl
stopped_prefix p (b ∷ bs) s = rw s refl

stopped_behind : (p : ℕ → Bool) (rest : List ℕ) → StopsAt p rest → behind p rest ≡ rest
stopped_behind p [] s = refl
stopped_behind p (b ∷ bs) s = rw s refl

pub prefix_at : (p : ℕ → Bool) (xs rest : List ℕ) → Are p xs → StopsAt p rest → prefix p (xs ++ rest) ≡ xs
prefix_at p [] rest a s = stopped_prefix p rest s
prefix_at p (x ∷ xs) rest a s = rw a.0 (ap (λ r. x ∷ r) (prefix_at p xs rest a.1 s))

pub behind_at : (p : ℕ → Bool) (xs rest : List ℕ) → Are p xs → StopsAt p rest → behind p (xs ++ rest) ≡ rest
behind_at p [] rest a s = stopped_behind p rest s
behind_at p (x ∷ xs) rest a s = rw a.0 (behind_at p xs rest a.1 s)
