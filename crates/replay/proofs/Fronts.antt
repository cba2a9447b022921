-- The first messages of a list that grows.
use Rattle.std.proofs.Common.{◌≡◌, ℕ, ◌≤◌, ◌<◌, List, [], ◌∷◌, ◌++◌, ap, sym, ◌∙◌, arith, length, take, min, subst, length-append}
use Rattle.std.proofs.lemmas.List.{take_all, length-take, take-append-le}
use Rattle.mt_base.specs.declared.event.Msg.{Msg}

-- a message that there is room for
pub put_in : (n : ℕ) (items ms : List Msg) (m : Msg) → items ≡ take n ms → length items < n
    → items ++ m ∷ [] ≡ take n (ms ++ m ∷ [])
put_in n items ms m e h =
    let sized : length (take n ms) ≡ min n (length ms) = length-take n ms in
    let low : length ms < n = short (length ms) (subst (λ (k : ℕ). k < n) (ap length e ∙ sized) h) in
    ap (λ l. l ++ m ∷ []) (e ∙ take_all n ms (omega (arith, low)))
    ∙ sym (take_all n (ms ++ m ∷ []) (omega (arith, length-append ms (m ∷ []), low)))
  where
    short : (k : ℕ) → min n k < n → k < n
    short k l = omega (arith, l)

-- one that there is none for
pub put_past : (n : ℕ) (items ms : List Msg) (m : Msg) → items ≡ take n ms → n ≤ length items → items ≡ take n (ms ++ m ∷ [])
put_past n items ms m e h =
    let sized : length (take n ms) ≡ min n (length ms) = length-take n ms in
    let low : n ≤ length ms = long (length ms) (subst (λ (k : ℕ). n ≤ k) (ap length e ∙ sized) h) in
    e ∙ sym (take-append-le n ms (m ∷ []) low)
  where
    long : (k : ℕ) → n ≤ min n k → n ≤ k
    long k l = omega (arith, l)
