-- A pair put into a list at its place.
use Rattle.std.proofs.Common.{◌≡◌, ◌≤◌, ◌<◌, ◌⊎◌, ℕ, Bool, true, false, ◌||◌, List, [], ◌∷◌, length, map, slice_index_or, refl, ap, suc, cond, arith, inl, inr}
use Rattle.std.specs.List.{insert}
use Rattle.std.proofs.lemmas.Bool.{both_ways}
use Rattle.mt_base.specs.declared.pair.Pair.{Pair as Packed}
use Rattle.retune_model.specs.Pairs.{Pair, is_before, is_same_pair, with_pair}
use Rattle.lifetimes.specs.Views.{pair_of}
use Rattle.channel_plan.specs.Counts.{place_in}

-- no pair of a list stands at a place before which it goes: it isn't there, or it goes before the one that is
abbrev pub IsNew : Pair → List Packed → ℕ → Type 0
IsNew p xs i = (length xs ≤ i) ⊎ ((d : Packed) × (is_before p (pair_of (slice_index_or xs i d)) ≡ true))

pub put_new : (p : Pair) (x : Packed) → pair_of x ≡ p → (xs : List Packed) → IsNew p xs (place_in p (map pair_of xs)) → map pair_of (insert xs (place_in p (map pair_of xs)) x) ≡ with_pair p (map pair_of xs)
put_new p x e [] new = ap (λ y. y ∷ []) e
put_new p x e (q ∷ qs) new = pick (λ is. put_new p x e qs is) (is_before p (pair_of q)) (is_same_pair p (pair_of q)) refl refl new
  where
    rest : List Pair
    rest = map pair_of qs

    deeper : IsNew p (q ∷ qs) (suc (place_in p rest)) → IsNew p qs (place_in p rest)
    deeper (inl l) = inl (omega (arith, l))
    deeper (inr b) = inr b

    pick : (IsNew p qs (place_in p rest) → map pair_of (insert qs (place_in p rest) x) ≡ with_pair p rest) → (a b : Bool) → is_before p (pair_of q) ≡ a → is_same_pair p (pair_of q) ≡ b → IsNew p (q ∷ qs) (cond (a || b) 0 (suc (place_in p rest)))
        → map pair_of (insert (q ∷ qs) (cond (a || b) 0 (suc (place_in p rest))) x) ≡ cond a (p ∷ pair_of q ∷ rest) (cond b (pair_of q ∷ rest) (pair_of q ∷ with_pair p rest))
    pick later true b f g is = ap (λ y. y ∷ pair_of q ∷ rest) e
    pick later false true f g (inl l) = absurd (omega (arith, l))
    pick later false true f g (inr h) = absurd (both_ways (is_before p (pair_of q)) f h.1)
    pick later false false f g is = ap (λ ys. pair_of q ∷ ys) (later (deeper is))

-- or it is there
pub put_known : (p : Pair) (d : Packed) (xs : List Packed) → place_in p (map pair_of xs) < length xs → is_before p (pair_of (slice_index_or xs (place_in p (map pair_of xs)) d)) ≡ false → map pair_of xs ≡ with_pair p (map pair_of xs)
put_known p d [] l h = absurd (omega (arith, l))
put_known p d (q ∷ qs) l h = pick (λ l h. put_known p d qs l h) (is_before p (pair_of q)) (is_same_pair p (pair_of q)) refl refl l h
  where
    rest : List Pair
    rest = map pair_of qs

    pick : (place_in p rest < length qs → is_before p (pair_of (slice_index_or qs (place_in p rest) d)) ≡ false → rest ≡ with_pair p rest)
        → (a b : Bool) → is_before p (pair_of q) ≡ a → is_same_pair p (pair_of q) ≡ b → cond (a || b) 0 (suc (place_in p rest)) < suc (length qs)
        → is_before p (pair_of (slice_index_or (q ∷ qs) (cond (a || b) 0 (suc (place_in p rest))) d)) ≡ false
        → pair_of q ∷ rest ≡ cond a (p ∷ pair_of q ∷ rest) (cond b (pair_of q ∷ rest) (pair_of q ∷ with_pair p rest))
    pick later true b f g l h = absurd (both_ways (is_before p (pair_of q)) h f)
    pick later false true f g l h = refl
    pick later false false f g l h = ap (λ ys. pair_of q ∷ ys) (later (omega (arith, l)) h)
