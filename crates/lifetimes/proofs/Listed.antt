-- Whether some note of a list passes a test, by places.
use Rattle.std.proofs.Common.{◌≡◌, ◌<◌, ℕ, zero, suc, List, [], ◌∷◌, Bool, true, false, ◌||◌, length, get_or, refl, arith}
use Rattle.std.specs.List.{list_any}
use Rattle.std.proofs.lemmas.Bool.{or_from}
use Rattle.lifetimes.specs.declared.notes.Sounding.{Sounding}
use Rattle.lifetimes.specs.Lists.{no_note}

pub none_is : (p : Sounding → Bool) (xs : List Sounding) → ((k : ℕ) → k < length xs → p (get_or xs k no_note) ≡ false) → list_any p xs ≡ false
none_is p [] none = refl
none_is p (x ∷ xs) none = or_from (p x) (list_any p xs) (none zero (omega arith)) (none_is p xs (λ k within. none (suc k) (omega (arith, within))))

pub some_is : (p : Sounding → Bool) (xs : List Sounding) → list_any p xs ≡ true → (k : ℕ) × (k < length xs) × (p (get_or xs k no_note) ≡ true)
some_is p [] h = absurd cc
some_is p (x ∷ xs) h = pick (p x) refl h (some_is p xs)
  where
    pick : (b : Bool) → p x ≡ b → (b || list_any p xs) ≡ true → (list_any p xs ≡ true → (k : ℕ) × (k < length xs) × (p (get_or xs k no_note) ≡ true))
        → (k : ℕ) × (k < length (x ∷ xs)) × (p (get_or (x ∷ xs) k no_note) ≡ true)
    pick true e h behind = (zero, omega arith, e)
    pick false e h behind = (let r = behind h in (suc r.0, (let low = r.1 in omega (arith, low)), r.2))
