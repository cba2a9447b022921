-- A tuning message, key by key: the value of a key looks at no other key's.
use Rattle.std.proofs.Common.{◌≡◌, ℕ, zero, suc, ◌+◌, ◌<◌, ◌≤◌, List, [], ◌∷◌, ◌&&◌, cond, if◌then◌else◌, Option, None, ap, sym, ◌∙◌, nat_eq, length, drop, get_or, replicate, arith, inl, inr}
use Rattle.std.specs.List.{AllByRecursion}
use Rattle.std.proofs.lemmas.Bool.{cases_lt}
use Rattle.std.proofs.lemmas.List.{at_drop_more, get_or-replicate, get_or_past, length-replicate}
use Rattle.midi_model.specs.Tuning.{renew, retuned}
use Rattle.midi_model.specs.TuningBytes.{numbered}

pub retuned_same : (program : ℕ) (xs : List (ℕ × Option ℕ)) (f g : ℕ → ℕ → Option ℕ) (p k : ℕ) → f p k ≡ g p k
    → retuned program xs f p k ≡ retuned program xs g p k
retuned_same program [] f g p k h = h
retuned_same program (x ∷ xs) f g p k h = retuned_same program xs _ _ p k (ap (λ o. cond (nat_eq p program && nat_eq k x.0) (renew x.1 o) o) h)

-- What is left of a list gives the same once its first change is made.
pub retuned_step : (program : ℕ) (x : ℕ × Option ℕ) (xs : List (ℕ × Option ℕ)) (now new : ℕ → ℕ → Option ℕ) (p k : ℕ)
    → new p k ≡ (if nat_eq p program && nat_eq k x.0 then renew x.1 (now p k) else now p k)
    → retuned program xs new p k ≡ retuned program (x ∷ xs) now p k
retuned_step program x xs now new p k h = retuned_same program xs new _ p k h

-- the same, where the list is one of changes, or the values of all keys
pub changes_step : (program : ℕ) (xs : List (ℕ × Option ℕ)) (i : ℕ) (d : ℕ × Option ℕ) (now new : ℕ → ℕ → Option ℕ) (p k : ℕ) → i < length xs
    → new p k ≡ (if nat_eq p program && nat_eq k (get_or xs i d).0 then renew (get_or xs i d).1 (now p k) else now p k)
    → retuned program (drop (i + 1) xs) new p k ≡ retuned program (drop i xs) now p k
changes_step program xs i d now new p k below h =
    retuned_step program (get_or xs i d) (drop (i + 1) xs) now new p k h
    ∙ sym (at_drop_more (λ ys. retuned program ys now p k) xs i d below)

pub dump_step : (program : ℕ) (vs : List (Option ℕ)) (i : ℕ) (d : Option ℕ) (now new : ℕ → ℕ → Option ℕ) (p k : ℕ) → i < length vs
    → new p k ≡ (if nat_eq p program && nat_eq k i then renew (get_or vs i d) (now p k) else now p k)
    → retuned program (numbered (i + 1) (drop (i + 1) vs)) new p k ≡ retuned program (numbered i (drop i vs)) now p k
dump_step program vs i d now new p k below h =
    retuned_step program (i, get_or vs i d) (numbered (i + 1) (drop (i + 1) vs)) now new p k h
    ∙ sym (at_drop_more (λ ys. retuned program (numbered i ys) now p k) vs i d below)

-- keys of changes are bytes of seven bits
pub key_below : (xs : List (ℕ × Option ℕ)) (i : ℕ) (d : ℕ × Option ℕ) → AllByRecursion (λ x. x.0 ≤ 127) xs → i < length xs → (get_or xs i d).0 < 128
key_below [] i d h below = absurd (omega (arith, below))
key_below (x ∷ xs) zero d h below = let k : x.0 ≤ 127 = h.0 in omega (arith, k)
key_below (x ∷ xs) (suc i) d h below = key_below xs i d h.1 (omega (arith, below))

-- where no program holds a value
pub no_value : (vs : List (Option ℕ)) (i : ℕ) → vs ≡ replicate 16384 None → get_or vs i None ≡ None
no_value vs i e = ap (λ xs. get_or xs i None) e ∙ elim (cases_lt i 16384) [
  | inl h ↦ get_or-replicate 16384 i None None h
  | inr h ↦ get_or_past (replicate 16384 nothing) i None (let n : length (replicate 16384 nothing) ≡ 16384 = length-replicate 16384 nothing in omega (arith, n, h))
]
  where
    nothing : Option ℕ
    nothing = None
