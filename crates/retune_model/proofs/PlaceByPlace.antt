-- Two lists agree pairwise exactly where they agree at every place.
use Rattle.std.proofs.Common.{ℕ, zero, suc, List, [], ◌∷◌}
use Rattle.retune_model.specs.PlaysTheSame.{Pairwise}
use Rattle.retune_model.specs.Places.{AgreeAt}

pub each_place : {A B : Type 0} (R : A → B → Type 0) (xs : List A) (ys : List B) → Pairwise R xs ys → (i : ℕ) → AgreeAt R xs ys i
each_place R [] [] h i = tt
each_place R [] (y ∷ ys) h i = absurd h
each_place R (x ∷ xs) [] h i = absurd h
each_place R (x ∷ xs) (y ∷ ys) h zero = h.0
each_place R (x ∷ xs) (y ∷ ys) h (suc i) = each_place R xs ys h.1 i

pub all_places : {A B : Type 0} (R : A → B → Type 0) (xs : List A) (ys : List B) → ((i : ℕ) → AgreeAt R xs ys i) → Pairwise R xs ys
all_places R [] [] h = tt
all_places R [] (y ∷ ys) h = h 0
all_places R (x ∷ xs) [] h = h 0
all_places R (x ∷ xs) (y ∷ ys) h = (h 0, all_places R xs ys (λ i. h (suc i)))

pub two_hold : {A B : Type 0} (R S T : A → B → Type 0) → ((a : A) (b : B) → R a b → S a b → T a b) → (xs : List A) (ys : List B) → Pairwise R xs ys → Pairwise S xs ys → Pairwise T xs ys
two_hold R S T f [] [] h k = tt
two_hold R S T f [] (y ∷ ys) h k = absurd h
two_hold R S T f (x ∷ xs) [] h k = absurd h
two_hold R S T f (x ∷ xs) (y ∷ ys) h k = (f x y h.0 k.0, two_hold R S T f xs ys h.1 k.1)
