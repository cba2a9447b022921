-- On lists, element by element.
use Rattle.std.proofs.Common.{◌≡◌, List, [], ◌∷◌, ◌++◌, refl, ap, ◌∙◌, map}
use Rattle.std.specs.List.{AllByRecursion}
use Rattle.retune_model.specs.PlaysTheSame.{Pairwise}

pub all_weaker : {A : Type 0} (P Q : A → Type 0) → ((x : A) → P x → Q x) → (xs : List A) → AllByRecursion P xs → AllByRecursion Q xs
all_weaker P Q f [] h = tt
all_weaker P Q f (x ∷ xs) h = (f x h.0, all_weaker P Q f xs h.1)

pub all_always : {A : Type 0} (P : A → Type 0) → ((x : A) → P x) → (xs : List A) → AllByRecursion P xs
all_always P f [] = tt
all_always P f (x ∷ xs) = (f x, all_always P f xs)

pub all_append : {A : Type 0} (P : A → Type 0) (xs ys : List A) → AllByRecursion P xs → AllByRecursion P ys → AllByRecursion P (xs ++ ys)
all_append P [] ys h k = k
all_append P (x ∷ xs) ys h k = (h.0, all_append P xs ys h.1 k)

pub all_mapped : {A B : Type 0} (P : B → Type 0) (f : A → B) (Q : A → Type 0) → ((x : A) → Q x → P (f x)) → (xs : List A) → AllByRecursion Q xs →
    AllByRecursion P (map f xs)
all_mapped P f Q h [] q = tt
all_mapped P f Q h (x ∷ xs) q = (h x q.0, all_mapped P f Q h xs q.1)

pub map_map : {A B C : Type 0} (f : B → C) (g : A → B) (xs : List A) → map f (map g xs) ≡ map (λ x. f (g x)) xs
map_map f g [] = refl
map_map f g (x ∷ xs) = ap (λ ys. f (g x) ∷ ys) (map_map f g xs)

pub map_same : {A : Type 0} (f : A → A) → ((x : A) → f x ≡ x) → (xs : List A) → map f xs ≡ xs
map_same f h [] = refl
map_same f h (x ∷ xs) = ap (λ y. y ∷ map f xs) (h x) ∙ ap (λ ys. x ∷ ys) (map_same f h xs)

pub map_alike : {A B : Type 0} (f g : A → B) → ((x : A) → f x ≡ g x) → (xs : List A) → map f xs ≡ map g xs
map_alike f g h [] = refl
map_alike f g h (x ∷ xs) = ap (λ y. y ∷ map f xs) (h x) ∙ ap (λ ys. g x ∷ ys) (map_alike f g h xs)

pub map_append : {A B : Type 0} (f : A → B) (xs ys : List A) → map f (xs ++ ys) ≡ map f xs ++ map f ys
map_append f [] ys = refl
map_append f (x ∷ xs) ys = ap (λ zs. f x ∷ zs) (map_append f xs ys)

-- ---- two lists

pub pair_weaker : {A B : Type 0} (R S : A → B → Type 0) → ((a : A) (b : B) → R a b → S a b) → (xs : List A) (ys : List B) → Pairwise R xs ys →
    Pairwise S xs ys
pair_weaker R S f [] [] h = tt
pair_weaker R S f [] (y ∷ ys) h = absurd h
pair_weaker R S f (x ∷ xs) [] h = absurd h
pair_weaker R S f (x ∷ xs) (y ∷ ys) h = (f x y h.0, pair_weaker R S f xs ys h.1)

pub pair_map : {A B : Type 0} (R S : A → B → Type 0) (f : A → A) (g : B → B) → ((a : A) (b : B) → R a b → S (f a) (g b)) → (xs : List A)
    (ys : List B) → Pairwise R xs ys → Pairwise S (map f xs) (map g ys)
pair_map R S f g h [] [] r = tt
pair_map R S f g h [] (y ∷ ys) r = absurd r
pair_map R S f g h (x ∷ xs) [] r = absurd r
pair_map R S f g h (x ∷ xs) (y ∷ ys) r = (h x y r.0, pair_map R S f g h xs ys r.1)

-- with what holds of each element of the first list, and of the second
pub pair_along : {A B : Type 0} (R : A → B → Type 0) (P : A → Type 0) (xs : List A) (ys : List B) → Pairwise R xs ys → AllByRecursion P xs →
    Pairwise (λ a b. R a b × P a) xs ys
pair_along R P [] [] r p = tt
pair_along R P [] (y ∷ ys) r p = absurd r
pair_along R P (x ∷ xs) [] r p = absurd r
pair_along R P (x ∷ xs) (y ∷ ys) r p = ((r.0, p.0), pair_along R P xs ys r.1 p.1)

pub pair_append : {A B : Type 0} (R : A → B → Type 0) (xs us : List A) (ys vs : List B) → Pairwise R xs ys → Pairwise R us vs →
    Pairwise R (xs ++ us) (ys ++ vs)
pair_append R [] us [] vs h k = k
pair_append R [] us (y ∷ ys) vs h k = absurd h
pair_append R (x ∷ xs) us [] vs h k = absurd h
pair_append R (x ∷ xs) us (y ∷ ys) vs h k = (h.0, pair_append R xs us ys vs h.1 k)

-- what holds of each second element, from what relates it to a first
pub pair_second : {A B : Type 0} (R : A → B → Type 0) (Q : B → Type 0) → ((a : A) (b : B) → R a b → Q b) → (xs : List A) (ys : List B) →
    Pairwise R xs ys → AllByRecursion Q ys
pair_second R Q f [] [] h = tt
pair_second R Q f [] (y ∷ ys) h = absurd h
pair_second R Q f (x ∷ xs) [] h = absurd h
pair_second R Q f (x ∷ xs) (y ∷ ys) h = (f x y h.0, pair_second R Q f xs ys h.1)

pub all_both : {A : Type 0} (P Q : A → Type 0) (xs : List A) → AllByRecursion P xs → AllByRecursion Q xs → AllByRecursion (λ x. P x × Q x) xs
all_both P Q [] h k = tt
all_both P Q (x ∷ xs) h k = ((h.0, k.0), all_both P Q xs h.1 k.1)

pub pair_with_second : {A B : Type 0} (R : A → B → Type 0) (Q : B → Type 0) (xs : List A) (ys : List B) → Pairwise R xs ys → AllByRecursion Q ys →
    Pairwise (λ a b. R a b × Q b) xs ys
pair_with_second R Q [] [] r q = tt
pair_with_second R Q [] (y ∷ ys) r q = absurd r
pair_with_second R Q (x ∷ xs) [] r q = absurd r
pair_with_second R Q (x ∷ xs) (y ∷ ys) r q = ((r.0, q.0), pair_with_second R Q xs ys r.1 q.1)

pub pair_first : {A B : Type 0} (R : A → B → Type 0) (P : A → Type 0) → ((a : A) (b : B) → R a b → P a) → (xs : List A) (ys : List B) →
    Pairwise R xs ys → AllByRecursion P xs
pair_first R P f [] [] h = tt
pair_first R P f [] (y ∷ ys) h = absurd h
pair_first R P f (x ∷ xs) [] h = absurd h
pair_first R P f (x ∷ xs) (y ∷ ys) h = (f x y h.0, pair_first R P f xs ys h.1)

-- where f changes none
pub map_kept : {A : Type 0} (f : A → A) (xs : List A) → AllByRecursion (λ x. f x ≡ x) xs → map f xs ≡ xs
map_kept f [] h = refl
map_kept f (x ∷ xs) h = ap (λ y. y ∷ map f xs) h.0 ∙ ap (λ ys. x ∷ ys) (map_kept f xs h.1)
