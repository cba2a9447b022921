-- What is so of each element of a list, one after another.
use Rattle.std.proofs.Common.{◌≡◌, ◌≤◌, ◌<◌, ◌+◌, ℕ, zero, suc, List, [], ◌∷◌, length, map, take, drop, get_or, set, refl, ap, subst, arith}
use Rattle.std.specs.List.{AllByRecursion}

module _ {A : Type 0} where
  -- one more is done
  more : (P : A → Type 0) (ys : List A) (i : ℕ) (x : A) → i < length ys → AllByRecursion P (take i ys) → P x
      → AllByRecursion P (take (suc i) (set ys i x))
  more P [] i x l done p = absurd (omega (arith, l))
  more P (y ∷ ys) zero x l done p = (p, tt)
  more P (y ∷ ys) (suc i) x l done p = (done.0, more P ys i x (omega (arith, l)) done.1 p)

  pub each_more : (P : A → Type 0) (ys : List A) (i : ℕ) (x : A) → i < length ys → AllByRecursion P (take i ys) → P x
      → AllByRecursion P (take (i + 1) (set ys i x))
  each_more P ys i x l done p = (let e : suc i
      ≡ i + 1 = omega arith in subst (λ n. AllByRecursion P (take n (set ys i x))) e (more P ys i x l done p))

  -- none of those behind it is touched
  beyond : (xs ys : List A) (i : ℕ) (x : A) → i < length ys → length ys ≡ length xs → drop i ys ≡ drop i xs
      → drop (suc i) (set ys i x) ≡ drop (suc i) xs
  beyond xs [] i x l same behind = absurd (omega (arith, l))
  beyond [] (y ∷ ys) i x l same behind = absurd (omega (arith, same))
  beyond (z ∷ xs) (y ∷ ys) zero x l same behind = ap (drop 1) behind
  beyond (z ∷ xs) (y ∷ ys) (suc i) x l same behind = beyond xs ys i x (omega (arith, l)) (omega (arith, same)) behind

  pub behind_more : (xs ys : List A) (i : ℕ) (x : A) → i < length ys → length ys ≡ length xs → drop i ys ≡ drop i xs
      → drop (i + 1) (set ys i x) ≡ drop (i + 1) xs
  behind_more xs ys i x l same behind = (let e : suc i ≡ i + 1 = omega arith in subst (λ n. drop n (set ys i x)
      ≡ drop n xs) e (beyond xs ys i x l same behind))

  -- an element that is still to come is as it was
  pub get_behind : (xs ys : List A) (i : ℕ) (d : A) → i < length ys → length ys ≡ length xs → drop i ys ≡ drop i xs → get_or ys i d ≡ get_or xs i d
  get_behind xs [] i d l same behind = absurd (omega (arith, l))
  get_behind [] (y ∷ ys) i d l same behind = absurd (omega (arith, same))
  get_behind (z ∷ xs) (y ∷ ys) zero d l same behind = ap (λ zs. get_or zs 0 d) behind
  get_behind (z ∷ xs) (y ∷ ys) (suc i) d l same behind = get_behind xs ys i d (omega (arith, l)) (omega (arith, same)) behind

  pub each_at : (P : A → Type 0) (xs : List A) (i : ℕ) (d : A) → i < length xs → AllByRecursion P xs → P (get_or xs i d)
  each_at P [] i d l all = absurd (omega (arith, l))
  each_at P (x ∷ xs) zero d l all = all.0
  each_at P (x ∷ xs) (suc i) d l all = each_at P xs i d (omega (arith, l)) all.1

  -- once all are done
  pub each_done : (P : A → Type 0) (xs : List A) (i : ℕ) → length xs ≤ i → AllByRecursion P (take i xs) → AllByRecursion P xs
  each_done P [] i l done = tt
  each_done P (x ∷ xs) zero l done = absurd (omega (arith, l))
  each_done P (x ∷ xs) (suc i) l done = (done.0, each_done P xs i (omega (arith, l)) done.1)

  pub each_map : (P Q : A → Type 0) (xs : List A) → ((x : A) → P x → Q x) → AllByRecursion P xs → AllByRecursion Q xs
  each_map P Q [] f all = tt
  each_map P Q (x ∷ xs) f all = (f x all.0, each_map P Q xs f all.1)

  -- what a map tells is as before
  pub map_same : {B : Type 0} (f : A → B) (ys : List A) (i : ℕ) (x d : A) → i < length ys → f x ≡ f (get_or ys i d) → map f (set ys i x) ≡ map f ys
  map_same f [] i x d l e = refl
  map_same f (y ∷ ys) zero x d l e = ap (λ z. z ∷ map f ys) e
  map_same f (y ∷ ys) (suc i) x d l e = ap (λ zs. f y ∷ zs) (map_same f ys i x d (omega (arith, l)) e)

  -- an element is the same, whatever stands beyond the end
  pub get_any : (xs : List A) (i : ℕ) (d e : A) → i < length xs → get_or xs i d ≡ get_or xs i e
  get_any [] i d e l = absurd (omega (arith, l))
  get_any (x ∷ xs) zero d e l = refl
  get_any (x ∷ xs) (suc i) d e l = get_any xs i d e (omega (arith, l))
