-- Costs and chains, filled in run by run.
use Rattle.std.proofs.Common.{◌≡◌, ◌<◌, ◌+◌, ◌*◌, ◌++◌, ℕ, zero, suc, List, [], ◌∷◌, Option, Some, None, nat_eq, length, map, set, get_or, take, sym, ap, ◌∙◌, subst, arith, inl, inr}
use Rattle.std.specs.List.{AllByRecursion, flat_map}
use Rattle.std.proofs.lemmas.Bool.{cases_eq, cond-true, cond-false, eq-eqb, eqb-true, false_from_ne_true}
use Rattle.std.proofs.lemmas.List.{length-append, append-nil, append_assoc, map-append, take_more, get_or-set_same, get_or-set_other}
use Rattle.std.proofs.lemmas.List.Concat.{flat_map-append}
use Rattle.least_replay.specs.Assignments.{last_on, before_on, chains_from}
use Rattle.least_replay.specs.Found.{Seen, no_run, seen_at}

pub row_step : (f : Seen → ℕ) (ss : List Seen) (i w : ℕ) (old cur new : List ℕ) → i < length ss → cur ≡ old ++ map f (take i ss) → new ≡ cur ++ w ∷ []
    → w ≡ f (seen_at ss i) → new ≡ old ++ map f (take (i + 1) ss)
row_step f ss i w old cur new l was is e =
    is ∙ ap (λ xs. xs ++ w ∷ []) was ∙ append_assoc old (map f (take i ss)) (w ∷ [])
    ∙ ap (λ xs. old ++ xs) (ap (λ x. map f (take i ss) ++ x ∷ []) e ∙ sym (map-append f (take i ss) (seen_at ss i ∷ []))
    ∙ ap (map f) (sym (take_more ss i no_run l)))

pub rows_step : (f : Seen → List ℕ) (ss : List Seen) (i : ℕ) (cur new : List ℕ) (r : Seen) → i < length ss → cur ≡ flat_map f (take i ss)
    → new ≡ cur ++ f r → r ≡ seen_at ss i → new ≡ flat_map f (take (i + 1) ss)
rows_step f ss i cur new r l was is e =
    is ∙ ap (λ xs. xs ++ f r) was ∙ ap (λ x. flat_map f (take i ss) ++ f x) e
    ∙ ap (λ xs. flat_map f (take i ss) ++ xs) (sym (append-nil (f (seen_at ss i))))
    ∙ sym (flat_map-append f (take i ss) (seen_at ss i ∷ []))
    ∙ ap (flat_map f) (sym (take_more ss i no_run l))

all_last : (P : Seen → Type 0) (xs : List Seen) (y : Seen) → AllByRecursion P xs → P y → AllByRecursion P (xs ++ y ∷ [])
all_last P [] y h p = (p, tt)
all_last P (x ∷ xs) y h p = (h.0, all_last P xs y h.1 p)

pub all_step : (P : Seen → Type 0) (ss : List Seen) (i : ℕ) (r : Seen) → i < length ss → AllByRecursion P (take i ss) → P r → r ≡ seen_at ss i
    → AllByRecursion P (take (i + 1) ss)
all_step P ss i r l h p e =
    subst (AllByRecursion P) (sym (take_more ss i no_run l)) (all_last P (take i ss) (seen_at ss i) h (subst P e p))

rows_long : (f : Seen → List ℕ) (n : ℕ) (rs : List Seen) → ((r : Seen) → length (f r) ≡ n) → length (flat_map f rs) ≡ length rs * n
rows_long f n [] long = omega arith
rows_long f n (r ∷ rs) long =
    let a = length-append (f r) (flat_map f rs) in
    let b = long r in
    let c = rows_long f n rs long in
    let d : suc (length rs) * n ≡ n + length rs * n = omega arith in
    omega (arith, a, b, c, d)

pub square : (f : Seen → List ℕ) (ss : List Seen) → ((r : Seen) → length (f r) ≡ length ss) → length (flat_map f ss) ≡ length ss * length ss
square f ss long = rows_long f (length ss) ss long

-- ---- chains

chains_more : (channel : ℕ → ℕ) (b n : ℕ) → chains_from channel b (suc n) ≡ chains_from channel b n ++ before_on channel (b + n) ∷ []
chains_more channel b zero = ap (λ i. before_on channel i ∷ []) (let e : b ≡ b + 0 = omega arith in e)
chains_more channel b (suc n) =
    ap (λ xs. before_on channel b ∷ xs) (chains_more channel (suc b) n
    ∙ ap (λ i. chains_from channel (suc b) n ++ before_on channel i ∷ []) (let e : suc b + n ≡ b + suc n = omega arith in e))

pub chains_step : (channel : ℕ → ℕ) (n m c : ℕ) (cur new : List (Option ℕ)) (last : List (Option ℕ)) → m ≡ suc n → cur ≡ chains_from channel 0 n
    → new ≡ cur ++ get_or last c None ∷ [] → c ≡ channel n → get_or last c None ≡ last_on channel c n → new ≡ chains_from channel 0 m
chains_step channel n m c cur new last e was is here told =
    is ∙ ap (λ xs. xs ++ get_or last c None ∷ []) was
    ∙ ap (λ x. chains_from channel 0 n ++ x ∷ []) (told ∙ ap (λ x. last_on channel x n) here
    ∙ ap (before_on channel) (let z : n ≡ 0 + n = omega arith in z))
    ∙ sym (chains_more channel 0 n) ∙ ap (chains_from channel 0) (sym e)

pub last_step : (channel : ℕ → ℕ) (n m c : ℕ) (last : List (Option ℕ)) → m ≡ suc n → c ≡ channel n → c < length last
    → ((d : ℕ) → d < 16 → get_or last d None ≡ last_on channel d n) → (d : ℕ) → d < 16
    → get_or (set last c (Some n)) d None ≡ last_on channel d m
last_step channel n m c last e here l was d low = elim (cases_eq d c) [
  | inl s ↦ ap (λ x. get_or (set last c (Some n)) x None) s ∙ get_or-set_same last c (Some n) None l
      ∙ sym (cond-true (nat_eq (channel n) d) (Some n) (last_on channel d n) (eq-eqb (channel n) d (sym here ∙ sym s)))
      ∙ ap (last_on channel d) (sym e)
  | inr s ↦ get_or-set_other last c d (Some n) None s ∙ was d low
      ∙ sym (cond-false (nat_eq (channel n) d) (Some n) (last_on channel d n)
      (false_from_ne_true (nat_eq (channel n) d) (λ h. s (sym (eqb-true (channel n) d h) ∙ sym here))))
      ∙ ap (last_on channel d) (sym e)
]
