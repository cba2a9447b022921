-- Lists that a loop goes through: the kept elements are moved forward, or each is changed where it stands.
use Rattle.std.proofs.Common.{◌≡◌, ◌∙◌, ◌≤◌, ◌<◌, ◌++◌, ◌+◌, ℕ, zero, suc, ℤ, pos, negsuc, Bool, true, false, cond, ◌||◌, nat_eq, List, [], ◌∷◌, map, filter, length, get_or, take, drop, set, refl, sym, ap, subst, arith}
use Rattle.std.specs.List.{AllByRecursion}
use Rattle.std.specs.Set.{is_member}
use Rattle.std.proofs.Math.Seq.{take-length}
use Rattle.std.proofs.lemmas.List.{drop_more, take_more, take_more_set, map-append}
use Rattle.std.proofs.lemmas.Bool.{eq-eqb}
use Rattle.std.proofs.lemmas.List.Elements.{filter-append}
use Rattle.mt_base.specs.declared.pair.Pair.{Pair as Packed}
use Rattle.retune_model.specs.Pairs.{Pair, is_same_pair}
use Rattle.retune_model.specs.Faults.{int_eq}
use Rattle.lifetimes.specs.Views.{pair_of}

module _ {X : Type 0} where
  -- an element at a place from which on two lists agree
  pub same_at : (xs old : List X) (i : ℕ) (d : X) → i < length xs → length xs ≡ length old → drop i xs ≡ drop i old → get_or old i d ≡ get_or xs i d
  same_at xs old i d low long rest =
      ap (λ l. get_or l 0 d) (sym (drop_more old i d (omega (arith, low, long))) ∙ sym rest ∙ drop_more xs i d low)

  -- and one place further
  pub rest_next : (xs old : List X) (i : ℕ) (x : X) → i < length xs → length xs ≡ length old → drop i xs ≡ drop i old
      → drop (i + 1) xs ≡ drop (i + 1) old
  rest_next xs old i x low long rest =
      ap (λ l. drop 1 l) (sym (drop_more xs i x low) ∙ rest ∙ drop_more old i x (omega (arith, low, long)))

  pub all_at : (P : X → Type 0) (xs : List X) (i : ℕ) (d : X) → i < length xs → AllByRecursion P xs → P (get_or xs i d)
  all_at P [] i d low h = absurd (omega (arith, low))
  all_at P (x ∷ xs) zero d low h = h.0
  all_at P (x ∷ xs) (suc i) d low h = all_at P xs i d (omega (arith, low)) h.1

  pub all_both : (P : X → Type 0) (xs ys : List X) → AllByRecursion P xs → AllByRecursion P ys → AllByRecursion P (xs ++ ys)
  all_both P [] ys h k = k
  all_both P (x ∷ xs) ys h k = (h.0, all_both P xs ys h.1 k)

  -- one more is as it is to be
  pub done_next : (P : X → Type 0) (xs : List X) (i : ℕ) (y : X) → i < length xs → P y → AllByRecursion P (take i xs)
      → AllByRecursion P (take (i + 1) (set xs i y))
  done_next P xs i y low h done =
      subst (AllByRecursion P) (sym (take_more_set xs i y low)) (all_both P (take i xs) (y ∷ []) done (h, tt))

  -- all are, at the end
  pub all_done : (P : X → Type 0) (xs : List X) (i : ℕ) → i ≤ length xs → length xs ≤ i → AllByRecursion P (take i xs) → AllByRecursion P xs
  all_done P xs i low high done =
      subst (AllByRecursion P) (ap (λ j. take j xs) (let same : i ≡ length xs = omega (arith, low, high) in same) ∙ take-length xs) done

-- ---- pairs among others

pub or_true : (b : Bool) → (b || true) ≡ true
or_true true = refl
or_true false = refl

same_number : (n : ℕ) → nat_eq n n ≡ true
same_number n = eq-eqb n n refl

same_int : (q : ℤ) → int_eq q q ≡ true
same_int (pos n) = same_number n
same_int (negsuc n) = same_number n

same_pair : (p : Pair) → is_same_pair p p ≡ true
same_pair p = rw (same_number p.part.port, same_number p.part.channel, same_int p.steps) refl

pub there_at : (xs : List Packed) (i : ℕ) (x : Packed) → i < length xs → x ≡ get_or xs i x
    → is_member is_same_pair (map pair_of xs) (pair_of x) ≡ true
there_at [] i x low is = absurd (omega (arith, low))
there_at (y ∷ xs) zero x low is =
    ap (λ z. is_same_pair (pair_of x) (pair_of z) || is_member is_same_pair (map pair_of xs) (pair_of x)) (sym is)
    ∙ ap (λ b. b || is_member is_same_pair (map pair_of xs) (pair_of x)) (same_pair (pair_of x))
there_at (y ∷ xs) (suc i) x low is =
    ap (λ b. is_same_pair (pair_of x) (pair_of y) || b) (there_at xs i x (omega (arith, low)) is) ∙ or_true (is_same_pair (pair_of x) (pair_of y))

-- where all pass, all are kept
pub all_pass : (f : Pair → Bool) (ps : List Pair) → ((p : Pair) → is_member is_same_pair ps p ≡ true → f p ≡ true) → filter f ps ≡ ps
all_pass f [] pass = refl
all_pass f (p ∷ ps) pass =
    ap (λ b. cond b (p ∷ filter f ps) (filter f ps)) (pass p (ap (λ b. b || is_member is_same_pair ps p) (same_pair p)))
    ∙ ap (λ l. p ∷ l) (all_pass f ps (λ q among. pass q (ap (λ b. is_same_pair q p || b) among ∙ or_true (is_same_pair q p))))

-- ---- pairs that pass a test are moved forward

module _ (f : Pair → Bool) (xs old : List Packed) (x : Packed) (w r : ℕ) (low : r < length xs) (few : w ≤ r) (long : length xs ≡ length old)
    (rest : drop r xs ≡ drop r old) (is : x ≡ get_or xs r x) (kept : map pair_of (take w xs) ≡ filter f (map pair_of (take r old))) where
  with_next : filter f (map pair_of (take (r + 1) old)) ≡ filter f (map pair_of (take r old)) ++ filter f (pair_of x ∷ [])
  with_next =
      ap (λ l. filter f (map pair_of l)) (take_more old r x (omega (arith, low, long)))
      ∙ ap (λ y. filter f (map pair_of (take r old ++ y ∷ []))) (same_at xs old r x low long rest ∙ sym is)
      ∙ ap (filter f) (map-append pair_of (take r old) (x ∷ []))
      ∙ filter-append f (map pair_of (take r old)) (pair_of x ∷ [])

  pub one_kept : f (pair_of x) ≡ true → map pair_of (take (w + 1) (set xs w x)) ≡ filter f (map pair_of (take (r + 1) old))
  one_kept told =
      ap (map pair_of) (take_more_set xs w x (omega (arith, few, low)))
      ∙ map-append pair_of (take w xs) (x ∷ [])
      ∙ ap (λ l. l ++ pair_of x ∷ []) kept
      ∙ ap (λ b. filter f (map pair_of (take r old)) ++ cond b (pair_of x ∷ []) []) (sym told)
      ∙ sym with_next

  pub one_left : f (pair_of x) ≡ false → map pair_of (take w xs) ≡ filter f (map pair_of (take (r + 1) old))
  one_left told =
      kept ∙ none (filter f (map pair_of (take r old)))
      ∙ ap (λ b. filter f (map pair_of (take r old)) ++ cond b (pair_of x ∷ []) []) (sym told)
      ∙ sym with_next
    where
      none : (l : List Pair) → l ≡ l ++ []
      none [] = refl
      none (y ∷ l) = ap (λ m. y ∷ m) (none l)
