-- A note begins in the list of its part, or ends there.
use Rattle.std.proofs.Common.{◌≡◌, ◌≢◌, ◌<◌, ◌≤◌, ◌∙◌, ℕ, zero, suc, List, [], ◌∷◌, Bool, true, false, cond, ◌&&◌, ◌||◌, nat_eq, length, map, get_or, set, refl, sym, ap, subst, arith, inl, inr, Some}
use Rattle.std.specs.Prelude.{slice_get}
use Rattle.std.specs.List.{AllByRecursion, IsDistinct, list_any, insert, remove}
use Rattle.std.proofs.lemmas.Int.{ints}
use Rattle.std.proofs.lemmas.Bool.{cases_lt, cases_Bool, both_ways, or_cases, or_from, or_left, and_right, eqb-true, ne_eqb}
use Rattle.std.proofs.lemmas.Bool.Decides.{eqb_tells}
use Rattle.std.proofs.lemmas.Option.{slice_get-get_or, slice_get_within, get_or_from_slice_get}
use Rattle.std.proofs.lemmas.List.{get_or-set_same, get_or-set_other, length-map}
use Rattle.std.proofs.lemmas.List.Folds.{list_any_at}
use Rattle.std.proofs.lemmas.Map.Keys.{IsDistinct-cons}
use Rattle.std.proofs.lemmas.Map.Steps.{length-le_from_distinct_below}
use Rattle.retune_model.specs.Faults.{int_eq}
use Rattle.lifetimes.specs.declared.notes.Sounding.{Sounding}
use Rattle.lifetimes.specs.declared.notes.Struck.{Struck}
use Rattle.lifetimes.specs.Lists.{ListsSounding, AreInTurn, IsPlaceIn, comes_before, entry_of, entry_at, struck_at, unstruck, is_same, is_listed, no_note}
use Rattle.lifetimes.proofs.Turns.{then_before, or_same}
use Rattle.lifetimes.proofs.Listed.{none_is, some_is}
use Rattle.lifetimes.proofs.ListedKeys.{IsOwn, key_of_entry, same_tells, itself, key_listed}
use Rattle.lifetimes.proofs.InOrder.{each_inserted, each_left, ordered_inserted, all_from_each, each_from_all, any_inserted, any_left}

-- ---- where a note isn't at its place

before_apart : (a b : Sounding) → comes_before a b ≡ true → is_same a b ≡ false
before_apart a b h = grind (arith, ints)

behind_apart : (a b : Sounding) → comes_before a b ≡ true → is_same b a ≡ false
behind_apart a b h = grind (arith, ints)

module _ (xs : List Sounding) (y : Sounding) (i : ℕ) (turns : AreInTurn xs) (place : IsPlaceIn xs y i) (missing : slice_get xs i ≢ Some y) where
  next_behind : i < length xs → comes_before y (get_or xs i no_note) ≡ true
  next_behind within = elim (cases_Bool (comes_before y (get_or xs i no_note))) [
    | inl t ↦ t
    | inr f ↦ absurd (missing (slice_get-get_or xs i no_note within
        ∙ ap Some (same_tells (get_or xs i no_note) y (or_same (get_or xs i no_note) y (place.behind i (omega arith) within) f))))
  ]

  pub comes_behind : (k : ℕ) → i ≤ k → k < length xs → comes_before y (get_or xs k no_note) ≡ true
  comes_behind k le within = elim (cases_lt i k) [
    | inl lt ↦ then_before y (get_or xs i no_note) (get_or xs k no_note) (next_behind (omega (arith, lt, within))) (turns i k lt within)
    | inr ge ↦ (let same : i ≡ k = omega (arith, le, ge) in
        subst (λ j. comes_before y (get_or xs j no_note) ≡ true) same (next_behind (subst (λ j. j < length xs) (sym same) within)))
  ]

  pub not_listed : is_listed xs y ≡ false
  not_listed = none_is (λ x. is_same x y) xs (λ k within. elim (cases_lt k i) [
    | inl lt ↦ before_apart (get_or xs k no_note) y (place.before k lt)
    | inr ge ↦ behind_apart y (get_or xs k no_note) (comes_behind k ge within)
  ])

  pub still_in_turn : i ≤ length xs → AreInTurn (insert xs i y)
  still_in_turn low = ordered_inserted no_note (λ a b. comes_before a b ≡ true) xs i y low turns place.before comes_behind

-- ---- fewer than 128 notes sound where none sounds on some key

keys_apart : (a b : Sounding) → comes_before a b ≡ true → a ≢ b
keys_apart a b h e = both_ways (is_same a b) (before_apart a b h) (ap (is_same a) (sym e) ∙ itself a)

distinct_keys : (ss : List Struck) (xs : List Sounding) → AreInTurn xs → AllByRecursion (IsOwn ss) xs → IsDistinct nat_eq (map (λ x. x.key) xs)
unfolding IsDistinct
distinct_keys ss [] turns own = _
distinct_keys ss (x ∷ xs) turns own = IsDistinct-cons nat_eq x.key (map (λ y. y.key) xs)
    (others xs own.1 (λ k long. turns zero (suc k) (omega arith) (omega (arith, long))))
    (distinct_keys ss xs (λ j k lt long. turns (suc j) (suc k) (omega (arith, lt)) (omega (arith, long))) own.1)
  where
    others : (ys : List Sounding) → AllByRecursion (IsOwn ss) ys → ((k : ℕ) → k < length ys → comes_before x (get_or ys k no_note) ≡ true)
        → AllByRecursion (λ k. nat_eq x.key k ≡ false) (map (λ y. y.key) ys)
    others [] all behind = _
    others (y ∷ ys) all behind = (
      ne_eqb x.key y.key (λ e. keys_apart x y (behind zero (omega arith)) (sym own.0.1 ∙ (ap (entry_at ss) e ∙ all.0.1))),
      others ys all.1 (λ k long. behind (suc k) (omega (arith, long))),
    )

some_key : (xs : List Sounding) (q : ℕ) → list_any (nat_eq q) (map (λ x. x.key) xs) ≡ list_any (λ x. nat_eq q x.key) xs
some_key [] q = refl
some_key (x ∷ xs) q = ap (λ b. nat_eq q x.key || b) (some_key xs q)

pub room_left : (ss : List Struck) (xs : List Sounding) (at : ℕ → Bool) (key : ℕ)
    → key < 128 → AreInTurn xs → ListsSounding ss xs at → at key ≡ false → length xs < 128
room_left ss xs at key low turns l none =
    let keys = map (λ x. x.key) xs in
    let absent : (k : ℕ) → k < length xs → nat_eq key (get_or xs k no_note).key ≡ false = λ k within. ne_eqb key (get_or xs k no_note).key (λ e.
    both_ways (at key) none (ap at e ∙ (key_listed ss xs at (get_or xs k no_note) k l within refl).2)) in
    let few = length-le_from_distinct_below (key ∷ keys) 128
    (IsDistinct-cons nat_eq key keys (apart xs absent) (distinct_keys ss xs turns l.own)) below in
    let same : length keys ≡ length xs = length-map xs (λ x. x.key) in
    omega (arith, few, same)
  where
    below : (q : ℕ) → list_any (nat_eq q) (key ∷ map (λ x. x.key) xs) ≡ true → q < 128
    below q h = elim (or_cases (nat_eq q key) (list_any (nat_eq q) (map (λ x. x.key) xs)) h) [
      | inl e ↦ subst (λ n. n < 128) (sym (eqb-true q key e)) low
      | inr r ↦ (let s = some_is (λ x. nat_eq q x.key) xs (sym (some_key xs q) ∙ r) in
          subst (λ n. n < 128) (sym (eqb-true q (get_or xs s.0 no_note).key s.2)) (key_listed ss xs at (get_or xs s.0 no_note) s.0 l s.1 refl).0)
    ]

    apart : (ys : List Sounding) → ((k : ℕ) → k < length ys → nat_eq key (get_or ys k no_note).key ≡ false)
        → AllByRecursion (λ k. nat_eq key k ≡ false) (map (λ y. y.key) ys)
    apart [] all = _
    apart (y ∷ ys) all = (all zero (omega arith), apart ys (λ k long. all (suc k) (omega (arith, long))))

-- ---- a note at its place

pub is_there : (xs : List Sounding) (y : Sounding) (i : ℕ) → slice_get xs i ≡ Some y → is_listed xs y ≡ true
is_there xs y i here = list_any_at (λ x. is_same x y) xs i no_note (slice_get_within xs i y here)
    (ap (λ x. is_same x y) (get_or_from_slice_get xs i y no_note here) ∙ itself y)

pub sounds_there : (ss : List Struck) (xs : List Sounding) (at : ℕ → Bool) (y : Sounding) (i : ℕ) → ListsSounding ss xs at
    → slice_get xs i ≡ Some y → at y.key ≡ true
sounds_there ss xs at y i l here = (key_listed ss xs at y i l (slice_get_within xs i y here) (get_or_from_slice_get xs i y no_note here)).2

-- ---- a note begins

module _ (ss : List Struck) (xs : List Sounding) (at : ℕ → Bool) (key : ℕ) (low : key < 128) (l : ListsSounding ss xs at) where
  other_keys : (k : ℕ) (a : Sounding) → k ≢ key → a.key ≡ key → is_same a (entry_at ss k) ≡ false
  other_keys k a ne e =
      let x = entry_at ss k in
      and_right (int_eq a.steps x.steps) (nat_eq a.target x.target && nat_eq a.key x.key) (and_right (nat_eq a.target x.target) (nat_eq a.key x.key)
      (ne_eqb a.key x.key (λ f. ne (sym (key_of_entry k (struck_at ss k).target) ∙ (sym f ∙ e)))))

  pub begun : (s : Struck) (i : ℕ) → length ss ≡ 128 → i ≤ length xs → at key ≡ false
      → ListsSounding (set ss key s) (insert xs i (entry_of key s.target)) (λ k. cond (nat_eq k key) true (at k))
  begun s i long within none = record {
    own = all_from_each no_note own_then (insert xs i y) (each_inserted no_note own_then xs i y within
        (subst (λ k. k < 128) (sym named) low, ap (entry_at (set ss key s)) named ∙ here)
        (λ k low. (let o = key_listed ss xs at (get_or xs k no_note) k l low refl in
        (o.0, elsewhere (get_or xs k no_note).key (λ e. both_ways (at key) none (ap at (sym e) ∙ o.2)) ∙ o.1))));
    listed = λ k small. any_inserted no_note (λ z. is_same z (entry_at (set ss key s) k)) xs i y ∙ (elim (eqb_tells k key) [
      | inl t ↦ or_left (is_same y (entry_at (set ss key s) k)) (is_listed xs (entry_at (set ss key s) k))
          (ap (is_same y) (ap (entry_at (set ss key s)) t.1 ∙ here) ∙ itself y)
          ∙ sym (ap (λ b. cond b true (at k)) t.0)
      | inr t ↦ ap (λ x. is_same y x || is_listed xs x) (elsewhere k t.1) ∙ (ap (λ b. b || is_listed xs (entry_at ss k)) (other_keys k y t.1 named)
          ∙ (l.listed k small ∙ sym (ap (λ b. cond b true (at k)) t.0)))
    ]);
  }
    where
      y : Sounding
      y = entry_of key s.target

      own_then : Sounding → Type 0
      own_then = IsOwn (set ss key s)

      named : y.key ≡ key
      named = key_of_entry key s.target

      here : entry_at (set ss key s) key ≡ y
      here = ap (λ t. entry_of key t.target) (get_or-set_same ss key s unstruck (subst (λ n. key < n) (sym long) low))

      elsewhere : (k : ℕ) → k ≢ key → entry_at (set ss key s) k ≡ entry_at ss k
      elsewhere k ne = ap (λ t. entry_of k t.target) (get_or-set_other ss key k s unstruck ne)

  -- ---- a note ends

  gone : (zs : List Sounding) (i : ℕ) → AreInTurn zs → i < length zs → is_listed (remove zs i) (get_or zs i no_note) ≡ false
  gone [] i turns within = absurd (omega (arith, within))
  gone (z ∷ zs) zero turns within = none_is (λ x. is_same x z) zs (λ k long.
      behind_apart z (get_or zs k no_note) (turns zero (suc k) (omega arith) (omega (arith, long))))
  gone (z ∷ zs) (suc i) turns within = or_from (is_same z (get_or zs i no_note)) (is_listed (remove zs i) (get_or zs i no_note))
      (before_apart z (get_or zs i no_note) (turns zero (suc i) (omega arith) within))
      (gone zs i (λ j k lt long. turns (suc j) (suc k) (omega (arith, lt)) (omega (arith, long))) (omega (arith, within)))

  pub ended : (i : ℕ) → AreInTurn xs → i < length xs → get_or xs i no_note ≡ entry_at ss key
      → ListsSounding ss (remove xs i) (λ k. cond (nat_eq k key) false (at k))
  ended i turns within here = record {
    own = all_from_each no_note (IsOwn ss) (remove xs i) (each_left no_note (IsOwn ss) xs i within (each_from_all no_note (IsOwn ss) xs l.own));
    listed = λ k small. elim (eqb_tells k key) [
      | inl t ↦ ap (λ x. is_listed (remove xs i) x) (ap (entry_at ss) t.1 ∙ sym here)
          ∙ (gone xs i turns within ∙ sym (ap (λ b. cond b false (at k)) t.0))
      | inr t ↦ sym (ap (λ b. b || is_listed (remove xs i) (entry_at ss k))
          (other_keys k (get_or xs i no_note) t.1 (ap (λ x. x.key) here ∙ key_of_entry key (struck_at ss key).target)))
          ∙ (sym (any_left no_note (λ z. is_same z (entry_at ss k)) xs i within) ∙ (l.listed k small ∙ sym (ap (λ b. cond b false (at k)) t.0)))
    ];
  }

  pub stays : is_listed xs (entry_at ss key) ≡ false → ListsSounding ss xs (λ k. cond (nat_eq k key) false (at k))
  stays none = record {
    own = l.own;
    listed = λ k small. elim (eqb_tells k key) [
      | inl t ↦ ap (λ j. is_listed xs (entry_at ss j)) t.1 ∙ (none ∙ sym (ap (λ b. cond b false (at k)) t.0))
      | inr t ↦ l.listed k small ∙ sym (ap (λ b. cond b false (at k)) t.0)
    ];
  }
