-- Where the test of the choice holds, each run takes the best place that is free.
use Rattle.std.proofs.Common.{◌≡◌, ◌<◌, ℕ, zero, suc, List, [], ◌∷◌, Bool, true, false, cond, ◌&&◌, ◌||◌, not, nat_eq, nat_lt, nat_le, refl, ap, sym, ◌∙◌, subst, arith, inl, inr}
use Rattle.std.specs.List.{list_all, filter}
use Rattle.std.specs.Set.{is_member}
use Rattle.std.proofs.lemmas.Bool.{cases_lt, or_cases, or_left, or_right, and_parts, and_from, both_ways, false_from_ne_true, eqb-true, eq-eqb, ltb-true, leb-true}
use Rattle.retune_model.specs.Pairs.{Pair, is_same_pair}
use Rattle.retune_model.specs.Runs.{since, begins, IsFree}
use Rattle.retune_model.specs.RunLaws.{PairsAreTold}
use Rattle.channel_model.specs.Choice.{free_since, beginning_at, IsNoWorse, TakesBest}
use Rattle.channel_model.specs.ChoiceTest.{is_free, is_no_worse, is_best, is_taken_well, takes_best}

abbrev Has : List Pair → Pair → Type 0
Has ps p = is_member is_same_pair ps p ≡ true

-- ---- members and what all have

-- of those that pass a test, each member has what all have
has_among : PairsAreTold → (t f : Pair → Bool) (ps : List Pair) (p : Pair) → list_all f (filter t ps) ≡ true → t p ≡ true → Has ps p → f p ≡ true
has_among told t f [] p all passes m = absurd (both_ways false refl m)
has_among told t f (x ∷ xs) p all passes m = pick (t x) refl all (λ h. has_among told t f xs p h passes)
  where
    at_x : t x ≡ false → is_same_pair p x ≡ true → f p ≡ true
    at_x fails e = absurd (both_ways (t x) fails (ap t (sym ((told p x).0 e)) ∙ passes))

    pick : (b : Bool) → t x ≡ b → list_all f (cond b (x ∷ filter t xs) (filter t xs)) ≡ true → (list_all f (filter t xs) ≡ true → Has xs p → f p ≡ true) → f p ≡ true
    pick true g h later =
        let parts = and_parts (f x) (list_all f (filter t xs)) h in
        elim (or_cases (is_same_pair p x) (is_member is_same_pair xs p) m) [ inl e ↦ ap f ((told p x).0 e) ∙ parts.0 | inr e ↦ later parts.1 e ]
    pick false g h later = elim (or_cases (is_same_pair p x) (is_member is_same_pair xs p) m) [ inl e ↦ at_x g e | inr e ↦ later h e ]

has_each : PairsAreTold → (f : Pair → Bool) (ps : List Pair) (p : Pair) → list_all f ps ≡ true → Has ps p → f p ≡ true
has_each told f [] p all m = absurd (both_ways false refl m)
has_each told f (x ∷ xs) p all m =
    let parts = and_parts (f x) (list_all f xs) all in
    elim (or_cases (is_same_pair p x) (is_member is_same_pair xs p) m) [ inl e ↦ ap f ((told p x).0 e) ∙ parts.0 | inr e ↦ has_each told f xs p parts.1 e ]

each_has : PairsAreTold → (f : Pair → Bool) (ps : List Pair) → ((p : Pair) → Has ps p → f p ≡ true) → list_all f ps ≡ true
each_has told f [] h = refl
each_has told f (x ∷ xs) h = and_from (f x) (list_all f xs) (h x (or_left (is_same_pair x x) (is_member is_same_pair xs x) ((told x x).1 refl)))
    (each_has told f xs (λ p m. h p (or_right (is_same_pair p x) (is_member is_same_pair xs p) m)))

-- ---- free places

free_from : PairsAreTold → (at : ℕ → List Pair) (row : ℕ → ℕ) (k c : ℕ) → is_free at row k c ≡ true → IsFree is_same_pair at row k c
free_from told at row k c h q here before on = both_ways (not (is_member is_same_pair (at k) q && nat_eq (row (since is_same_pair at q k)) c)) taken
    (has_each told (λ p. not (is_member is_same_pair (at k) p && nat_eq (row (since is_same_pair at p k)) c)) (at (suc k)) q h here)
  where
    taken : not (is_member is_same_pair (at k) q && nat_eq (row (since is_same_pair at q k)) c) ≡ false
    taken = ap not (and_from (is_member is_same_pair (at k) q) (nat_eq (row (since is_same_pair at q k)) c) before (eq-eqb (row (since is_same_pair at q k)) c on))

free_to : PairsAreTold → (at : ℕ → List Pair) (row : ℕ → ℕ) (k c : ℕ) → IsFree is_same_pair at row k c → is_free at row k c ≡ true
free_to told at row k c free = each_has told (λ q. not (is_member is_same_pair (at k) q && nat_eq (row (since is_same_pair at q k)) c)) (at (suc k)) one
  where
    one : (q : Pair) → Has (at (suc k)) q → not (is_member is_same_pair (at k) q && nat_eq (row (since is_same_pair at q k)) c) ≡ true
    one q here = ap not (false_from_ne_true (is_member is_same_pair (at k) q && nat_eq (row (since is_same_pair at q k)) c) on)
      where
        on : (is_member is_same_pair (at k) q && nat_eq (row (since is_same_pair at q k)) c) ≡ true → ⊥
        on h =
            let parts = and_parts (is_member is_same_pair (at k) q) (nat_eq (row (since is_same_pair at q k)) c) h in
            free q here parts.0 (eqb-true (row (since is_same_pair at q k)) c parts.1)

-- ---- the best one

no_worse : (cost free : ℕ → ℕ) (c d : ℕ) → is_no_worse cost free c d ≡ true → IsNoWorse cost free c d
no_worse cost free c d h = elim (or_cases (nat_lt (cost c) (cost d)) _ h) [
  | inl e ↦ inl (ltb-true (cost c) (cost d) e)
  | inr e ↦ let parts = and_parts (nat_eq (cost c) (cost d)) _ e in inr (
    eqb-true (cost c) (cost d) parts.0,
    elim (or_cases (nat_lt (free c) (free d)) _ parts.1) [
      | inl g ↦ inl (ltb-true (free c) (free d) g)
      | inr g ↦ let ends = and_parts (nat_eq (free c) (free d)) (nat_le c d) g in inr (eqb-true (free c) (free d) ends.0, leb-true c d ends.1)
    ],
  )
]

best_of : (at : ℕ → List Pair) (cost : Pair → ℕ → ℕ → ℕ) (row : ℕ → ℕ) (k : ℕ) (p : Pair) (n c : ℕ) → is_best at cost row k p n ≡ true
    → c < n → is_free at row k c ≡ true
    → IsNoWorse (λ d. cost p d k) (λ d. free_since at row d k) (row (suc k)) c
best_of at cost row k p zero c h l free = absurd (omega (arith, l))
best_of at cost row k p (suc n) c h l free =
    let parts = and_parts (not (is_free at row k n) || is_no_worse (λ d. cost p d k) (λ d. free_since at row d k) (row (suc k)) n) (is_best at cost row k p n) h in
    elim (cases_lt c n) [
      | inl g ↦ best_of at cost row k p n c parts.1 g free
      | inr g ↦ let same : c ≡ n = omega (arith, g, l) in
          subst (IsNoWorse (λ d. cost p d k) (λ d. free_since at row d k) (row (suc k))) (sym same) (pick (subst (λ i. is_free at row k i ≡ true) same free) parts.0)
    ]
  where
    pick : is_free at row k n ≡ true → (not (is_free at row k n) || is_no_worse (λ d. cost p d k) (λ d. free_since at row d k) (row (suc k)) n) ≡ true
        → IsNoWorse (λ d. cost p d k) (λ d. free_since at row d k) (row (suc k)) n
    pick f g = elim (or_cases (not (is_free at row k n)) _ g) [ inl e ↦ absurd (both_ways (not (is_free at row k n)) (ap not f) e) | inr e ↦ no_worse (λ d. cost p d k) (λ d. free_since at row d k) (row (suc k)) n e ]

-- ---- the whole row

taken_well : PairsAreTold → (at : ℕ → List Pair) (last n : ℕ) (cost : Pair → ℕ → ℕ → ℕ) (row : ℕ → ℕ) → takes_best at last n cost row ≡ true
    → (k : ℕ) (p : Pair) → k < last → begins is_same_pair at k p ≡ true → is_taken_well at n cost row k p ≡ true
taken_well told at zero n cost row h k p l b = absurd (omega (arith, l))
taken_well told at (suc last) n cost row h k p l b =
    let parts = and_parts (list_all (is_taken_well at n cost row last) (beginning_at at last)) (takes_best at last n cost row) h in
    elim (cases_lt k last) [
      | inl g ↦ taken_well told at last n cost row parts.1 k p g b
      | inr g ↦ let same : k ≡ last = omega (arith, g, l) in
          subst (λ i. is_taken_well at n cost row i p ≡ true) (sym same) (one (subst (λ i. begins is_same_pair at i p ≡ true) same b) parts.0)
    ]
  where
    one : begins is_same_pair at last p ≡ true → list_all (is_taken_well at n cost row last) (beginning_at at last) ≡ true → is_taken_well at n cost row last p ≡ true
    one begun all = has_among told (λ q. begins is_same_pair at last q) (is_taken_well at n cost row last) (at (suc last)) p all begun
        (and_parts (is_member is_same_pair (at (suc last)) p) (not (is_member is_same_pair (at last) p)) begun).0

pub tested_is_best : PairsAreTold → (at : ℕ → List Pair) (last n : ℕ) (cost : Pair → ℕ → ℕ → ℕ) (row : ℕ → ℕ)
    → takes_best at last n cost row ≡ true → TakesBest at last n cost row
tested_is_best told at last n cost row h = record {
  within = λ k p l b. ltb-true (row (suc k)) n (parts k p l b).0;
  free = λ k p l b. free_from told at row k (row (suc k)) (rest k p l b).0;
  best = λ k p c l b c_in free. best_of at cost row k p n c (rest k p l b).1 c_in (free_to told at row k c free);
}
  where
    parts : (k : ℕ) (p : Pair) → k < last → begins is_same_pair at k p ≡ true → (nat_lt (row (suc k)) n ≡ true) × ((is_free at row k (row (suc k)) && is_best at cost row k p n) ≡ true)
    parts k p l b = and_parts (nat_lt (row (suc k)) n) _ (taken_well told at last n cost row h k p l b)

    rest : (k : ℕ) (p : Pair) → k < last → begins is_same_pair at k p ≡ true → (is_free at row k (row (suc k)) ≡ true) × (is_best at cost row k p n ≡ true)
    rest k p l b = and_parts (is_free at row k (row (suc k))) (is_best at cost row k p n) (parts k p l b).1
