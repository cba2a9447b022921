-- The runs of a sequence of sets of pairs, in the order in which they begin.
use Rattle.std.proofs.Common.{◌≡◌, ◌≤◌, ◌<◌, ◌+◌, ◌-◌, ◌++◌, ◌⊎◌, ◌&&◌, ℕ, zero, suc, List, [], ◌∷◌, Bool, true, false, not, cond, Some, length, map, filter, refl, sym, ap, ◌∙◌, subst, arith, inl, inr}
use Rattle.std.specs.List.{AllByRecursion, IsDistinct}
use Rattle.std.specs.Set.{is_member}
use Rattle.std.proofs.lemmas.Bool.{cases_lt, both_ways, and_parts, or_cases, or_left, or_right}
use Rattle.std.proofs.lemmas.List.{length-map}
use Rattle.retune_model.specs.Pairs.{Pair, is_same_pair}
use Rattle.retune_model.specs.Places.{nth}
use Rattle.retune_model.specs.Runs.{since, begins}
use Rattle.retune_model.specs.RunLaws.{PairsAreTold}
use Rattle.channel_model.specs.Choice.{beginning_at}
use Rattle.least_replay.specs.Measure.{Run, goes_to, run_at, runs_to}

-- ---- elements by index

module _ {A : Type 0} where
  pub nth_left : (xs ys : List A) (i : ℕ) (x : A) → nth i xs ≡ Some x → nth i (xs ++ ys) ≡ Some x
  nth_left [] ys i x h = absurd cc
  nth_left (y ∷ xs) ys zero x h = h
  nth_left (y ∷ xs) ys (suc i) x h = nth_left xs ys i x h

  pub nth_split : (xs ys : List A) (i : ℕ) (y : A) → nth i (xs ++ ys) ≡ Some y
      → (nth i xs ≡ Some y) ⊎ ((j : ℕ) × (i ≡ length xs + j) × (nth j ys ≡ Some y))
  nth_split [] ys i y h = inr (i, omega arith, h)
  nth_split (x ∷ xs) ys zero y h = inl h
  nth_split (x ∷ xs) ys (suc i) y h = elim (nth_split xs ys i y h) [
    | inl g ↦ inl g
    | inr g ↦ (let e = g.1 in inr (g.0, omega (arith, e), g.2))
  ]

  pub nth_below : (xs : List A) (i : ℕ) (x : A) → nth i xs ≡ Some x → i < length xs
  nth_below [] i x h = absurd cc
  nth_below (y ∷ xs) zero x h = omega arith
  nth_below (y ∷ xs) (suc i) x h = omega (arith, nth_below xs i x h)

  pub nth_there : (xs : List A) (i : ℕ) → i < length xs → (x : A) × (nth i xs ≡ Some x)
  nth_there [] i l = absurd (omega (arith, l))
  nth_there (x ∷ xs) zero l = (x, refl)
  nth_there (x ∷ xs) (suc i) l = nth_there xs i (omega (arith, l))

  pub nth_last : (xs : List A) (y : A) → nth (length xs) (xs ++ y ∷ []) ≡ Some y
  nth_last [] y = refl
  nth_last (x ∷ xs) y = nth_last xs y

  pub nth_same : (xs : List A) (i : ℕ) (x y : A) → nth i xs ≡ Some x → nth i xs ≡ Some y → x ≡ y
  nth_same xs i x y h g = cc

  pub nth_map : {B : Type 0} (f : A → B) (xs : List A) (i : ℕ) (y : B) → nth i (map f xs) ≡ Some y → (x : A) × (nth i xs ≡ Some x) × (f x ≡ y)
  nth_map f [] i y h = absurd cc
  nth_map f (x ∷ xs) zero y h = (x, refl, cc)
  nth_map f (x ∷ xs) (suc i) y h = nth_map f xs i y h

  pub filter_passes : (f : A → Bool) (xs : List A) (i : ℕ) (x : A) → nth i (filter f xs) ≡ Some x → f x ≡ true
  filter_passes f [] i x h = absurd cc
  filter_passes f (y ∷ xs) i x h = pick (λ j g. filter_passes f xs j x g) (f y) refl i h
    where
      pick : ((j : ℕ) → nth j (filter f xs) ≡ Some x → f x ≡ true) → (b : Bool) → f y ≡ b → (j : ℕ)
          → nth j (cond b (y ∷ filter f xs) (filter f xs)) ≡ Some x → f x ≡ true
      pick more true e zero g = (let s : y ≡ x = cc in subst (λ z. f z ≡ true) s e)
      pick more true e (suc j) g = more j g
      pick more false e j g = more j g

-- ---- at most one run begins

none_passes : (f : Pair → Bool) (x : Pair) (ys : List Pair) → AllByRecursion (λ y. is_same_pair x y ≡ false) ys → PairsAreTold
    → ((y : Pair) → f y ≡ true → x ≡ y) → filter f ys ≡ []
none_passes f x [] apart told only = refl
none_passes f x (y ∷ ys) apart told only = pick (f y) refl (none_passes f x ys apart.1 told only)
  where
    pick : (b : Bool) → f y ≡ b → filter f ys ≡ [] → cond b (y ∷ filter f ys) (filter f ys) ≡ []
    pick true e g = absurd (both_ways (is_same_pair x y) apart.0 ((told x y).1 (only y e)))
    pick false e g = g

pub one_passes : (f : Pair → Bool) (xs : List Pair) → IsDistinct is_same_pair xs → PairsAreTold
    → ((x y : Pair) → f x ≡ true → f y ≡ true → x ≡ y) → length (filter f xs) ≤ 1
unfolding IsDistinct
one_passes f [] once told only = omega arith
one_passes f (x ∷ xs) once told only = pick (f x) refl (one_passes f xs once.1 told only)
  where
    pick : (b : Bool) → f x ≡ b → length (filter f xs) ≤ 1 → length (cond b (x ∷ filter f xs) (filter f xs)) ≤ 1
    pick true e g = (let none = ap length (none_passes f x xs once.0 told (λ y h. only x y e h)) in omega (arith, none))
    pick false e g = g

-- where one passes and there is no other
pub only_passes : (f : Pair → Bool) (xs : List Pair) (p : Pair) → PairsAreTold → is_member is_same_pair xs p ≡ true → f p ≡ true
    → length (filter f xs) ≤ 1 → filter f xs ≡ p ∷ []
only_passes f [] p told m h l = absurd (both_ways false refl m)
only_passes f (x ∷ xs) p told m h l = elim (or_cases (is_same_pair p x) (is_member is_same_pair xs p) m) [
  | inl here ↦ (let s : p ≡ x = (told p x).0 here in pick (f x) (ap f (sym s) ∙ h) s l)
  | inr there ↦ (let rest = has_one f xs p told there h in later (f x) rest l (λ g. only_passes f xs p told there h g))
]
  where
    none_left : (ys : List Pair) → length ys ≤ 0 → ys ≡ []
    none_left [] g = refl
    none_left (y ∷ ys) g = absurd (omega (arith, g))

    has_one : (f : Pair → Bool) (ys : List Pair) (q : Pair) → PairsAreTold → is_member is_same_pair ys q ≡ true
        → f q ≡ true → 0 < length (filter f ys)
    has_one f [] q told g t = absurd (both_ways false refl g)
    has_one f (y ∷ ys) q told g t = elim (or_cases (is_same_pair q y) (is_member is_same_pair ys q) g) [
      | inl here ↦ (let e : f y ≡ true = ap f (sym ((told q y).0 here)) ∙ t in rw e (omega arith))
      | inr there ↦ (let n = has_one f ys q told there t in more (f y) n)
    ]
      where
        more : (b : Bool) → 0 < length (filter f ys) → 0 < length (cond b (y ∷ filter f ys) (filter f ys))
        more true n = omega arith
        more false n = n

    pick : (b : Bool) → b ≡ true → p ≡ x → length (cond b (x ∷ filter f xs) (filter f xs)) ≤ 1 → cond b (x ∷ filter f xs) (filter f xs) ≡ p ∷ []
    pick true e s g = ap (λ ys. x ∷ ys) (none_left (filter f xs) (omega (arith, g))) ∙ ap (λ y. y ∷ []) (sym s)
    pick false e s g = absurd cc

    later : (b : Bool) → 0 < length (filter f xs) → length (cond b (x ∷ filter f xs) (filter f xs)) ≤ 1 → (length (filter f xs) ≤ 1
        → filter f xs ≡ p ∷ []) → cond b (x ∷ filter f xs) (filter f xs) ≡ p ∷ []
    later true n g more = absurd (omega (arith, n, g))
    later false n g more = more g

pub member_passes : (f : Pair → Bool) (xs : List Pair) (p : Pair) → PairsAreTold → is_member is_same_pair xs p ≡ true → f p ≡ true
    → is_member is_same_pair (filter f xs) p ≡ true
member_passes f [] p told m h = m
member_passes f (x ∷ xs) p told m h = elim (or_cases (is_same_pair p x) (is_member is_same_pair xs p) m) [
  | inl here ↦ (let e : f x ≡ true = ap f (sym ((told p x).0 here)) ∙ h in
      rw e (or_left (is_same_pair p x) (is_member is_same_pair (filter f xs) p) here))
  | inr there ↦ more (f x) (member_passes f xs p told there h)
]
  where
    more : (b : Bool) → is_member is_same_pair (filter f xs) p ≡ true → is_member is_same_pair (cond b (x ∷ filter f xs) (filter f xs)) p ≡ true
    more true g = or_right (is_same_pair p x) (is_member is_same_pair (filter f xs) p) g
    more false g = g

-- ---- how far a pair goes

module _ (at : ℕ → List Pair) (p : Pair) where
  abbrev there : ℕ → Bool
  there k = is_member is_same_pair (at k) p

  pub reaches : (n k : ℕ) → k ≤ goes_to at p n k
  reaches zero k = omega arith
  reaches (suc n) k = pick (there (suc k)) (reaches n (suc k))
    where
      pick : (b : Bool) → suc k ≤ goes_to at p n (suc k) → k ≤ cond b (goes_to at p n (suc k)) k
      pick true g = omega (arith, g)
      pick false g = omega arith

  pub not_beyond : (n k : ℕ) → goes_to at p n k ≤ k + n
  not_beyond zero k = omega arith
  not_beyond (suc n) k = pick (there (suc k)) (not_beyond n (suc k))
    where
      pick : (b : Bool) → goes_to at p n (suc k) ≤ suc k + n → cond b (goes_to at p n (suc k)) k ≤ k + suc n
      pick true g = omega (arith, g)
      pick false g = omega arith

  pub holds_to : (n k : ℕ) → there k ≡ true → (j : ℕ) → k ≤ j → j ≤ goes_to at p n k → there j ≡ true
  holds_to zero k h j l m = (let e : k ≡ j = omega (arith, l, m) in subst (λ i. there i ≡ true) e h)
  holds_to (suc n) k h j l m = pick (λ e f g. holds_to n (suc k) e j f g) (there (suc k)) refl m
    where
      pick : (there (suc k) ≡ true → suc k ≤ j → j ≤ goes_to at p n (suc k) → there j ≡ true) → (b : Bool) → there (suc k) ≡ b
          → j ≤ cond b (goes_to at p n (suc k)) k → there j ≡ true
      pick more true e g = elim (cases_lt k j) [
        | inl f ↦ more e (omega (arith, f)) g
        | inr f ↦ (let s : k ≡ j = omega (arith, l, f) in subst (λ i. there i ≡ true) s h)
      ]
      pick more false e g = (let s : k ≡ j = omega (arith, l, g) in subst (λ i. there i ≡ true) s h)

  pub stops_at : (n k : ℕ) → goes_to at p n k < k + n → there (suc (goes_to at p n k)) ≡ false
  stops_at zero k l = absurd (omega (arith, l))
  stops_at (suc n) k l = pick (λ g. stops_at n (suc k) g) (there (suc k)) refl l
    where
      pick : (goes_to at p n (suc k) < suc k + n → there (suc (goes_to at p n (suc k))) ≡ false) → (b : Bool) → there (suc k) ≡ b
          → cond b (goes_to at p n (suc k)) k < k + suc n → there (suc (cond b (goes_to at p n (suc k)) k)) ≡ false
      pick more true e g = more (omega (arith, g))
      pick more false e g = e

-- ---- the runs

pub record IsRun (at : ℕ → List Pair) (last : ℕ) (s : Run) : Type 0 where
  pub order : s.first ≤ s.last
  pub within : s.last ≤ last
  pub has : (j : ℕ) → s.first ≤ j → j ≤ s.last → is_member is_same_pair (at j) s.pair ≡ true
  pub ends : s.last < last → is_member is_same_pair (at (suc s.last)) s.pair ≡ false
  pub before : ℕ
  pub first : s.first ≡ suc before
  pub begun : begins is_same_pair at before s.pair ≡ true

not_true : (b : Bool) → not b ≡ true → b ≡ false
not_true true h = absurd cc
not_true false h = refl

pub begun_parts : (at : ℕ → List Pair) (k : ℕ) (p : Pair) → begins is_same_pair at k p ≡ true
    → (is_member is_same_pair (at (suc k)) p ≡ true) × (is_member is_same_pair (at k) p ≡ false)
begun_parts at k p h =
    let x = and_parts (is_member is_same_pair (at (suc k)) p) (not (is_member is_same_pair (at k) p)) h in
    (x.0, not_true (is_member is_same_pair (at k) p) x.1)

pub begun_of : (at : ℕ → List Pair) (k : ℕ) (p : Pair) → is_member is_same_pair (at (suc k)) p ≡ true → is_member is_same_pair (at k) p ≡ false
    → begins is_same_pair at k p ≡ true
begun_of at k p h g = ap (λ b. b && not (is_member is_same_pair (at k) p)) h ∙ ap not g

pub new_run : (at : ℕ → List Pair) (last k : ℕ) (p : Pair) → k < last → begins is_same_pair at k p ≡ true → IsRun at last (run_at at last (suc k) p)
new_run at last k p l h =
    let n : ℕ = last - suc k in
    let sum : suc k + n ≡ last = omega (arith, l) in
    record {
      order = reaches at p n (suc k);
      within = (let g = not_beyond at p n (suc k) in omega (arith, g, sum));
      has = holds_to at p n (suc k) (begun_parts at k p h).0;
      ends = λ m. stops_at at p n (suc k) (omega (arith, m, sum));
      before = k;
      first = refl;
      begun = h;
    }

module _ (at : ℕ → List Pair) (last : ℕ) where
  pub all_runs : (k : ℕ) → k ≤ last → (b : ℕ) (s : Run) → nth b (runs_to at last k) ≡ Some s → IsRun at last s × (s.first ≤ k)
  all_runs zero le b s h = absurd cc
  all_runs (suc k) le b s h = elim (nth_split (runs_to at last k) (map (run_at at last (suc k)) (beginning_at at k)) b s h) [
    | inl g ↦ (let x = all_runs k (omega (arith, le)) b s g in let f = x.1 in (x.0, omega (arith, f)))
    | inr g ↦ (let x = nth_map (run_at at last (suc k)) (beginning_at at k) g.0 s g.2 in
        let begun = filter_passes (λ p. begins is_same_pair at k p) (at (suc k)) g.0 x.0 x.1 in (
          subst (IsRun at last) x.2 (new_run at last k x.0 (omega (arith, le)) begun),
          (let e : suc k ≡ s.first = ap (λ (r : Run). r.first) x.2 in omega (arith, e)),
        ))
  ]

  module _ (few : (k : ℕ) → k < last → length (beginning_at at k) ≤ 1) where
    pub ordered : (k : ℕ) → k ≤ last → (a b : ℕ) (q s : Run) → nth a (runs_to at last k) ≡ Some q → nth b (runs_to at last k) ≡ Some s → a < b
        → q.first < s.first
    ordered zero le a b q s ha hb l = absurd cc
    ordered (suc k) le a b q s ha hb l =
        let old : List Run = runs_to at last k in
        let new : List Run = map (run_at at last (suc k)) (beginning_at at k) in
        let one = few k (omega (arith, le)) in
        let long = length-map (beginning_at at k) (run_at at last (suc k)) in
        elim (nth_split old new b s hb) [
          | inl gb ↦ (let lb = nth_below old b s gb in elim (nth_split old new a q ha) [
            | inl ga ↦ ordered k (omega (arith, le)) a b q s ga gb l
            | inr ga ↦ (let e = ga.1 in absurd (omega (arith, e, lb, l)))
          ])
          | inr gb ↦ (let eb = gb.1 in let lb = nth_below new gb.0 s gb.2 in elim (nth_split old new a q ha) [
            | inl ga ↦ (let f = (all_runs k (omega (arith, le)) a q ga).1 in
                let x = nth_map (run_at at last (suc k)) (beginning_at at k) gb.0 s gb.2 in
                let e : suc k ≡ s.first = ap (λ (r : Run). r.first) x.2 in omega (arith, f, e))
            | inr ga ↦ (let ea = ga.1 in absurd (omega (arith, ea, eb, lb, l, one, long)))
          ])
        ]

    -- two runs of a pair have no common position
    apart_by : (k : ℕ) → k ≤ last → (a b : ℕ) (q s : Run) → nth a (runs_to at last k) ≡ Some q → nth b (runs_to at last k) ≡ Some s
        → q.pair ≡ s.pair → (j : ℕ) → j ≤ q.last → s.first ≤ j → a < b → ⊥
    apart_by k le a b q s ha hb same j lq ls l =
        let x = (all_runs k le a q ha).0 in
        let y = (all_runs k le b s hb).0 in
        let order = ordered k le a b q s ha hb l in
        let f = y.first in
        let none : is_member is_same_pair (at y.before) s.pair ≡ false = (begun_parts at y.before s.pair y.begun).1 in
        let some : is_member is_same_pair (at y.before) q.pair ≡ true = x.has y.before (omega (arith, order, f)) (omega (arith, lq, ls, f)) in
        both_ways (is_member is_same_pair (at y.before) s.pair) none (ap (λ p. is_member is_same_pair (at y.before) p) (sym same) ∙ some)

    pub unique : (k : ℕ) → k ≤ last → (a b : ℕ) (q s : Run) → nth a (runs_to at last k) ≡ Some q → nth b (runs_to at last k) ≡ Some s
        → q.pair ≡ s.pair → (j : ℕ) → q.first ≤ j → j ≤ q.last → s.first ≤ j → j ≤ s.last → a ≡ b
    unique k le a b q s ha hb same j fq lq fs ls = elim (cases_lt a b) [
      | inl l ↦ absurd (apart_by k le a b q s ha hb same j lq fs l)
      | inr l ↦ elim (cases_lt b a) [
        | inl m ↦ absurd (apart_by k le b a s q hb ha (sym same) j ls fq m)
        | inr m ↦ omega (arith, l, m)
      ]
    ]

-- the run of a pair at a position
pub since_first : (at : ℕ → List Pair) (last : ℕ) (s : Run) → IsRun at last s → (j : ℕ) → s.first ≤ j → j ≤ s.last
    → since is_same_pair at s.pair j ≡ s.first
since_first at last s is zero l m = (let f = is.first in absurd (omega (arith, l, f)))
since_first at last s is (suc j) l m = elim (cases_lt j s.first) [
  | inl low ↦ (let f = is.first in
      let e : is.before ≡ j = omega (arith, low, l, f) in
      let none : is_member is_same_pair (at j) s.pair ≡ false =
      ap (λ i. is_member is_same_pair (at i) s.pair) (sym e) ∙ (begun_parts at is.before s.pair is.begun).1 in
      ap (λ b. cond b (since is_same_pair at s.pair j) (suc j)) none ∙ (let g : suc j ≡ s.first = omega (arith, low, l) in g))
  | inr high ↦ (let some = is.has j high (omega (arith, m)) in
      ap (λ b. cond b (since is_same_pair at s.pair j) (suc j)) some ∙ since_first at last s is j high (omega (arith, m)))
]
