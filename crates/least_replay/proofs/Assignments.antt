-- An assignment of channels is a cover.
use Rattle.std.proofs.Common.{◌≡◌, ◌≢◌, inl, inr, ℕ, zero, suc, ◌+◌, ◌<◌, ◌≤◌, List, [], ◌∷◌, length, get_or, map, Bool, true, false, ◌||◌, nat_eq, refl, sym, ap, ◌∙◌, subst, arith}
use Rattle.std.specs.Prelude.{Option, Some, None}
use Rattle.std.specs.List.{AllByRecursion, IsDistinct, range_with_len}
use Rattle.std.specs.Set.{is_member, distinct_count}
use Rattle.std.proofs.lemmas.Bool.{or_cases, or_left, or_right}
use Rattle.std.proofs.lemmas.Bool.Decides.{nat_tests}
use Rattle.std.proofs.lemmas.Cmp.{nat_eq_equiv}
use Rattle.std.proofs.lemmas.Map.Made.{length-from_keys}
use Rattle.least_replay.specs.Cover.{Table, starts_in, IsCover, cost_at, price_from, price, IsLeast}
use Rattle.least_replay.specs.Assignments.{AreRuns, IsAssignment, last_on, before_on, chains_from, cost_from, assignment_cost}
use Rattle.least_replay.proofs.Duality.{lt_or_ge}
use Rattle.least_replay.proofs.Trees.{same_or_not, some_same, option_cases}

both_ways : (x y : Bool) → (x ≡ true → y ≡ true) → (y ≡ true → x ≡ true) → x ≡ y
both_ways true y f g = sym (f refl)
both_ways false true f g = g refl
both_ways false false f g = refl

not_same : (a b : ℕ) → a ≢ b → nat_eq a b ≡ false
not_same a b d = grind (arith, nat_tests)

pub at_last : (channel : ℕ → ℕ) (c n : ℕ) → channel n ≡ c → last_on channel c (suc n) ≡ Some n
at_last channel c n e = let t : nat_eq (channel n) c ≡ true = grind (arith, nat_tests) in rw t refl

pub not_last : (channel : ℕ → ℕ) (c n : ℕ) → channel n ≢ c → last_on channel c (suc n) ≡ last_on channel c n
not_last channel c n d = let t : nat_eq (channel n) c ≡ false = grind (arith, nat_tests) in rw t refl

-- what is found is on the channel, and no later one is
pub found : (channel : ℕ → ℕ) (c n a : ℕ) → last_on channel c n ≡ Some a → (a < n) × (channel a ≡ c) × ((x : ℕ) → a < x → x < n → channel x ≢ c)
found channel c zero a h = cc
found channel c (suc n) a h = elim (same_or_not (channel n) c) [
  | inl e ↦
      let f : n ≡ a = some_same n a (sym (at_last channel c n e) ∙ h) in
      (omega (arith, f), subst (λ (x : ℕ). channel x ≡ c) f e, λ x ax xn. absurd (omega (arith, f, ax, xn)))
  | inr d ↦
      let o = found channel c n a (sym (not_last channel c n d) ∙ h) in (
        omega (arith, o.0),
        o.1,
        λ x ax xn. elim (same_or_not x n) [
          | inl e ↦ subst (λ (y : ℕ). channel y ≢ c) (sym e) d
          | inr g ↦ o.2 x ax (omega (arith, xn, g))
        ],
      )
]

-- where nothing is found no run before is on the channel
pub none_found : (channel : ℕ → ℕ) (c n : ℕ) → last_on channel c n ≡ None → (x : ℕ) → x < n → channel x ≢ c
none_found channel c zero h x l = absurd (omega (arith, l))
none_found channel c (suc n) h x l = elim (same_or_not (channel n) c) [
  | inl e ↦ absurd (let f : last_on channel c (suc n) ≡ Some n = at_last channel c n e in cc (f, h))
  | inr d ↦ elim (same_or_not x n) [
    | inl e ↦ subst (λ (y : ℕ). channel y ≢ c) (sym e) d
    | inr g ↦ none_found channel c n (sym (not_last channel c n d) ∙ h) x (omega (arith, l, g))
  ]
]

pub chains_length : (channel : ℕ → ℕ) (b n : ℕ) → length (chains_from channel b n) ≡ n
chains_length channel b zero = refl
chains_length channel b (suc n) = omega (arith, chains_length channel (suc b) n)

-- what stands at an index
chains_at : (channel : ℕ → ℕ) (b n i m a : ℕ) → m ≡ i + b → get_or (chains_from channel b n) i None ≡ Some a
    → (i < n) × (before_on channel m ≡ Some a)
chains_at channel b zero i m a e h = cc
chains_at channel b (suc n) zero m a e h = (omega arith, subst (λ (x : ℕ). before_on channel x ≡ Some a) (let f : b ≡ m = omega (arith, e) in f) h)
chains_at channel b (suc n) (suc i) m a e h =
    let o = chains_at channel (suc b) n i m a (omega (arith, e)) h in
    (omega (arith, o.0), o.1)

-- the channels of those that start
firsts : (ℕ → ℕ) → ℕ → Option ℕ → List ℕ → List ℕ
firsts channel b None cs = channel b ∷ cs
firsts channel b (Some a) cs = cs

start_channels : (ℕ → ℕ) → ℕ → ℕ → List ℕ
start_channels channel b zero = []
start_channels channel b (suc n) = firsts channel b (before_on channel b) (start_channels channel (suc b) n)

all_starts : (P : ℕ → Type 0) (channel : ℕ → ℕ) (b n : ℕ) → ((c : ℕ) → b ≤ c → c < b + n → before_on channel c ≡ None → P (channel c))
    → AllByRecursion P (start_channels channel b n)
unfolding start_channels firsts
all_starts P channel b zero h = tt
all_starts P channel b (suc n) h =
    let rest : AllByRecursion P (start_channels channel (suc b) n) =
    all_starts P channel (suc b) n (λ c g l. h c (omega (arith, g)) (omega (arith, l))) in
    elim (option_cases (before_on channel b)) [
      | inl e ↦ subst (λ (o : Option ℕ). AllByRecursion P (firsts channel b o (start_channels channel (suc b) n))) (sym e)
          (h b (omega arith) (omega arith) e, rest)
      | inr s ↦ subst (λ (o : Option ℕ). AllByRecursion P (firsts channel b o (start_channels channel (suc b) n))) (sym s.1) rest
    ]

starts_apart : (channel : ℕ → ℕ) (b n : ℕ) → IsDistinct nat_eq (start_channels channel b n)
unfolding start_channels firsts IsDistinct
starts_apart channel b zero = tt
starts_apart channel b (suc n) =
    let rest : IsDistinct nat_eq (start_channels channel (suc b) n) = starts_apart channel (suc b) n in
    elim (option_cases (before_on channel b)) [
      | inl e ↦ subst (λ (o : Option ℕ). IsDistinct nat_eq (firsts channel b o (start_channels channel (suc b) n))) (sym e) (
        all_starts (λ d. nat_eq (channel b) d ≡ false) channel (suc b) n
            (λ c g l f. not_same (channel b) (channel c) (none_found channel (channel c) c f b (omega (arith, g)))),
        rest,
      )
      | inr s ↦ subst (λ (o : Option ℕ). IsDistinct nat_eq (firsts channel b o (start_channels channel (suc b) n))) (sym s.1) rest
    ]

-- each start counts one
count_starts : (channel : ℕ → ℕ) (b n : ℕ) → starts_in (chains_from channel b n) ≡ length (start_channels channel b n)
unfolding start_channels firsts
count_starts channel b zero = refl
count_starts channel b (suc n) =
    let rest : starts_in (chains_from channel (suc b) n) ≡ length (start_channels channel (suc b) n) = count_starts channel (suc b) n in
    let P : Option ℕ → Type 0 = λ o. starts_in (o ∷ chains_from channel (suc b) n) ≡ length (firsts channel b o (start_channels channel (suc b) n)) in
    elim (option_cases (before_on channel b)) [ inl e ↦ subst P (sym e) (omega (arith, rest)) | inr r ↦ subst P (sym r.1) rest ]

-- the channel of a start is a run's
start_is_used : (channel : ℕ → ℕ) (q b j n : ℕ) → j ≡ b → is_member nat_eq (start_channels channel b n) q ≡ true →
    is_member nat_eq (map channel (range_with_len j n)) q ≡ true
unfolding start_channels firsts
start_is_used channel q b j zero e h = h
start_is_used channel q b j (suc n) e h =
    let first : Bool = nat_eq q (channel j) in
    let more : Bool = is_member nat_eq (map channel (range_with_len (j + 1) n)) q in
    let rest : is_member nat_eq (start_channels channel (suc b) n) q ≡ true → more ≡ true =
    start_is_used channel q (suc b) (j + 1) n (omega (arith, e)) in
    let P : Option ℕ → Type 0 = λ o. is_member nat_eq (firsts channel b o (start_channels channel (suc b) n)) q ≡ true in
    elim (option_cases (before_on channel b)) [
      | inl f ↦ elim (or_cases (nat_eq q (channel b)) (is_member nat_eq (start_channels channel (suc b) n) q) (subst P f h)) [
        | inl t ↦ or_left first more (subst (λ (x : ℕ). nat_eq q (channel x) ≡ true) (sym e) t)
        | inr m ↦ or_right first more (rest m)
      ]
      | inr s ↦ or_right first more (rest (subst P s.1 h))
    ]

-- a run's channel has a start, where no earlier run is on it
used_has_start : (channel : ℕ → ℕ) (q b j n : ℕ) → j ≡ b → ((x : ℕ) → x < b → channel x ≢ q) →
    is_member nat_eq (map channel (range_with_len j n)) q ≡ true → is_member nat_eq (start_channels channel b n) q ≡ true
unfolding start_channels firsts
used_has_start channel q b j zero e free h = h
used_has_start channel q b j (suc n) e free h =
    let rest : List ℕ = start_channels channel (suc b) n in
    let P : Option ℕ → Type 0 = λ o. is_member nat_eq (firsts channel b o rest) q ≡ true in
    elim (same_or_not (channel b) q) [
      | inl here ↦ elim (option_cases (before_on channel b)) [
        | inl f ↦ subst P (sym f) (or_left (nat_eq q (channel b)) (is_member nat_eq rest q) (grind (arith, nat_tests)))
        | inr s ↦ absurd (let o = found channel (channel b) b s.0 s.1 in free s.0 o.0 (o.1 ∙ here))
      ]
      | inr other ↦
          let no : nat_eq q (channel j) ≡ false = subst (λ (x : ℕ). nat_eq q (channel x) ≡ false) (sym e) (grind (arith, nat_tests)) in
          let m : is_member nat_eq rest q ≡ true = used_has_start channel q (suc b) (j + 1) n (omega (arith, e))
          (λ x l. elim (same_or_not x b) [
            | inl s ↦ subst (λ (y : ℕ). channel y ≢ q) (sym s) other
            | inr d ↦ free x (omega (arith, l, d))
          ])
          (sym (ap (λ (y : Bool). y || is_member nat_eq (map channel (range_with_len (j + 1) n)) q) no) ∙ h) in
          elim (option_cases (before_on channel b)) [
            | inl f ↦ subst P (sym f) (or_right (nat_eq q (channel b)) (is_member nat_eq rest q) m)
            | inr s ↦ subst P (sym s.1) m
          ]
    ]

-- so the starts are as many as the channels
pub starts_are_channels : (channel : ℕ → ℕ) (n : ℕ) → starts_in (chains_from channel 0 n) ≡ distinct_count nat_eq (map channel (range_with_len 0 n))
starts_are_channels channel n = count_starts channel 0 n ∙
    length-from_keys nat_eq_equiv (start_channels channel 0 n) (map channel (range_with_len 0 n)) (starts_apart channel 0 n)
    (λ q. both_ways (is_member nat_eq (start_channels channel 0 n) q) (is_member nat_eq (map channel (range_with_len 0 n)) q)
    (start_is_used channel q 0 0 n refl) (used_has_start channel q 0 0 n refl (λ x l. absurd (omega (arith, l)))))

pub cost_is_price : (t : Table) (channel : ℕ → ℕ) (b n : ℕ) → price_from t b (chains_from channel b n) ≡ cost_from t channel b n
cost_is_price t channel b zero = refl
cost_is_price t channel b (suc n) = ap (λ (x : ℕ). cost_at t b (before_on channel b) + x) (cost_is_price t channel (suc b) n)

module _ (t : Table) (first last channel : ℕ → ℕ) (runs : AreRuns t first last) (is : IsAssignment t first last channel) where
  -- a run ends before the next on its channel begins
  ends_before : (a b : ℕ) → a < b → b < t.runs → channel a ≡ channel b → last a < first b
  ends_before a b ab bl e = elim (lt_or_ge (last a) (first b)) [
    | inl l ↦ l
    | inr g ↦ absurd (is.apart a b (first b) (omega (arith, ab, bl)) bl (omega (arith, ab))
        (runs.ordered a b ab bl, g) (omega arith, runs.some_position b bl) e)
  ]

  entry : (b a : ℕ) → get_or (chains_from channel 0 t.runs) b None ≡ Some a
      → (b < t.runs) × (a < b) × (channel a ≡ channel b) × ((x : ℕ) → a < x → x < b → channel x ≢ channel b)
  entry b a h =
      let o = chains_at channel 0 t.runs b b a (omega arith) h in
      let f = found channel (channel b) b a o.1 in
      (o.0, f.0, f.1, f.2)

  same_run : (b c a : ℕ) → get_or (chains_from channel 0 t.runs) b None ≡ Some a → get_or (chains_from channel 0 t.runs) c None ≡ Some a → b < c → ⊥
  same_run b c a p q low =
      let x = entry b a p in
      let y = entry c a q in
      y.3 b x.1 low (sym x.2 ∙ y.2)

  pub assignment_cover : IsCover t (chains_from channel 0 t.runs)
  assignment_cover = record {
    whole = chains_length channel 0 t.runs;
    allowed = λ b a h. let x = entry b a h in (omega (arith, x.0, x.1), runs.follows a b x.1 x.0 (ends_before a b x.1 x.0 x.2));
    once = λ b c a p q. elim (lt_or_ge b c) [
      | inl l ↦ absurd (same_run b c a p q l)
      | inr g ↦ elim (lt_or_ge c b) [ inl l ↦ absurd (same_run c b a q p l) | inr l ↦ omega (arith, l, g) ]
    ];
    few = omega (arith, is.few, starts_are_channels channel t.runs);
  }

  pub assignment_price : price t (chains_from channel 0 t.runs) ≡ assignment_cost t channel
  assignment_price = cost_is_price t channel 0 t.runs

  pub assignment_least : (p : ℕ) → IsLeast t p → p ≤ assignment_cost t channel
  assignment_least p least =
      let l : p ≤ price t (chains_from channel 0 t.runs) = least.least (chains_from channel 0 t.runs) assignment_cover in
      omega (arith, l, assignment_price)
