-- A cover is an assignment of channels.
use Rattle.std.proofs.Common.{◌≡◌, ◌≢◌, inl, inr, ℕ, zero, suc, ◌+◌, ◌<◌, ◌≤◌, List, [], ◌∷◌, length, get_or, take, refl, sym, ap, ◌∙◌, subst, arith, ext_get_or}
use Rattle.std.specs.Prelude.{Option, Some, None, option_map, unwrap_or}
use Rattle.least_replay.specs.Cover.{Table, starts_in, IsCover, price}
use Rattle.least_replay.specs.Assignments.{AreRuns, IsAssignment, last_on, before_on, chains_from, start_of, chain_of, assignment_cost}
use Rattle.least_replay.proofs.Assignments.{at_last, not_last, chains_length, starts_are_channels, cost_is_price}
use Rattle.least_replay.proofs.Duality.{lt_or_ge}
use Rattle.least_replay.proofs.Lists.{inside}
use Rattle.least_replay.proofs.Trees.{same_or_not, option_cases}

-- a later start has more starts before it
more_starts : (ps : List (Option ℕ)) (s b : ℕ) → s < b → b ≤ length ps → get_or ps s None ≡ None → starts_in (take s ps) < starts_in (take b ps)
more_starts [] s b l g e = absurd (omega (arith, l, g))
more_starts (p ∷ ps) s zero l g e = absurd (omega (arith, l))
more_starts (None ∷ ps) zero (suc b) l g e = omega arith
more_starts (Some a ∷ ps) zero (suc b) l g e = cc (e)
more_starts (None ∷ ps) (suc s) (suc b) l g e = omega (arith, more_starts ps s b (omega (arith, l)) (omega (arith, g)) e)
more_starts (Some a ∷ ps) (suc s) (suc b) l g e = more_starts ps s b (omega (arith, l)) (omega (arith, g)) e

last_none : (channel : ℕ → ℕ) (c n : ℕ) → ((x : ℕ) → x < n → channel x ≢ c) → last_on channel c n ≡ None
last_none channel c zero h = refl
last_none channel c (suc n) h = not_last channel c n (h n (omega arith)) ∙ last_none channel c n (λ x l. h x (omega (arith, l)))

last_some : (channel : ℕ → ℕ) (c n a : ℕ) → a < n → channel a ≡ c → ((x : ℕ) → a < x → x < n → channel x ≢ c) → last_on channel c n ≡ Some a
last_some channel c zero a l e h = absurd (omega (arith, l))
last_some channel c (suc n) a l e h = elim (same_or_not a n) [
  | inl s ↦ at_last channel c n (subst (λ (x : ℕ). channel x ≡ c) s e) ∙ ap (λ (x : ℕ). Some x) (sym s)
  | inr d ↦ not_last channel c n (h n (omega (arith, l, d)) (omega arith))
      ∙ last_some channel c n a (omega (arith, l, d)) e (λ x g m. h x g (omega (arith, m)))
]

chains_read : (channel : ℕ → ℕ) (b n i m : ℕ) → m ≡ i + b → i < n → get_or (chains_from channel b n) i None ≡ before_on channel m
chains_read channel b zero i m e l = absurd (omega (arith, l))
chains_read channel b (suc n) zero m e l = ap (before_on channel) (let f : b ≡ m = omega (arith, e) in f)
chains_read channel b (suc n) (suc i) m e l = chains_read channel (suc b) n i m (omega (arith, e)) (omega (arith, l))

module _ (t : Table) (first last : ℕ → ℕ) (before : List (Option ℕ)) (runs : AreRuns t first last) (is : IsCover t before) where
  -- what stands before a run ends before it begins
  entry : (b a : ℕ) → get_or before b None ≡ Some a → (b < t.runs) × (a < b) × (last a < first b)
  entry b a h =
      let may = is.allowed b a h in
      let low : b < t.runs = omega (arith, inside before b a h, is.whole) in
      let ends : last a < first b = runs.only a b may.0 low may.1 in
      let some : first a ≤ last a = runs.some_position a may.0 in
      let earlier : a < b = elim (lt_or_ge a b) [
        | inl l ↦ l
        | inr g ↦ elim (same_or_not a b) [
          | inl e ↦ absurd (let f : last a < first a = subst (λ (x : ℕ). last a < first x) (sym e) ends in omega (arith, some, f))
          | inr d ↦ absurd (let o : first b ≤ first a = runs.ordered b a (omega (arith, g, d)) may.0 in omega (arith, o, some, ends))
        ]
      ] in
      (low, earlier, ends)

  at_start : (n b : ℕ) → get_or before b None ≡ None → start_of before n b ≡ b
  at_start zero b e = refl
  at_start (suc n) b e = ap (λ (o : Option ℕ). unwrap_or (option_map (start_of before n) o) b) e

  behind : (n b a : ℕ) → get_or before b None ≡ Some a → start_of before (suc n) b ≡ start_of before n a
  behind n b a e = ap (λ (o : Option ℕ). unwrap_or (option_map (start_of before n) o) b) e

  -- a chain's start is a start
  start_is : (n b : ℕ) → b ≤ n → (start_of before n b ≤ b) × (get_or before (start_of before n b) None ≡ None)
  start_is zero b l = elim (option_cases (get_or before b None)) [
    | inl e ↦ (omega arith, e)
    | inr s ↦ absurd (omega (arith, l, (entry b s.0 s.1).1))
  ]
  start_is (suc n) b l =
      let P : ℕ → Type 0 = λ x. (x ≤ b) × (get_or before x None ≡ None) in
      elim (option_cases (get_or before b None)) [
        | inl e ↦ subst P (sym (at_start (suc n) b e)) (omega arith, e)
        | inr s ↦
            let low : s.0 < b = (entry b s.0 s.1).1 in
            let o = start_is n s.0 (omega (arith, l, low)) in
            subst P (sym (behind n b s.0 s.1)) (omega (arith, low, o.0), o.1)
      ]

  -- no more steps than a run's number are needed
  same_start : (n m b : ℕ) → b ≤ n → b ≤ m → start_of before n b ≡ start_of before m b
  same_start zero m b l g = elim (option_cases (get_or before b None)) [
    | inl e ↦ sym (at_start m b e)
    | inr s ↦ absurd (omega (arith, l, (entry b s.0 s.1).1))
  ]
  same_start (suc n) zero b l g = elim (option_cases (get_or before b None)) [
    | inl e ↦ at_start (suc n) b e
    | inr s ↦ absurd (omega (arith, g, (entry b s.0 s.1).1))
  ]
  same_start (suc n) (suc m) b l g = elim (option_cases (get_or before b None)) [
    | inl e ↦ at_start (suc n) b e ∙ sym (at_start (suc m) b e)
    | inr s ↦
        let low : s.0 < b = (entry b s.0 s.1).1 in
        behind n b s.0 s.1 ∙ same_start n m s.0 (omega (arith, l, low)) (omega (arith, g, low)) ∙ sym (behind m b s.0 s.1)
  ]

  same_chain : (b a : ℕ) → get_or before b None ≡ Some a → chain_of before b ≡ chain_of before a
  same_chain b a h =
      let low : a < b = (entry b a h).1 in
      let e : start_of before b b ≡ start_of before a a =
      same_start b (suc b) b (omega arith) (omega arith) ∙ behind b b a h ∙ same_start b a a (omega (arith, low)) (omega arith) in
      ap (λ (s : ℕ). starts_in (take s before)) e

  -- a start is on no chain of an earlier run
  other_chain : (b x : ℕ) → b < t.runs → get_or before b None ≡ None → x < b → chain_of before x ≢ chain_of before b
  other_chain b x bl h l = λ same.
      let s = start_is x x (omega arith) in
      let more : starts_in (take (start_of before x x) before) < starts_in (take b before) =
      more_starts before (start_of before x x) b (omega (arith, l, s.0)) (omega (arith, bl, is.whole)) s.1 in
      let e : chain_of before b ≡ starts_in (take b before) = ap (λ (i : ℕ). starts_in (take i before)) (at_start b b h) in
      omega (arith, more, e, same)

  -- between a run and the one before it none is on their chain
  none_between : (n a b x : ℕ) → x < n → get_or before b None ≡ Some a → a < x → x < b → chain_of before x ≢ chain_of before b
  none_between zero a b x xn h ax xb = absurd (omega (arith, xn))
  none_between (suc n) a b x xn h ax xb = λ same.
      let low : b < t.runs = (entry b a h).0 in
      let back : chain_of before a ≡ chain_of before x = sym (same_chain b a h) ∙ sym same in
      elim (option_cases (get_or before x None)) [
        | inl e ↦ other_chain x a (omega (arith, low, xb)) e ax back
        | inr s ↦
            let earlier : s.0 < x = (entry x s.0 s.1).1 in
            elim (same_or_not s.0 a) [
              | inl e ↦
                  let twice : x ≡ b = is.once x b a (subst (λ (y : ℕ). get_or before x None ≡ Some y) e s.1) h in
                  omega (arith, twice, xb)
              | inr d ↦ elim (lt_or_ge a s.0) [
                | inl up ↦ none_between n a b s.0 (omega (arith, earlier, xn)) h up (omega (arith, earlier, xb)) (sym (same_chain x s.0 s.1) ∙ same)
                | inr down ↦ none_between n s.0 x a (omega (arith, ax, xn)) s.1 (omega (arith, down, d)) ax back
              ]
            ]
      ]

  -- a run ends before a later one on its chain begins
  ends_before : (n a b : ℕ) → b < n → a < b → b < t.runs → chain_of before a ≡ chain_of before b → last a < first b
  ends_before zero a b bn ab bl same = absurd (omega (arith, bn))
  ends_before (suc n) a b bn ab bl same = elim (option_cases (get_or before b None)) [
    | inl e ↦ absurd (other_chain b a bl e ab same)
    | inr s ↦
        let x = entry b s.0 s.1 in
        elim (same_or_not s.0 a) [
          | inl e ↦ subst (λ (y : ℕ). last y < first b) e x.2
          | inr d ↦ elim (lt_or_ge a s.0) [
            | inl up ↦
                let low : s.0 < t.runs = omega (arith, x.1, bl) in
                let old : last a < first s.0 = ends_before n a s.0 (omega (arith, x.1, bn)) up low (same ∙ same_chain b s.0 s.1) in
                let some : first s.0 ≤ last s.0 = runs.some_position s.0 low in
                omega (arith, old, some, x.2)
            | inr down ↦ absurd (none_between (suc a) s.0 b a (omega arith) s.1 (omega (arith, down, d)) ab same)
          ]
        ]
  ]

  on_chain : (b : ℕ) → b < t.runs → before_on (chain_of before) b ≡ get_or before b None
  on_chain b bl = elim (option_cases (get_or before b None)) [
    | inl e ↦ last_none (chain_of before) (chain_of before b) b (λ x l. other_chain b x bl e l) ∙ sym e
    | inr s ↦ last_some (chain_of before) (chain_of before b) b s.0 (entry b s.0 s.1).1 (sym (same_chain b s.0 s.1))
        (λ x g l. none_between (suc x) s.0 b x (omega arith) s.1 g l) ∙ sym s.1
  ]

  -- the chains of the channels are those of the cover
  chains_are : chains_from (chain_of before) 0 t.runs ≡ before
  chains_are = ext_get_or None (chains_from (chain_of before) 0 t.runs) before (chains_length (chain_of before) 0 t.runs ∙ sym is.whole)
      (λ i l.
      let low : i < t.runs = omega (arith, l, chains_length (chain_of before) 0 t.runs) in
      chains_read (chain_of before) 0 t.runs i i (omega arith) low ∙ on_chain i low)

  pub cover_assignment : IsAssignment t first last (chain_of before)
  cover_assignment = record {
    few = (let e : starts_in (chains_from (chain_of before) 0 t.runs) ≡ starts_in before = ap starts_in chains_are in
        omega (arith, e, is.few, starts_are_channels (chain_of before) t.runs));
    apart = λ a b p al bl d pa pb same. elim (lt_or_ge a b) [
      | inl l ↦ let e : last a < first b = ends_before (suc b) a b (omega arith) l bl same in omega (arith, e, pa.1, pb.0)
      | inr g ↦ let e : last b < first a = ends_before (suc a) b a (omega arith) (omega (arith, g, d)) al (sym same) in omega (arith, e, pb.1, pa.0)
    ];
  }

  pub cover_cost : assignment_cost t (chain_of before) ≡ price t before
  cover_cost = sym (cost_is_price t (chain_of before) 0 t.runs) ∙ ap (price t) chains_are
