-- The price of an assignment is what the table of costs says of it.
use Rattle.std.proofs.Common.{◌≡◌, ◌≢◌, ◌≤◌, ◌<◌, ◌+◌, ◌++◌, ℕ, zero, suc, List, [], ◌∷◌, Bool, true, false, cond, Option, Some, None, length, map, filter, refl, sym, ap, ◌∙◌, subst, arith, inl, inr, nat_eq}
use Rattle.std.specs.Prelude.{unwrap_or}
use Rattle.std.specs.Set.{is_member}
use Rattle.std.proofs.lemmas.Bool.{cases_lt, cases_eq, cases_Bool, both_ways, or_cases, lt-ltb, eqb-true, eq-eqb, false_from_ne_true}
use Rattle.std.proofs.lemmas.List.{length-map, length-append}
use Rattle.mt_base.specs.Midi.{MidiEvent}
use Rattle.midi_model.specs.Channel.{State, default_state}
use Rattle.midi_model.specs.Bring.{bring}
use Rattle.retune_model.specs.Options.{Options}
use Rattle.retune_model.specs.Ports.{port_at, of_port, is_reset_at}
use Rattle.retune_model.specs.Faults.{Targets, is_part}
use Rattle.retune_model.specs.Pairs.{Pair, is_same_pair}
use Rattle.retune_model.specs.Places.{nth}
use Rattle.retune_model.specs.PortNeed.{pairs_on, held_on}
use Rattle.retune_model.specs.RestLaws.{ResetsEndAll}
use Rattle.retune_model.specs.Runs.{since, begins}
use Rattle.retune_model.specs.RunLaws.{PairsAreTold}
use Rattle.channel_model.specs.Choice.{pair_on, last_or, last_on as last_at, left_state, setup_length, beginning_at, cost_of, price_to, price}
use Rattle.plan_laws.proofs.Placing.{on_found, on_only}
use Rattle.least_replay.specs.Cover.{Table, cost_at}
use Rattle.least_replay.specs.Assignments.{last_on, before_on, cost_from, assignment_cost}
use Rattle.least_replay.specs.Measure.{Run, run_at, runs_of, resets_to, needed_by, found_behind, IsMeasureOf, first_of}
use Rattle.least_replay.specs.Found.{runs_up, IsThere}
use Rattle.least_replay.proofs.RunLists.{nth_left, nth_below, nth_there, nth_same, nth_last, IsRun, new_run, all_runs, ordered, since_first, begun_of, begun_parts, member_passes}
use Rattle.least_replay.proofs.Costing.{first_is, resets_grow}
use Rattle.least_replay.proofs.Assignments.{found, none_found}
use Rattle.least_replay.proofs.Trees.{option_cases}

-- ---- lists

nth_right : {A : Type 0} (xs ys : List A) (i : ℕ) (y : A) → nth i ys ≡ Some y → nth (length xs + i) (xs ++ ys) ≡ Some y
nth_right [] ys i y h = ap (λ j. nth j ys) (let e : 0 + i ≡ i = omega arith in e) ∙ h
nth_right (x ∷ xs) ys i y h =
    ap (λ j. nth j (x ∷ (xs ++ ys))) (let e : suc (length xs) + i ≡ suc (length xs + i) = omega arith in e) ∙ nth_right xs ys i y h

nth_mapped : {A B : Type 0} (f : A → B) (xs : List A) (i : ℕ) (x : A) → nth i xs ≡ Some x → nth i (map f xs) ≡ Some (f x)
nth_mapped f [] i x h = absurd cc
nth_mapped f (y ∷ xs) zero x h = (let s : y ≡ x = cc in ap (λ z. let w : Option _ = Some (f z) in w) s)
nth_mapped f (y ∷ xs) (suc i) x h = nth_mapped f xs i x h

member_nth : (ps : List Pair) (p : Pair) → PairsAreTold → is_member is_same_pair ps p ≡ true → (i : ℕ) × (nth i ps ≡ Some p)
member_nth [] p told h = absurd (both_ways false refl h)
member_nth (q ∷ ps) p told h = elim (or_cases (is_same_pair p q) (is_member is_same_pair ps p) h) [
  | inl e ↦ (0, ap (λ x. let w : Option Pair = Some x in w) (sym ((told p q).0 e)))
  | inr m ↦ (let rest = member_nth ps p told m in (suc rest.0, rest.1))
]

-- ---- what a place was last used for

last_none : (reset : ℕ → Bool) (at : ℕ → List Pair) (row : ℕ → ℕ) (c k : ℕ) → ((j : ℕ) → j ≤ k → pair_on at row c j ≡ None)
    → last_at reset at row c k ≡ None
last_none reset at row c zero none = refl
last_none reset at row c (suc k) none =
    ap (λ x. last_or (suc k) x (reset (suc k)) (last_at reset at row c k)) (none (suc k) (omega arith))
    ∙ ap (last_or (suc k) None (reset (suc k))) (last_none reset at row c k (λ j l. none j (omega (arith, l))))
    ∙ either (reset (suc k))
  where
    either : (b : Bool) → last_or (suc k) None b None ≡ None
    either true = refl
    either false = refl

-- by a run that ended at position j, or before the last reset
last_some : (reset : ℕ → Bool) (at : ℕ → List Pair) (row : ℕ → ℕ) (c j : ℕ) (p : Pair) (k : ℕ) → 0 < j → j ≤ k → pair_on at row c j ≡ Some p
    → ((i : ℕ) → j < i → i ≤ k → pair_on at row c i ≡ None)
    → last_at reset at row c k ≡ cond (nat_eq (resets_to reset j) (resets_to reset k)) (Some (j, p)) None
last_some reset at row c j p zero some le on none = absurd (omega (arith, some, le))
last_some reset at row c j p (suc k) some le on none = elim (cases_lt j (suc k)) [
  | inl l ↦ (let more = last_some reset at row c j p k some (omega (arith, l)) on (λ i a b. none i a (omega (arith, b))) in
      let grow = resets_grow reset j k (omega (arith, l)) in
      ap (λ x. last_or (suc k) x (reset (suc k)) (last_at reset at row c k)) (none (suc k) l (omega arith))
      ∙ pick (reset (suc k)) more grow)
  | inr l ↦ (let e : suc k ≡ j = omega (arith, l, le) in
      ap (λ x. last_or (suc k) x (reset (suc k)) (last_at reset at row c k)) (ap (pair_on at row c) e ∙ on)
      ∙ ap (λ i. let y : Option (ℕ × Pair) = Some (i, p) in y) e
      ∙ sym (ap (λ b. cond b (Some (j, p)) None) (eq-eqb (resets_to reset j) (resets_to reset (suc k)) (ap (resets_to reset) (sym e)))))
]
  where
    pick : (b : Bool) → last_at reset at row c k ≡ cond (nat_eq (resets_to reset j) (resets_to reset k)) (Some (j, p)) None
        → resets_to reset j ≤ resets_to reset k
        → last_or (suc k) None b (last_at reset at row c k)
        ≡ cond (nat_eq (resets_to reset j) (cond b (suc (resets_to reset k)) (resets_to reset k))) (Some (j, p)) None
    pick true more grow = sym (ap (λ b. cond b (Some (j, p)) None) (false_from_ne_true (nat_eq (resets_to reset j) (suc (resets_to reset k)))
        (λ h. (let e = eqb-true (resets_to reset j) (suc (resets_to reset k)) h in absurd (omega (arith, e, grow))))))
    pick false more grow = more

module _ (told : PairsAreTold) (ends : ResetsEndAll) (o : Options) (table : Targets) (es : List MidiEvent) (z : ℕ)
    (first_empty : pairs_on o (is_part o) table es z 0 ≡ [])
    (few : (k : ℕ) → k < length es → length (beginning_at (pairs_on o (is_part o) table es z) k) ≤ 1) (row : ℕ → ℕ)
    (apart : (a b : ℕ) (q s : Run) (j : ℕ) → nth a (runs_of o table es z) ≡ Some q → nth b (runs_of o table es z) ≡ Some s → a ≢ b
    → q.first ≤ j → j ≤ q.last → s.first ≤ j → j ≤ s.last → row q.first ≢ row s.first) where
  abbrev at : ℕ → List Pair
  at = pairs_on o (is_part o) table es z

  abbrev all : List Run
  all = runs_of o table es z

  abbrev up : ℕ → List Run
  up k = runs_up o table es z k

  -- ---- the runs that begin up to a position are the first ones

  prefix : (j k : ℕ) → j ≤ k → (b : ℕ) (s : Run) → nth b (up j) ≡ Some s → nth b (up k) ≡ Some s
  prefix j zero le b s n = (let e : j ≡ 0 = omega (arith, le) in ap (λ i. nth b (up i)) (sym e) ∙ n)
  prefix j (suc k) le b s n = elim (cases_lt j (suc k)) [
    | inl l ↦ nth_left (up k) (map (run_at at (length es) (suc k)) (beginning_at at k)) b s (prefix j k (omega (arith, l)) b s n)
    | inr l ↦ (let e : j ≡ suc k = omega (arith, l, le) in ap (λ i. nth b (up i)) (sym e) ∙ n)
  ]

  -- what is there belongs to a run
  abbrev Belongs : ℕ → Pair → Type 0
  Belongs k p = (b : ℕ) × (s : Run) × (nth b (up k) ≡ Some s) × (s.pair ≡ p) × (s.first ≤ k) × (k ≤ s.last)

  belongs : (k : ℕ) → k ≤ length es → (p : Pair) → IsThere o table es z k p → Belongs k p
  belongs zero le p there = absurd (both_ways false refl (ap (λ ps. is_member is_same_pair ps p) (sym first_empty) ∙ there))
  belongs (suc k) le p there =
      let new : List Run = map (run_at at (length es) (suc k)) (beginning_at at k) in
      elim (cases_Bool (is_member is_same_pair (at k) p)) [
        | inl was ↦ (let x = belongs k (omega (arith, le)) p was in
            let s : Run = x.1 in
            let is = (all_runs at (length es) k (omega (arith, le)) x.0 s x.2).0 in
            let first = x.4 in
            let lasts = x.5 in (
              x.0,
              s,
              nth_left (up k) new x.0 s x.2,
              x.3,
              omega (arith, first),
              elim (cases_lt k s.last) [
                | inl l ↦ omega (arith, l)
                | inr l ↦ (let e : s.last ≡ k = omega (arith, l, lasts) in
                    absurd (both_ways (is_member is_same_pair (at (suc k)) p)
                    (ap (λ q. is_member is_same_pair (at (suc k)) q) (sym x.3) ∙ ap (λ i. is_member is_same_pair (at (suc i)) s.pair) (sym e)
                    ∙ is.ends (omega (arith, e, le))) there))
              ],
            ))
        | inr gone ↦ (let begun = begun_of at k p there gone in
            let m = member_nth (beginning_at at k) p told (member_passes (λ q. begins is_same_pair at k q) (at (suc k)) p told there begun) in
            let is = new_run at (length es) k p (omega (arith, le)) begun in (
              length (up k) + m.0,
              run_at at (length es) (suc k) p,
              nth_right (up k) new m.0 (run_at at (length es) (suc k) p) (nth_mapped (run_at at (length es) (suc k)) (beginning_at at k) m.0 p m.1),
              refl,
              omega arith,
              is.order,
            ))
      ]

  is_run : (b : ℕ) (s : Run) → nth b all ≡ Some s → IsRun at (length es) s × (s.first ≤ length es)
  is_run b s n = all_runs at (length es) (length es) (omega arith) b s n

  in_all : (k : ℕ) → k ≤ length es → (b : ℕ) (s : Run) → nth b (up k) ≡ Some s → nth b all ≡ Some s
  in_all k le b s n = prefix k (length es) le b s n

  -- no run is on a place
  on_none : (c j : ℕ) → j ≤ length es
      → ((b : ℕ) (s : Run) → nth b (up j) ≡ Some s → s.first ≤ j → j ≤ s.last → row s.first ≡ c → ⊥) → pair_on at row c j ≡ None
  on_none c j le none = pick (pair_on at row c j) refl
    where
      pick : (x : Option Pair) → pair_on at row c j ≡ x → pair_on at row c j ≡ None
      pick None e = e
      pick (Some p) e =
          let h = on_found told (λ q. row (since is_same_pair at q j)) c (at j) p e in
          let x = belongs j le p h.0 in
          let s : Run = x.1 in
          let is = (all_runs at (length es) j le x.0 s x.2).0 in
          absurd (none x.0 s x.2 x.4 x.5 (ap row (sym (since_first at (length es) s is j x.4 x.5) ∙ ap (λ q. since is_same_pair at q j) x.3) ∙ h.1))

  -- or the one that is
  on_some : (b : ℕ) (s : Run) (j : ℕ) → j ≤ length es → nth b all ≡ Some s → s.first ≤ j → j ≤ s.last → pair_on at row (row s.first) j ≡ Some s.pair
  on_some b s j le n f l =
      let is = (is_run b s n).0 in
      on_only told (λ q. row (since is_same_pair at q j)) (row s.first) (at j) s.pair (is.has j f l) (ap row (since_first at (length es) s is j f l))
      (λ q there same. (let x = belongs j le q there in
      let t : Run = x.1 in
      let nt = in_all j le x.0 t x.2 in
      let it = (is_run x.0 t nt).0 in
      let place : row t.first ≡ row s.first =
      ap row (sym (since_first at (length es) t it j x.4 x.5) ∙ ap (λ p. since is_same_pair at p j) x.3) ∙ same in
      elim (cases_eq x.0 b) [
        | inl e ↦ sym x.3 ∙ ap (λ (r : Run). r.pair) (nth_same all b t s (subst (λ i. nth i all ≡ Some t) e nt) n)
        | inr d ↦ absurd (apart x.0 b t s j nt n d x.4 x.5 f l place)
      ]))

  -- ---- a run

  module _ (t : Table) (measure : IsMeasureOf o table es z t) where
    abbrev ch : ℕ → ℕ
    ch b = row (first_of all b)

    ch_is : (b : ℕ) (s : Run) → nth b all ≡ Some s → ch b ≡ row s.first
    ch_is b s n = ap row (first_is all b s n)

    left_or_default : (b : Bool) (x : ℕ × Pair) → left_state o table (port_at es z) (held_on o (is_part o) table es z) (cond b (Some x) None)
        ≡ cond b (left_state o table (port_at es z) (held_on o (is_part o) table es z) (Some x)) default_state
    left_or_default true x = refl
    left_or_default false x = refl

    abbrev cost_in : ℕ → ℕ → ℕ
    cost_in n c = cost_at t n (last_on ch c n)

    run_cost : (k : ℕ) (p : Pair) → k < length es → begins is_same_pair at k p ≡ true → beginning_at at k ≡ p ∷ []
        → setup_length o table (port_at es z) row p (row (suc k)) k ≡ cost_at t (length (up k)) (before_on ch (length (up k)))
    run_cost k p lk begun one =
        let n : ℕ = length (up k) in
        let s : Run = run_at at (length es) (suc k) p in
        let c : ℕ = row (suc k) in
        let le : k ≤ length es = omega (arith, lk) in
        let now : nth n all ≡ Some s = in_all (suc k) (omega (arith, lk)) n s
        (ap (λ ps. nth n (up k ++ map (run_at at (length es) (suc k)) ps)) one ∙ nth_last (up k) s) in
        let is = new_run at (length es) k p lk begun in
        let mine : ch n ≡ c = ch_is n s now in
        let reset : ℕ → Bool = is_reset_at (of_port z es) in
        let needs : State = needed_by o table (port_at es z) s in
        let calm : reset (suc k) ≡ false = false_from_ne_true (reset (suc k)) (λ h. both_ways false refl
        (ap (λ ps. is_member is_same_pair ps p) (sym (ends o (is_part o) table (port_at es z) k h)) ∙ (begun_parts at k p begun).0)) in
        let still : resets_to reset (suc k) ≡ resets_to reset k = ap (λ b. cond b (suc (resets_to reset k)) (resets_to reset k)) calm in
        let from : Option (ℕ × Pair) → ℕ =
        λ x. length (bring 0 (left_state o table (port_at es z) (held_on o (is_part o) table es z) x) needs) in
        elim (option_cases (last_on ch (ch n) n)) [
          | inl none ↦ ap from (last_none reset at row c k (λ j lj. on_none c j (omega (arith, lj, le)) (λ b q nb fb lb same.
              (let nb' = prefix j k lj b q nb in
              none_found ch (ch n) n none b (nth_below (up k) b q nb')
              (ch_is b q (in_all k le b q nb') ∙ same ∙ sym mine)))))
              ∙ sym (ap (cost_at t n) none ∙ measure.start n s now)
          | inr some ↦ (let a : ℕ = some.0 in
              let o' = found ch (ch n) n a some.1 in
              let xa = nth_there (up k) a o'.0 in
              let q : Run = xa.0 in
              let na = in_all k le a q xa.1 in
              let iq = (is_run a q na).0 in
              let fq = (all_runs at (length es) k le a q xa.1).1 in
              let same : row q.first ≡ c = sym (ch_is a q na) ∙ o'.1 ∙ mine in
              let an : a < n = o'.0 in
              let order = iq.order in
              let over : q.last ≤ k = elim (cases_lt k q.last) [
                | inl l ↦ absurd (apart a n q s (suc k) na now (omega (arith, an)) (omega (arith, fq)) (omega (arith, l)) (omega arith) is.order
                    (same ∙ refl))
                | inr l ↦ l
              ] in
              let fq1 = iq.first in
              let last : last_at reset at row c k ≡ cond (nat_eq (resets_to reset q.last) (resets_to reset k)) (Some (q.last, q.pair)) None =
              last_some reset at row c q.last q.pair k (omega (arith, order, fq1)) over
              (ap (λ d. pair_on at row d q.last) (sym same) ∙ on_some a q q.last (omega (arith, over, le)) na order (omega arith))
              (λ i li ki. on_none c i (omega (arith, ki, le)) (λ b r nb fb lb place.
              (let nb' = prefix i k ki b r nb in
              let nr = in_all k le b r nb' in
              let bn = nth_below (up k) b r nb' in
              elim (cases_lt a b) [
                | inl l ↦ o'.2 b l bn (ch_is b r nr ∙ place ∙ sym mine)
                | inr l ↦ elim (cases_eq b a) [
                  | inl e ↦ (let rq : r ≡ q = nth_same all a r q (subst (λ x. nth x all ≡ Some r) e nr) na in
                      let m : r.last ≡ q.last = ap (λ (x : Run). x.last) rq in absurd (omega (arith, li, lb, m)))
                  | inr d ↦ (let f = ordered at (length es) few (length es) (omega arith) b a r q nr na (omega (arith, l, d)) in
                      apart b a r q q.first nr na d (omega (arith, f)) (omega (arith, order, li, lb)) (omega arith) order (place ∙ sym same))
                ]
              ]))) in
              let before : q.last < s.first = omega (arith, over) in
              ap from (last ∙ ap (λ x. cond (nat_eq (resets_to reset q.last) x) (Some (q.last, q.pair)) None) (sym still))
              ∙ ap (λ x. length (bring 0 x needs)) (left_or_default (nat_eq (resets_to reset q.last) (resets_to reset (suc k))) (q.last, q.pair))
              ∙ sym (ap (cost_at t n) some.1 ∙ ap (λ x. unwrap_or x 0) (measure.after a n q s na now
              ∙ ap (λ x. cond x (Some (length (bring 0 (found_behind o table es z q s) needs))) None) (lt-ltb q.last s.first before))))
        ]

    -- ---- all runs

    cost_more : (b n : ℕ) → cost_from t ch b (suc n) ≡ cost_from t ch b n + cost_at t (b + n) (before_on ch (b + n))
    cost_more b zero = (let e : b ≡ b + 0 = omega arith in
        let f = ap (λ i. cost_at t i (before_on ch i)) e in omega (arith, f))
    cost_more b (suc n) = (let more = cost_more (suc b) n in
        let e : suc b + n ≡ b + suc n = omega arith in
        let f = ap (λ i. cost_at t i (before_on ch i)) e in omega (arith, more, f))

    price_up : (k : ℕ) → k ≤ length es
        → price_to at (λ p c j. setup_length o table (port_at es z) row p c j) row k ≡ cost_from t ch 0 (length (up k))
    price_up zero le = refl
    price_up (suc k) le =
        let new : List Run = map (run_at at (length es) (suc k)) (beginning_at at k) in
        let long = length-append (up k) new in
        let many = length-map (beginning_at at k) (run_at at (length es) (suc k)) in
        let was = price_up k (omega (arith, le)) in
        let lk : k < length es = omega (arith, le) in
        by (beginning_at at k) refl (few k lk) was (λ p one begun. run_cost k p lk begun one)
        ∙ ap (cost_from t ch 0) (let e : length (up k) + length (beginning_at at k) ≡ length (up (suc k)) = omega (arith, long, many) in e)
      where
        passes : (f : Pair → Bool) (xs : List Pair) (p : Pair) (ps : List Pair) → filter f xs ≡ p ∷ ps → f p ≡ true
        passes f [] p ps h = absurd cc
        passes f (x ∷ xs) p ps h = pick (f x) refl h (passes f xs p ps)
          where
            pick : (b : Bool) → f x ≡ b → cond b (x ∷ filter f xs) (filter f xs) ≡ p ∷ ps → (filter f xs ≡ p ∷ ps → f p ≡ true) → f p ≡ true
            pick true e g more = (let s : x ≡ p = cc in subst (λ y. f y ≡ true) s e)
            pick false e g more = more g

        cost : Pair → ℕ
        cost p = setup_length o table (port_at es z) row p (row (suc k)) k

        so_far : ℕ
        so_far = price_to at (λ p c j. setup_length o table (port_at es z) row p c j) row k

        by : (ps : List Pair) → beginning_at at k ≡ ps → length (beginning_at at k) ≤ 1 → so_far ≡ cost_from t ch 0 (length (up k))
            → ((p : Pair) → beginning_at at k ≡ p ∷ [] → begins is_same_pair at k p ≡ true
            → cost p ≡ cost_at t (length (up k)) (before_on ch (length (up k))))
            → so_far + cost_of cost (beginning_at at k) ≡ cost_from t ch 0 (length (up k) + length (beginning_at at k))
        by [] e l was run =
            let a = ap (cost_of cost) e in
            let b = ap length e in
            let same : length (up k) ≡ length (up k) + length (beginning_at at k) = omega (arith, b) in
            let c = ap (cost_from t ch 0) same in omega (arith, a, was, c)
        by (p ∷ []) e l was run =
            let a = ap (cost_of cost) e in
            let b = ap length e in
            let h = run p e (passes (λ q. begins is_same_pair at k q) (at (suc k)) p [] e) in
            let more = cost_more 0 (length (up k)) in
            let same : suc (length (up k)) ≡ length (up k) + length (beginning_at at k) = omega (arith, b) in
            let c = ap (cost_from t ch 0) same in
            let z0 : 0 + length (up k) ≡ length (up k) = omega arith in
            let d = ap (λ i. cost_at t i (before_on ch i)) z0 in omega (arith, a, was, h, more, c, d)
        by (p ∷ q ∷ ps) e l was run = (let b = ap length e in absurd (omega (arith, b, l)))

    pub price_is : price o table (port_at es z) row (length es) ≡ assignment_cost t ch
    price_is = price_up (length es) (omega arith) ∙ ap (cost_from t ch 0) (sym measure.runs)
