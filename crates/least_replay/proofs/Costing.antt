-- The costs of a port's runs, from what was found of each at the last position.
use Rattle.std.proofs.Common.{◌≡◌, ◌≢◌, ◌≤◌, ◌<◌, ◌+◌, ◌*◌, ◌-◌, ◌++◌, ℕ, zero, suc, List, [], ◌∷◌, Bool, true, false, cond, Option, Some, None, IsSome, length, map, get_or, refl, sym, ap, ◌∙◌, subst, arith, inl, inr, nat_eq, nat_le, nat_lt}
use Rattle.std.specs.Prelude.{unwrap_or, option_map}
use Rattle.std.specs.List.{flat_map, range_with_len}
use Rattle.std.specs.Set.{is_member, unique_keys}
use Rattle.std.proofs.lemmas.Bool.{cases_lt, both_ways, or_cases, leb-true, le-leb, lt-ltb, ltb-true, eqb-true, false_from_ne_true}
use Rattle.std.proofs.lemmas.List.{length-map, get_or-map, get_or_append_left, get_or-append_right}
use Rattle.std.proofs.lemmas.Map.Made.{length-le_from_is_member}
use Rattle.std.proofs.lemmas.Cmp.{nat_eq_equiv}
use Rattle.mt_base.specs.Midi.{MidiEvent}
use Rattle.midi_model.specs.Channel.{State, default_state}
use Rattle.midi_model.specs.Bring.{bring}
use Rattle.retune_model.specs.Options.{Options}
use Rattle.retune_model.specs.Ports.{port_at, of_port, is_reset_at}
use Rattle.retune_model.specs.Faults.{Targets, is_part}
use Rattle.retune_model.specs.Pairs.{Pair}
use Rattle.retune_model.specs.Places.{nth}
use Rattle.retune_model.specs.PortNeed.{pairs_on, need_of}
use Rattle.retune_model.proofs.Lists.{unique_member, distinct_unique}
use Rattle.channel_model.specs.Choice.{beginning_at}
use Rattle.least_replay.specs.Cover.{Table}
use Rattle.least_replay.specs.Costs.{told, after_in, table, AreLow}
use Rattle.least_replay.specs.Assignments.{AreRuns, IsAssignment, last_on, before_on, chains_from}
use Rattle.least_replay.specs.Measure.{Run, runs_of, resets_to, needed_by, found_behind, cost_at_start, cost_behind, IsMeasureOf, first_of, last_of}
use Rattle.least_replay.specs.Found.{Seen, no_run, seen_at, left_by, AreFound}
use Rattle.least_replay.specs.Filled.{start_by, behind_by, row_by, IsLowBehind, IsLowRun, AreFilled}
use Rattle.least_replay.proofs.Exact.{all_at}
use Rattle.least_replay.proofs.RunLists.{nth_below, nth_there, nth_same, IsRun, all_runs, ordered}

-- ---- lists of rows

row_at : (f : Seen → List ℕ) (n : ℕ) (rs : List Seen) (b a : ℕ) (d : Seen) (e : ℕ) → ((r : Seen) → length (f r) ≡ n) → b < length rs → a < n
    → get_or (flat_map f rs) (b * n + a) e ≡ get_or (f (get_or rs b d)) a e
row_at f n [] b a d e long lb la = absurd (omega (arith, lb))
row_at f n (r ∷ rs) zero a d e long lb la =
    ap (λ i. get_or (f r ++ flat_map f rs) i e) (let z : 0 * n + a ≡ a = omega arith in z)
    ∙ get_or_append_left (f r) (flat_map f rs) e a (let m = long r in omega (arith, la, m))
row_at f n (r ∷ rs) (suc b) a d e long lb la =
    let m = long r in
    let split : suc b * n ≡ n + b * n = omega arith in
    get_or-append_right (f r) (flat_map f rs) n (suc b * n + a) e m (omega (arith, split))
    ∙ ap (λ i. get_or (flat_map f rs) i e) (let i : (suc b * n + a) - n ≡ b * n + a = omega (arith, split) in i)
    ∙ row_at f n rs b a d e long (omega (arith, lb)) la

-- ---- runs by number

module _ (rs : List Run) where
  pub first_is : (b : ℕ) (s : Run) → nth b rs ≡ Some s → first_of rs b ≡ s.first
  first_is b s n = ap (λ x. unwrap_or (option_map (λ (r : Run). r.first) x) 0) n

  pub last_is : (b : ℕ) (s : Run) → nth b rs ≡ Some s → last_of rs b ≡ s.last
  last_is b s n = ap (λ x. unwrap_or (option_map (λ (r : Run). r.last) x) 0) n

-- ---- resets

pub resets_grow : (reset : ℕ → Bool) (j k : ℕ) → j ≤ k → resets_to reset j ≤ resets_to reset k
resets_grow reset j zero l = (let e : j ≡ 0 = omega (arith, l) in subst (λ i. resets_to reset i ≤ 0) (sym e) (omega arith))
resets_grow reset j (suc k) l = elim (cases_lt j (suc k)) [
  | inl m ↦ pick (reset (suc k)) (resets_grow reset j k (omega (arith, m)))
  | inr m ↦ (let e : j ≡ suc k = omega (arith, l, m) in subst (λ i. resets_to reset i ≤ resets_to reset (suc k)) (sym e) (omega arith))
]
  where
    pick : (b : Bool) → resets_to reset j ≤ resets_to reset k → resets_to reset j ≤ cond b (suc (resets_to reset k)) (resets_to reset k)
    pick true h = omega (arith, h)
    pick false h = h

-- none lies between where they are as many
none_between : (reset : ℕ → Bool) (j k : ℕ) → j < k → resets_to reset j ≡ resets_to reset k → reset (suc j) ≡ false
none_between reset j k l e = false_from_ne_true (reset (suc j)) (λ h.
    (let one : resets_to reset (suc j) ≡ suc (resets_to reset j) =
    ap (λ b. cond b (suc (resets_to reset j)) (resets_to reset j)) h in
    let more = resets_grow reset (suc j) k (omega (arith, l)) in omega (arith, one, more, e)))

-- as many as positions at most
pub resets_few : (reset : ℕ → Bool) (k : ℕ) → resets_to reset k ≤ k
resets_few reset zero = omega arith
resets_few reset (suc k) = pick (reset (suc k)) (resets_few reset k)
  where
    pick : (b : Bool) → resets_to reset k ≤ k → cond b (suc (resets_to reset k)) (resets_to reset k) ≤ suc k
    pick true h = omega (arith, h)
    pick false h = omega (arith, h)

-- ---- chains by channels that agree

last_same : (c d : ℕ → ℕ) (x n : ℕ) → ((i : ℕ) → i < n → c i ≡ d i) → last_on c x n ≡ last_on d x n
last_same c d x zero h = refl
last_same c d x (suc n) h =
    ap (λ y. cond (nat_eq y x) (Some n) (last_on c x n)) (h n (omega arith))
    ∙ ap (cond (nat_eq (d n) x) (Some n)) (last_same c d x n (λ i l. h i (omega (arith, l))))

chains_same_from : (c d : ℕ → ℕ) (b n : ℕ) → ((i : ℕ) → i < b + n → c i ≡ d i) → chains_from c b n ≡ chains_from d b n
chains_same_from c d b zero h = refl
chains_same_from c d b (suc n) h =
    ap (λ x. last_on c x b ∷ chains_from c (suc b) n) (h b (omega arith))
    ∙ ap (λ x. x ∷ chains_from c (suc b) n) (last_same c d (d b) b (λ i l. h i (omega (arith, l))))
    ∙ ap (λ xs. before_on d b ∷ xs) (chains_same_from c d (suc b) n (λ i l. h i (omega (arith, l))))

pub chains_same : (c d : ℕ → ℕ) (n : ℕ) → ((i : ℕ) → i < n → c i ≡ d i) → chains_from c 0 n ≡ chains_from d 0 n
chains_same c d n h = chains_same_from c d 0 n (λ i l. h i (omega (arith, l)))

-- ---- what a run costs behind another

module _ (o : Options) (tbl : Targets) (es : List MidiEvent) (z : ℕ) (q s : Run) where
  abbrev length_behind : ℕ
  length_behind = length (bring 0 (found_behind o tbl es z q s) (needed_by o tbl (port_at es z) s))

  nothing : s.first ≤ q.last → (let x : Option ℕ = None in x ≡ cost_behind o tbl es z q s)
  nothing l = sym (ap (λ x. cond x (Some length_behind) None)
      (false_from_ne_true (nat_lt q.last s.first) (λ h. (let m = ltb-true q.last s.first h in absurd (omega (arith, l, m))))))

  some_cost : q.last < s.first → IsSome (cost_behind o tbl es z q s)
  some_cost l = subst IsSome (sym (ap (λ x. cond x (Some length_behind) None) (lt-ltb q.last s.first l))) refl

-- the positions of the runs are such as runs have
pub are_runs : (o : Options) (tbl : Targets) (es : List MidiEvent) (z : ℕ)
    → ((k : ℕ) → k < length es → length (beginning_at (pairs_on o (is_part o) tbl es z) k) ≤ 1) → (t : Table) → IsMeasureOf o tbl es z t
    → AreRuns t (first_of (runs_of o tbl es z)) (last_of (runs_of o tbl es z))
are_runs o tbl es z few t measure = record {
  ordered = λ a b l lb. (let x = run_at a (omega (arith, l, lb)) in
      let y = run_at b lb in
      let f = ordered at (length es) few (length es) (omega arith) a b x.0 y.0 x.1 y.1 l in
      let ex = first_is all a x.0 x.1 in
      let ey = first_is all b y.0 y.1 in omega (arith, f, ex, ey));
  some_position = λ b l. (let x = run_at b l in
      let f = (all_runs at (length es) (length es) (omega arith) b x.0 x.1).0.order in
      let e = first_is all b x.0 x.1 in
      let g = last_is all b x.0 x.1 in omega (arith, e, f, g));
  follows = λ a b l lb m. (let x = run_at a (omega (arith, l, lb)) in
      let y = run_at b lb in
      let ex = last_is all a x.0 x.1 in
      let ey = first_is all b y.0 y.1 in
      subst IsSome (sym (measure.after a b x.0 y.0 x.1 y.1)) (some_cost o tbl es z x.0 y.0 (omega (arith, m, ex, ey))));
  only = λ a b la lb some. (let x = run_at a la in
      let y = run_at b lb in
      let ex = last_is all a x.0 x.1 in
      let ey = first_is all b y.0 y.1 in
      elim (cases_lt x.0.last y.0.first) [
        | inl l ↦ omega (arith, l, ex, ey)
        | inr l ↦ absurd (both_ways false refl (subst IsSome (measure.after a b x.0 y.0 x.1 y.1 ∙ sym (nothing o tbl es z x.0 y.0 l)) some))
      ]);
}
  where
    at : ℕ → List Pair
    at = pairs_on o (is_part o) tbl es z

    all : List Run
    all = runs_of o tbl es z

    run_at : (b : ℕ) → b < t.runs → (s : Run) × (nth b all ≡ Some s)
    run_at b l = (let e = measure.runs in nth_there all b (omega (arith, l, e)))

-- ---- the table

module _ (rs : List Seen) (start after : List ℕ) (filled : AreFilled rs start after) (starts : ℕ) where
  abbrev t : Table
  t = table (length rs) starts start after

  start_at : (b : ℕ) → b < length rs → t.start b ≡ start_by (seen_at rs b)
  start_at b l = ap (λ xs. get_or xs b 0) filled.start ∙ get_or-map start_by rs b no_run 0 l

  cell : (a b : ℕ) → a < length rs → b < length rs → get_or after (b * length rs + a) 65535 ≡ behind_by (seen_at rs a) (seen_at rs b)
  cell a b la lb =
      ap (λ xs. get_or xs (b * length rs + a) 65535) filled.after
      ∙ row_at (row_by rs) (length rs) rs b a no_run 65535 (λ r. length-map rs (λ q. behind_by q r)) lb la
      ∙ get_or-map (λ q. behind_by q (seen_at rs b)) rs a no_run 65535 la

  -- what the table tells behind an earlier run, and behind another
  after_is : (a b : ℕ) → a < b → b < length rs → t.after a b ≡ told (behind_by (seen_at rs a) (seen_at rs b))
  unfolding after_in
  after_is a b l lb =
      ap (λ x. cond x (told (get_or after (b * length rs + a) 65535)) None) (lt-ltb a b l)
      ∙ ap told (cell a b (omega (arith, l, lb)) lb)

  after_none : (a b : ℕ) → b ≤ a → t.after a b ≡ None
  unfolding after_in
  after_none a b l = ap (λ x. cond x (told (get_or after (b * length rs + a) 65535)) None)
      (false_from_ne_true (nat_lt a b) (λ h. (let m = ltb-true a b h in absurd (omega (arith, l, m)))))

  low_behind : (a b : ℕ) → a < length rs → b < length rs → (seen_at rs a).last < (seen_at rs b).first
      → behind_by (seen_at rs a) (seen_at rs b) ≤ 391
  low_behind a b la lb m = all_at (IsLowBehind (seen_at rs b)) rs a no_run la (all_at (IsLowRun rs) rs b no_run lb filled.low).behind m

  not_over : (q r : Seen) → r.first ≤ q.last → behind_by q r ≡ 65535
  not_over q r l = ap (λ x. cond x 65535 (cond (nat_eq q.resets_last r.resets_first) (length (bring 0 q.left r.needs)) (start_by r)))
      (le-leb r.first q.last l)

  is_over : (q r : Seen) → q.last < r.first
      → behind_by q r ≡ cond (nat_eq q.resets_last r.resets_first) (length (bring 0 q.left r.needs)) (start_by r)
  is_over q r l = ap (λ x. cond x 65535 (cond (nat_eq q.resets_last r.resets_first) (length (bring 0 q.left r.needs)) (start_by r)))
      (false_from_ne_true (nat_le r.first q.last) (λ h. (let m = leb-true r.first q.last h in absurd (omega (arith, l, m)))))

  told_low : (w : ℕ) → w ≤ 391 → told w ≡ Some w
  told_low w l = ap (λ x. cond x None (Some w)) (false_from_ne_true (nat_eq w 65535)
      (λ h. (let e = eqb-true w 65535 h in absurd (omega (arith, l, e)))))

  pub are_low : AreLow t
  are_low = record {
    start = λ b l. (let e = start_at b l in let m = (all_at (IsLowRun rs) rs b no_run l filled.low).start in omega (arith, e, m));
    after = λ a b c la lb h. elim (cases_lt a b) [
      | inl l ↦ elim (cases_lt (seen_at rs a).last (seen_at rs b).first) [
        | inl m ↦ (let low = low_behind a b la lb m in
            let s : Some (behind_by (seen_at rs a) (seen_at rs b)) ≡ Some c = sym (told_low (behind_by (seen_at rs a) (seen_at rs b)) low)
            ∙ sym (after_is a b l lb) ∙ h in
            let e : behind_by (seen_at rs a) (seen_at rs b) ≡ c = cc in omega (arith, low, e))
        | inr m ↦ (let none : None ≡ Some c = sym (ap told (not_over (seen_at rs a) (seen_at rs b) m)) ∙ sym (after_is a b l lb) ∙ h in absurd cc)
      ]
      | inr l ↦ (let none : None ≡ Some c = sym (after_none a b l) ∙ h in absurd cc)
    ];
  }

  -- ---- what was found at the last position

  module _ (o : Options) (tbl : Targets) (es : List MidiEvent) (channels : ℕ → ℕ) (z : ℕ) (few : (k : ℕ) → k < length es
      → length (beginning_at (pairs_on o (is_part o) tbl es z) k) ≤ 1) (short : length es ≤ 2097152)
      (found : AreFound o tbl es channels z (length es) (length es) rs) where
    abbrev at : ℕ → List Pair
    at = pairs_on o (is_part o) tbl es z

    abbrev all : List Run
    all = runs_of o tbl es z

    is_run : (b : ℕ) (s : Run) → nth b all ≡ Some s → IsRun at (length es) s × (s.first ≤ length es)
    is_run b s n = all_runs at (length es) (length es) (omega arith) b s n

    below : (b : ℕ) (s : Run) → nth b all ≡ Some s → b < length rs
    below b s n = (let l = nth_below all b s n in let e = found.long in omega (arith, l, e))

    needed : (b : ℕ) (s : Run) → nth b all ≡ Some s → (seen_at rs b).needs ≡ needed_by o tbl (port_at es z) s
    needed b s n = (found.each b s n).needs

    start_cost : (b : ℕ) (s : Run) → nth b all ≡ Some s → start_by (seen_at rs b) ≡ cost_at_start o tbl es z s
    start_cost b s n = ap (λ x. length (bring 0 default_state x)) (needed b s n)

    -- a run that is over before another
    behind_is : (a b : ℕ) (q s : Run) → nth a all ≡ Some q → nth b all ≡ Some s → q.last < s.first
        → (let x : Option ℕ = Some (behind_by (seen_at rs a) (seen_at rs b)) in x ≡ cost_behind o tbl es z q s)
    behind_is a b q s na nb l =
        let fa = found.each a q na in
        let fb = found.each b s nb in
        let end = (is_run b s nb).1 in
        let over = fa.over (omega (arith, l, end)) in
        let reset : ℕ → Bool = is_reset_at (of_port z es) in
        let u : Seen = seen_at rs a in
        let v : Seen = seen_at rs b in
        let needs : State = needed_by o tbl (port_at es z) s in
        let ul = over.last in
        let vf = fb.first in
        let same : nat_eq u.resets_last v.resets_first ≡ nat_eq (resets_to reset q.last) (resets_to reset s.first) =
        ap (λ x. nat_eq x v.resets_first) over.resets ∙ ap (nat_eq (resets_to reset q.last)) fb.resets in
        let pick : (x : Bool) → nat_eq (resets_to reset q.last) (resets_to reset s.first) ≡ x
        → cond x (length (bring 0 u.left v.needs)) (start_by v) ≡ length (bring 0 (cond x (left_by o tbl es z q) default_state) needs) =
        λ x e. chosen a b q s na nb l x e in
        ap Some (is_over u v (omega (arith, l, ul, vf)) ∙ ap (λ x. cond x (length (bring 0 u.left v.needs)) (start_by v)) same
        ∙ pick (nat_eq (resets_to reset q.last) (resets_to reset s.first)) refl)
        ∙ sym (ap (λ x. cond x (Some (length (bring 0 (found_behind o tbl es z q s) needs))) None) (lt-ltb q.last s.first l))
      where
        chosen : (a b : ℕ) (q s : Run) → nth a all ≡ Some q → nth b all ≡ Some s → q.last < s.first → (x : Bool)
            → nat_eq (resets_to (is_reset_at (of_port z es)) q.last) (resets_to (is_reset_at (of_port z es)) s.first) ≡ x
            → cond x (length (bring 0 (seen_at rs a).left (seen_at rs b).needs)) (start_by (seen_at rs b))
            ≡ length (bring 0 (cond x (left_by o tbl es z q) default_state) (needed_by o tbl (port_at es z) s))
        chosen a b q s na nb l true e =
            let end = (is_run b s nb).1 in
            let over = (found.each a q na).over (omega (arith, l, end)) in
            let calm = none_between (is_reset_at (of_port z es)) q.last s.first l
            (eqb-true (resets_to (is_reset_at (of_port z es)) q.last) (resets_to (is_reset_at (of_port z es)) s.first) e) in
            ap (λ x. length (bring 0 x (seen_at rs b).needs)) (over.left calm) ∙ ap (λ x. length (bring 0 (left_by o tbl es z q) x)) (needed b s nb)
        chosen a b q s na nb l false e = start_cost b s nb

    -- and one that isn't
    not_behind : (a b : ℕ) (q s : Run) → nth a all ≡ Some q → nth b all ≡ Some s → s.first ≤ q.last
        → (seen_at rs b).first ≤ (seen_at rs a).last
    not_behind a b q s na nb l =
        let fa = found.each a q na in
        let fb = (found.each b s nb).first in
        let within = (is_run a q na).0.within in
        let end = (is_run b s nb).1 in
        elim (cases_lt q.last (length es)) [
          | inl m ↦ (let e = (fa.over m).last in omega (arith, l, e, fb))
          | inr m ↦ (let e = fa.going m in omega (arith, e, fb, end, short))
        ]

    not_earlier : (a b : ℕ) (q s : Run) → nth a all ≡ Some q → nth b all ≡ Some s → b ≤ a → s.first ≤ q.last
    not_earlier a b q s na nb l =
        let order = (is_run a q na).0.order in
        elim (cases_lt b a) [
          | inl m ↦ (let f = ordered at (length es) few (length es) (omega arith) b a s q nb na m in omega (arith, f, order))
          | inr m ↦ (let e : b ≡ a = omega (arith, l, m) in
              let same : s ≡ q = nth_same all a s q (subst (λ c. nth c all ≡ Some s) e nb) na in
              let f : s.first ≡ q.first = ap (λ (r : Run). r.first) same in omega (arith, f, order))
        ]

    behind_cost : (a b : ℕ) (q s : Run) → nth a all ≡ Some q → nth b all ≡ Some s → t.after a b ≡ cost_behind o tbl es z q s
    behind_cost a b q s na nb = elim (cases_lt a b) [
      | inl l ↦ elim (cases_lt q.last s.first) [
        | inl m ↦ (let fa = found.each a q na in
            let fb = (found.each b s nb).first in
            let end = (is_run b s nb).1 in
            let e = (fa.over (omega (arith, m, end))).last in
            let low = low_behind a b (below a q na) (below b s nb) (omega (arith, m, e, fb)) in
            after_is a b l (below b s nb) ∙ told_low (behind_by (seen_at rs a) (seen_at rs b)) low ∙ behind_is a b q s na nb m)
        | inr m ↦ after_is a b l (below b s nb)
            ∙ ap told (not_over (seen_at rs a) (seen_at rs b) (not_behind a b q s na nb m)) ∙ nothing o tbl es z q s m
      ]
      | inr l ↦ after_none a b l ∙ nothing o tbl es z q s (not_earlier a b q s na nb l)
    ]

    pub measured : starts ≡ (need_of o (is_part o) tbl es z).0 → IsMeasureOf o tbl es z t
    measured e = record {
      runs = found.long;
      starts = e;
      start = λ b s n. start_at b (below b s n) ∙ start_cost b s n;
      after = behind_cost;
    }

    run_at : (b : ℕ) → b < length rs → (s : Run) × (nth b all ≡ Some s)
    run_at b l = (let e = found.long in nth_there all b (omega (arith, l, e)))

    -- ---- the channels of a plan

    -- each run has a channel of a row, and two that share a position have two of them
    pub assigned : (used : List ℕ) (channel : ℕ → ℕ) → length used ≤ starts
        → ((b : ℕ) (s : Run) → nth b all ≡ Some s → is_member nat_eq used (channel b) ≡ true)
        → ((a b : ℕ) (q s : Run) (j : ℕ) → nth a all ≡ Some q → nth b all ≡ Some s → a ≢ b → q.first ≤ j → j ≤ q.last → s.first ≤ j
        → j ≤ s.last → channel a ≢ channel b)
        → IsAssignment t (first_of all) (last_of all) channel
    assigned used channel l own apart = record {
      few = (let m = length-le_from_is_member nat_eq_equiv (unique_keys nat_eq (map channel (range_with_len 0 (length rs)))) used
          (distinct_unique nat_eq (map channel (range_with_len 0 (length rs))))
          (λ q h. in_range used channel own q 0 (length rs) (omega arith)
          (unique_member nat_eq (map channel (range_with_len 0 (length rs))) q h)) in omega (arith, l, m));
      apart = λ a b j la lb d pa pb. (let x = run_at a la in
          let y = run_at b lb in
          let fa = first_is all a x.0 x.1 in
          let ga = last_is all a x.0 x.1 in
          let fb = first_is all b y.0 y.1 in
          let gb = last_is all b y.0 y.1 in
          let a0 = pa.0 in
          let a1 = pa.1 in
          let b0 = pb.0 in
          let b1 = pb.1 in
          apart a b x.0 y.0 j x.1 y.1 d (omega (arith, fa, a0)) (omega (arith, ga, a1)) (omega (arith, fb, b0)) (omega (arith, gb, b1)));
    }
      where
        in_range : (used : List ℕ) (channel : ℕ → ℕ) → ((b : ℕ) (s : Run) → nth b all ≡ Some s → is_member nat_eq used (channel b) ≡ true)
            → (q b n : ℕ) → b + n ≤ length rs → is_member nat_eq (map channel (range_with_len b n)) q ≡ true → is_member nat_eq used q ≡ true
        in_range used channel own q b zero l h = absurd (both_ways false refl h)
        in_range used channel own q b (suc n) l h =
            elim (or_cases (nat_eq q (channel b)) (is_member nat_eq (map channel (range_with_len (b + 1) n)) q) h) [
              | inl e ↦ (let x = run_at b (omega (arith, l)) in
                  subst (λ c. is_member nat_eq used c ≡ true) (sym (eqb-true q (channel b) e)) (own b x.0 x.1))
              | inr m ↦ in_range used channel own q (b + 1) n (omega (arith, l)) m
            ]

    -- what is kept of channels
    pub chains_are : (n : ℕ) → n ≤ length rs
        → chains_from (λ b. (seen_at rs b).channel) 0 n ≡ chains_from (λ b. channels (first_of all b)) 0 n
    chains_are n l = chains_same (λ b. (seen_at rs b).channel) (λ b. channels (first_of all b)) n (λ b m.
        (let x = run_at b (omega (arith, l, m)) in (found.each b x.0 x.1).channel ∙ ap channels (sym (first_is all b x.0 x.1))))
