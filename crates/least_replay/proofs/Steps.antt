-- The runs of a port, from one position to the next.
use Rattle.std.proofs.Common.{◌≡◌, ◌≢◌, ◌≤◌, ◌<◌, ◌++◌, ◌||◌, ℕ, zero, suc, List, [], ◌∷◌, Bool, true, false, cond, Option, Some, None, length, map, refl, sym, ap, ◌∙◌, subst, arith, inl, inr}
use Rattle.std.specs.Set.{is_member}
use Rattle.std.proofs.lemmas.Bool.{cases_lt, cases_eq, cases_Bool, both_ways, or_cases, or_left, or_right}
use Rattle.std.proofs.lemmas.List.{length-set, length-append, append-nil, get_or-set_same, get_or-set_other, get_or_append_left, get_or_push}
use Rattle.mt_base.specs.Midi.{MidiEvent}
use Rattle.midi_model.specs.Channel.{State}
use Rattle.retune_model.specs.Options.{Options, restless}
use Rattle.retune_model.specs.Ports.{port_at, of_port, music_at, is_reset_at}
use Rattle.retune_model.specs.Faults.{Targets, is_part}
use Rattle.retune_model.specs.Pairs.{Pair, is_same_pair}
use Rattle.retune_model.specs.Places.{nth}
use Rattle.retune_model.specs.PortNeed.{pairs_on, held_on}
use Rattle.retune_model.specs.Runs.{begins}
use Rattle.retune_model.specs.RunLaws.{PairsAreTold}
use Rattle.channel_model.specs.Choice.{wanted, left_state, beginning_at}
use Rattle.plan_laws.specs.Placing.{or_kept}
use Rattle.least_replay.specs.Measure.{Run, run_at}
use Rattle.least_replay.specs.Found.{Seen, Slot, no_run, seen_at, slot_at, is_slot_of, goes_on, resets_on, IsFound, runs_up, AreFound, IsRunOf, HoldRuns, HasSlot, IsThere, Goes, GoesKept, GoesEnded, IsPut}
use Rattle.least_replay.specs.Ending.{change, left_as, left_or, over_at, keep_run, keep_runs, end_run, end_runs, stay_if, stay_all}
use Rattle.least_replay.proofs.RunLists.{nth_left, nth_split, nth_below, nth_same, nth_last, begun_of, new_run, all_runs, unique, member_passes}

-- ---- what is changed

changed_here : (rs : List Seen) (b : ℕ) (f : Seen → Seen) → b < length rs → seen_at (change rs b f) b ≡ f (seen_at rs b)
changed_here rs b f l = get_or-set_same rs b (f (seen_at rs b)) no_run l

changed_other : (rs : List Seen) (b c : ℕ) (f : Seen → Seen) → c ≢ b → seen_at (change rs b f) c ≡ seen_at rs c
changed_other rs b c f d = get_or-set_other rs b c (f (seen_at rs b)) no_run d

changed_long : (rs : List Seen) (b : ℕ) (f : Seen → Seen) → length (change rs b f) ≡ length rs
changed_long rs b f = length-set rs b (f (seen_at rs b))

none_at : (i : ℕ) (x : Slot) → slot_at [] i ≡ Some x → ⊥
none_at i x h = cc

-- each slot with a run is of one pair
abbrev AreOf : ℕ → Pair → List (Option Slot) → Type 0
AreOf b p xs = (i : ℕ) (x : Slot) → slot_at xs i ≡ Some x → x.run ≡ b → x.pair ≡ p

-- ---- the states that are kept

module _ (sounds : Pair → Bool) (needs : Pair → State) where
  keep_long : (xs : List (Option Slot)) (rs : List Seen) → length (keep_runs sounds needs xs rs) ≡ length rs
  keep_long [] rs = refl
  keep_long (None ∷ xs) rs = keep_long xs rs
  keep_long (Some x ∷ xs) rs = pick (sounds x.pair) (λ ss. keep_long xs ss)
    where
      pick : (b : Bool) → ((ss : List Seen) → length (keep_runs sounds needs xs ss) ≡ length ss)
          → length (keep_runs sounds needs xs (cond b rs (change rs x.run (left_as (needs x.pair))))) ≡ length rs
      pick true more = more rs
      pick false more = more (change rs x.run (left_as (needs x.pair))) ∙ changed_long rs x.run (left_as (needs x.pair))

  still_left : (b : ℕ) (p : Pair) (xs : List (Option Slot)) (rs : List Seen) → AreOf b p xs → b < length rs → (seen_at rs b).left ≡ needs p
      → (seen_at (keep_runs sounds needs xs rs) b).left ≡ needs p
  still_left b p [] rs of l h = h
  still_left b p (None ∷ xs) rs of l h = still_left b p xs rs (λ i x e. of (suc i) x e) l h
  still_left b p (Some x ∷ xs) rs of l h = pick (sounds x.pair) (λ ss m g. still_left b p xs ss (λ i y e. of (suc i) y e) m g)
    where
      f : Seen → Seen
      f = left_as (needs x.pair)

      pick : (t : Bool) → ((ss : List Seen) → b < length ss → (seen_at ss b).left ≡ needs p → (seen_at (keep_runs sounds needs xs ss) b).left
          ≡ needs p)
          → (seen_at (keep_runs sounds needs xs (cond t rs (change rs x.run (left_as (needs x.pair))))) b).left ≡ needs p
      pick true more = more rs l h
      pick false more = (let long = changed_long rs x.run f in more (change rs x.run f) (omega (arith, l, long)) (elim (cases_eq b x.run) [
        | inl e ↦ (let here = changed_here rs x.run f (omega (arith, l, e)) in
            ap (λ c. (seen_at (change rs x.run f) c).left) e ∙ ap (λ (r : Seen). r.left) here ∙ ap needs (of 0 x refl (sym e)))
        | inr d ↦ ap (λ (r : Seen). r.left) (changed_other rs x.run b f d) ∙ h
      ]))

  -- those that don't sound
  now_left : (w : Slot) (i : ℕ) (xs : List (Option Slot)) (rs : List Seen) → slot_at xs i ≡ Some w → sounds w.pair ≡ false → AreOf w.run w.pair xs
      → w.run < length rs → (seen_at (keep_runs sounds needs xs rs) w.run).left ≡ needs w.pair
  now_left w i [] rs h silent of l = absurd (none_at i w h)
  now_left w zero (x ∷ xs) rs h silent of l =
      let f : Seen → Seen = left_as (needs w.pair) in
      let long = changed_long rs w.run f in
      let first : keep_run sounds needs x rs ≡ change rs w.run f =
      ap (λ y. keep_run sounds needs y rs) h ∙ ap (λ t. cond t rs (change rs w.run f)) silent in
      ap (λ ss. (seen_at (keep_runs sounds needs xs ss) w.run).left) first
      ∙ still_left w.run w.pair xs (change rs w.run f) (λ j y e. of (suc j) y e) (omega (arith, l, long))
      (ap (λ (r : Seen). r.left) (changed_here rs w.run f l))
  now_left w (suc i) (x ∷ xs) rs h silent of l =
      let long = keep_long (x ∷ []) rs in
      now_left w i xs (keep_run sounds needs x rs) h silent (λ j y e. of (suc j) y e) (omega (arith, l, long))

-- ---- the runs that end

module _ (holds : Pair → Bool) (leaves : Pair → Option State) (m resets : ℕ) where
  abbrev end_of : Pair → Seen → Seen
  end_of p r = over_at m resets (left_or (leaves p) r)

  twice : (p : Pair) (r : Seen) → end_of p (end_of p r) ≡ end_of p r
  twice p r = pick (leaves p)
    where
      pick : (v : Option State) → over_at m resets (left_or v (over_at m resets (left_or v r))) ≡ over_at m resets (left_or v r)
      pick None = refl
      pick (Some y) = refl

  end_long : (xs : List (Option Slot)) (rs : List Seen) → length (end_runs holds leaves m resets xs rs) ≡ length rs
  end_long [] rs = refl
  end_long (None ∷ xs) rs = end_long xs rs
  end_long (Some x ∷ xs) rs = pick (holds x.pair) (λ ss. end_long xs ss)
    where
      pick : (b : Bool) → ((ss : List Seen) → length (end_runs holds leaves m resets xs ss) ≡ length ss)
          → length (end_runs holds leaves m resets xs (cond b rs (change rs x.run (end_of x.pair)))) ≡ length rs
      pick true more = more rs
      pick false more = more (change rs x.run (end_of x.pair)) ∙ changed_long rs x.run (end_of x.pair)

  -- one that goes on, or had ended before
  end_other : (b : ℕ) (xs : List (Option Slot)) (rs : List Seen)
      → ((i : ℕ) (x : Slot) → slot_at xs i ≡ Some x → x.run ≡ b → holds x.pair ≡ true)
      → seen_at (end_runs holds leaves m resets xs rs) b ≡ seen_at rs b
  end_other b [] rs h = refl
  end_other b (None ∷ xs) rs h = end_other b xs rs (λ i x e. h (suc i) x e)
  end_other b (Some x ∷ xs) rs h = pick (holds x.pair) refl (λ ss. end_other b xs ss (λ i y e. h (suc i) y e))
    where
      pick : (t : Bool) → holds x.pair ≡ t → ((ss : List Seen) → seen_at (end_runs holds leaves m resets xs ss) b ≡ seen_at ss b)
          → seen_at (end_runs holds leaves m resets xs (cond t rs (change rs x.run (end_of x.pair)))) b ≡ seen_at rs b
      pick true e more = more rs
      pick false e more = more (change rs x.run (end_of x.pair))
          ∙ changed_other rs x.run b (end_of x.pair) (λ s. both_ways (holds x.pair) e (h 0 x refl (sym s)))

  end_still : (b : ℕ) (p : Pair) (r : Seen) (xs : List (Option Slot)) (rs : List Seen) → AreOf b p xs → b < length rs → seen_at rs b ≡ end_of p r
      → seen_at (end_runs holds leaves m resets xs rs) b ≡ end_of p r
  end_still b p r [] rs of l h = h
  end_still b p r (None ∷ xs) rs of l h = end_still b p r xs rs (λ i x e. of (suc i) x e) l h
  end_still b p r (Some x ∷ xs) rs of l h = pick (holds x.pair) (λ ss n g. end_still b p r xs ss (λ i y e. of (suc i) y e) n g)
    where
      f : Seen → Seen
      f = end_of x.pair

      pick : (t : Bool) → ((ss : List Seen) → b < length ss → seen_at ss b ≡ end_of p r → seen_at (end_runs holds leaves m resets xs ss) b
          ≡ end_of p r)
          → seen_at (end_runs holds leaves m resets xs (cond t rs (change rs x.run (end_of x.pair)))) b ≡ end_of p r
      pick true more = more rs l h
      pick false more = (let long = changed_long rs x.run f in more (change rs x.run f) (omega (arith, l, long)) (elim (cases_eq b x.run) [
        | inl e ↦ (let here = changed_here rs x.run f (omega (arith, l, e)) in
            ap (seen_at (change rs x.run f)) e ∙ here ∙ ap (λ c. f (seen_at rs c)) (sym e) ∙ ap (λ q. end_of q (seen_at rs b)) (of 0 x refl (sym e))
            ∙ ap (end_of p) h ∙ twice p r)
        | inr d ↦ changed_other rs x.run b f d ∙ h
      ]))

  -- one that ends
  end_now : (w : Slot) (i : ℕ) (xs : List (Option Slot)) (rs : List Seen) → slot_at xs i ≡ Some w → holds w.pair ≡ false → AreOf w.run w.pair xs
      → w.run < length rs → seen_at (end_runs holds leaves m resets xs rs) w.run ≡ end_of w.pair (seen_at rs w.run)
  end_now w i [] rs h gone of l = absurd (none_at i w h)
  end_now w zero (x ∷ xs) rs h gone of l =
      let f : Seen → Seen = end_of w.pair in
      let long = changed_long rs w.run f in
      let first : end_run holds leaves m resets x rs ≡ change rs w.run f =
      ap (λ y. end_run holds leaves m resets y rs) h ∙ ap (λ t. cond t rs (change rs w.run f)) gone in
      ap (λ ss. seen_at (end_runs holds leaves m resets xs ss) w.run) first
      ∙ end_still w.run w.pair (seen_at rs w.run) xs (change rs w.run f) (λ j y e. of (suc j) y e) (omega (arith, l, long))
      (changed_here rs w.run f l)
  end_now w (suc i) (None ∷ xs) rs h gone of l = end_now w i xs rs h gone (λ j y e. of (suc j) y e) l
  end_now w (suc i) (Some x ∷ xs) rs h gone of l =
      pick (holds x.pair) (λ ss n. end_now w i xs ss h gone (λ j y e. of (suc j) y e) n)
    where
      f : Seen → Seen
      f = end_of x.pair

      pick : (t : Bool) → ((ss : List Seen) → w.run < length ss → seen_at (end_runs holds leaves m resets xs ss) w.run
          ≡ end_of w.pair (seen_at ss w.run))
          → seen_at (end_runs holds leaves m resets xs (cond t rs (change rs x.run (end_of x.pair)))) w.run ≡ end_of w.pair (seen_at rs w.run)
      pick true more = more rs l
      pick false more = (let long = changed_long rs x.run f in more (change rs x.run f) (omega (arith, l, long)) ∙ elim (cases_eq w.run x.run) [
        | inl e ↦ (let here = changed_here rs x.run f (omega (arith, l, e)) in
            ap (end_of w.pair) (ap (seen_at (change rs x.run f)) e ∙ here ∙ ap (λ c. f (seen_at rs c)) (sym e)
            ∙ ap (λ q. end_of q (seen_at rs w.run)) (of 0 x refl (sym e)))
            ∙ twice w.pair (seen_at rs w.run))
        | inr d ↦ ap (end_of w.pair) (changed_other rs x.run w.run f d)
      ])

-- ---- the slots that stay

stays_at : (holds : Pair → Bool) (xs : List (Option Slot)) (i : ℕ) → slot_at (stay_all holds xs) i ≡ stay_if holds (slot_at xs i)
stays_at holds [] i = refl
stays_at holds (x ∷ xs) zero = refl
stays_at holds (x ∷ xs) (suc i) = stays_at holds xs i

stayed : (holds : Pair → Bool) (x : Option Slot) (y : Slot) → stay_if holds x ≡ Some y → (x ≡ Some y) × (holds y.pair ≡ true)
stayed holds None y h = absurd cc
stayed holds (Some x) y h = pick (holds x.pair) refl h
  where
    pick : (b : Bool) → holds x.pair ≡ b → cond b (Some x) None ≡ Some y → (let z : Option Slot = Some x in z ≡ Some y) × (holds y.pair ≡ true)
    pick true e g = (let s : x ≡ y = cc in (g, subst (λ (z : Slot). holds z.pair ≡ true) s e))
    pick false e g = absurd cc

stays : (holds : Pair → Bool) (y : Slot) → holds y.pair ≡ true → stay_if holds (Some y) ≡ Some y
stays holds y h = ap (λ b. cond b (Some y) None) h

module _ (o : Options) (table : Targets) (es : List MidiEvent) (channels : ℕ → ℕ) (z : ℕ) (few : (k : ℕ) → k < length es
    → length (beginning_at (pairs_on o (is_part o) table es z) k) ≤ 1) where
  abbrev at : ℕ → List Pair
  at = pairs_on o (is_part o) table es z

  -- slots of one run are of one pair
  pairs_of_run : (k j : ℕ) (x y : Slot) → IsRunOf o table es z k j x → IsRunOf o table es z k j y → y.run ≡ x.run → y.pair ≡ x.pair
  pairs_of_run k j x y h g e =
      let s : g.run ≡ h.run = nth_same (runs_up o table es z k) x.run g.run h.run (subst (λ b. nth b (runs_up o table es z k) ≡ Some g.run) e g.there)
      h.there in
      sym g.pair ∙ ap (λ (r : Run). r.pair) s ∙ h.pair

  are_of : (k j : ℕ) (x : Slot) (xs : List (Option Slot)) → IsRunOf o table es z k j x → HoldRuns o table es z k j xs → AreOf x.run x.pair xs
  are_of k j x xs h holds i y e s = pairs_of_run k j x y h (holds i y e) s

  run_below : (k j i : ℕ) (rs : List Seen) (x : Slot) → AreFound o table es channels z k i rs → IsRunOf o table es z k j x → x.run < length rs
  run_below k j i rs x f h = (let l = nth_below (runs_up o table es z k) x.run h.run h.there in let e = f.long in omega (arith, l, e))

  -- a slot's pair is there
  pub slot_there : (k j : ℕ) (x : Slot) → k ≤ length es → IsRunOf o table es z k j x → k ≤ j → IsThere o table es z j x.pair
  slot_there k j x le h lj =
      let is = all_runs at (length es) k le x.run h.run h.there in
      let f = is.1 in
      subst (λ p. IsThere o table es z j p) h.pair (is.0.has j (omega (arith, f, lj)) h.lasts)

  -- ---- before an event

  left_found : (k : ℕ) (rs : List Seen) (x : Slot) (v : State) → AreFound o table es channels z k k rs → IsRunOf o table es z k k x
      → AreFound o table es channels z k k (change rs x.run (left_as v))
  left_found k rs x v f h = record {
    long = changed_long rs x.run (left_as v) ∙ f.long;
    each = λ b s n. (let was = f.each b s n in elim (cases_eq b x.run) [
      | inl e ↦ (let same : s ≡ h.run = nth_same (runs_up o table es z k) x.run s h.run
          (subst (λ c. nth c (runs_up o table es z k) ≡ Some s) e n) h.there in
          let lasts = h.lasts in
          let ends : s.last ≡ h.run.last = ap (λ (r : Run). r.last) same in
          let here : seen_at (change rs x.run (left_as v)) b ≡ left_as v (seen_at rs b) =
          ap (seen_at (change rs x.run (left_as v))) e ∙ changed_here rs x.run (left_as v) (run_below k k k rs x f h)
          ∙ ap (λ c. left_as v (seen_at rs c)) (sym e) in
          subst (IsFound o table es channels z k s) (sym here) (record {
            first = was.first;
            resets = was.resets;
            needs = was.needs;
            channel = was.channel;
            over = λ l. absurd (omega (arith, l, lasts, ends));
            going = was.going;
          }))
      | inr d ↦ subst (IsFound o table es channels z k s) (sym (changed_other rs x.run b (left_as v) d)) was
    ]);
  }

  keep_found : (sounds : Pair → Bool) (needs : Pair → State) (k : ℕ) (xs : List (Option Slot)) (rs : List Seen)
      → AreFound o table es channels z k k rs → HoldRuns o table es z k k xs → AreFound o table es channels z k k (keep_runs sounds needs xs rs)
  keep_found sounds needs k [] rs f h = f
  keep_found sounds needs k (None ∷ xs) rs f h = keep_found sounds needs k xs rs f (λ i x e. h (suc i) x e)
  keep_found sounds needs k (Some x ∷ xs) rs f h = pick (sounds x.pair) (λ ss g. keep_found sounds needs k xs ss g (λ i y e. h (suc i) y e))
    where
      pick : (t : Bool) → ((ss : List Seen) → AreFound o table es channels z k k ss
          → AreFound o table es channels z k k (keep_runs sounds needs xs ss))
          → AreFound o table es channels z k k (keep_runs sounds needs xs (cond t rs (change rs x.run (left_as (needs x.pair)))))
      pick true more = more rs f
      pick false more = more (change rs x.run (left_as (needs x.pair))) (left_found k rs x (needs x.pair) f (h 0 x refl))

  pub keeps : (sounds : Pair → Bool) (needs : Pair → State) (k : ℕ) (rs : List Seen) (xs : List (Option Slot)) → k ≤ length es
      → ((p : Pair) → IsThere o table es z k p → sounds p ≡ is_member is_same_pair (pairs_on (restless o) (is_part o) table es z k) p)
      → ((p : Pair) → IsThere o table es z k p → needs p ≡ wanted o table (music_at (of_port z es) k) p)
      → Goes o table es channels z k rs xs → GoesKept o table es channels z k (keep_runs sounds needs xs rs) xs
  keeps sounds needs k rs xs le tells are was = record {
    goes = record { runs = keep_found sounds needs k xs rs was.runs was.slots; slots = was.slots; all = was.all };
    kept = λ tail i x e silent. (let h = was.slots i x e in
        let there = slot_there k k x le h (omega arith) in
        now_left sounds needs x i xs rs e (tells x.pair there ∙ silent) (are_of k k x xs h was.slots) (run_below k k k rs x was.runs h)
        ∙ are x.pair there);
  }

  pub keeps_nothing : (k : ℕ) (rs : List Seen) (xs : List (Option Slot)) → (0 < o.tail → ⊥) → Goes o table es channels z k rs xs
      → GoesKept o table es channels z k rs xs
  keeps_nothing k rs xs none was = record { goes = was; kept = λ tail. absurd (none tail) }

  -- ---- right after an event

  module _ (k : ℕ) (lk : k < length es) (holds : Pair → Bool) (leaves : Pair → Option State) (rs : List Seen) (xs : List (Option Slot))
      (was : GoesKept o table es channels z k rs xs)
      (tells : (p : Pair) → IsThere o table es z k p → holds p ≡ is_member is_same_pair (at (suc k)) p)
      (silent : (p : Pair) → 0 < o.tail → is_reset_at (of_port z es) (suc k) ≡ false → is_member is_same_pair (at (suc k)) p ≡ false
      → is_member is_same_pair (pairs_on (restless o) (is_part o) table es z k) p ≡ false)
      (left_is : (p : Pair) (v : State) → IsThere o table es z k p → is_member is_same_pair (at (suc k)) p ≡ false
      → is_reset_at (of_port z es) (suc k) ≡ false → (0 < o.tail → v ≡ wanted o table (music_at (of_port z es) k) p)
      → or_kept v (leaves p) ≡ left_state o table (port_at es z) (held_on o (is_part o) table es z) (Some (k, p))) where
    abbrev then : List Seen
    then = end_runs holds leaves k (resets_on es z k) xs rs

    le : k ≤ length es
    le = omega (arith, lk)

    -- a run of which no slot ends keeps all
    untouched : (b : ℕ) (s : Run) → nth b (runs_up o table es z k) ≡ Some s
        → (k ≤ s.last → is_member is_same_pair (at (suc k)) s.pair ≡ true) → seen_at then b ≡ seen_at rs b
    untouched b s n stays = end_other holds leaves k (resets_on es z k) b xs rs (λ i x e same.
        (let h = was.goes.slots i x e in
        let s' : h.run ≡ s = nth_same (runs_up o table es z k) b h.run s (subst (λ c. nth c (runs_up o table es z k) ≡ Some h.run) same h.there) n in
        let lasts = h.lasts in
        let ends : h.run.last ≡ s.last = ap (λ (r : Run). r.last) s' in
        let p : s.pair ≡ x.pair = sym (ap (λ (r : Run). r.pair) s') ∙ h.pair in
        tells x.pair (slot_there k k x le h (omega arith)) ∙ ap (λ q. is_member is_same_pair (at (suc k)) q) (sym p)
        ∙ stays (omega (arith, lasts, ends))))

    over_now : (b : ℕ) (s : Run) → nth b (runs_up o table es z k) ≡ Some s → s.last ≡ k → IsFound o table es channels z (suc k) s (seen_at then b)
    over_now b s n e =
        let is = (all_runs at (length es) k le b s n).0 in
        let first = (all_runs at (length es) k le b s n).1 in
        let there : IsThere o table es z k s.pair = is.has k first (omega (arith, e)) in
        let gone : is_member is_same_pair (at (suc k)) s.pair ≡ false =
        ap (λ j. is_member is_same_pair (at (suc j)) s.pair) (sym e) ∙ is.ends (omega (arith, e, lk)) in
        let slot = was.goes.all s.pair there in
        let i : ℕ = slot.0 in
        let w : Slot = slot.1 in
        let h = was.goes.slots i w slot.2 in
        let lasts = h.lasts in
        let hf = (all_runs at (length es) k le w.run h.run h.there).1 in
        let same : w.run ≡ b = unique at (length es) few k le w.run b h.run s h.there n (h.pair ∙ slot.3) k hf lasts first (omega (arith, e)) in
        let below = run_below k k k rs w was.goes.runs h in
        let p : w.pair ≡ s.pair = slot.3 in
        let now : seen_at then b ≡ end_of holds leaves k (resets_on es z k) s.pair (seen_at rs b) =
        ap (seen_at then) (sym same)
        ∙ end_now holds leaves k (resets_on es z k) w i xs rs slot.2 (ap holds p ∙ tells s.pair there ∙ gone) (are_of k k w xs h was.goes.slots) below
        ∙ ap (λ q. end_of holds leaves k (resets_on es z k) q (seen_at rs w.run)) p
        ∙ ap (λ c. end_of holds leaves k (resets_on es z k) s.pair (seen_at rs c)) same in
        let old = was.goes.runs.each b s n in
        subst (IsFound o table es channels z (suc k) s) (sym now) (record {
          first = old.first;
          resets = old.resets;
          needs = old.needs;
          channel = old.channel;
          over = λ l. record {
            last = sym e;
            resets = ap (resets_on es z) (sym e);
            left = λ calm. (let calm' : is_reset_at (of_port z es) (suc k) ≡ false = ap (λ j. is_reset_at (of_port z es) (suc j)) (sym e) ∙ calm in
                left_is s.pair (seen_at rs b).left there gone calm'
                (λ tail. ap (λ c. (seen_at rs c).left) (sym same)
                ∙ was.kept tail i w slot.2 (ap (λ q. is_member is_same_pair (pairs_on (restless o) (is_part o) table es z k) q) p
                ∙ silent s.pair tail calm' gone)
                ∙ ap (wanted o table (music_at (of_port z es) k)) p)
                ∙ ap (λ j. left_state o table (port_at es z) (held_on o (is_part o) table es z) (Some (j, s.pair))) (sym e));
          };
          going = λ l. absurd (omega (arith, l, e));
        })

    ended_run : (b : ℕ) (s : Run) → nth b (runs_up o table es z k) ≡ Some s → IsFound o table es channels z (suc k) s (seen_at then b)
    ended_run b s n =
        let old = was.goes.runs.each b s n in
        let is = (all_runs at (length es) k le b s n).0 in
        let first = (all_runs at (length es) k le b s n).1 in
        elim (cases_lt s.last k) [
          | inl l ↦ subst (IsFound o table es channels z (suc k) s) (sym (untouched b s n (λ g. absurd (omega (arith, l, g))))) (record {
            first = old.first;
            resets = old.resets;
            needs = old.needs;
            channel = old.channel;
            over = λ m. old.over l;
            going = λ m. absurd (omega (arith, l, m));
          })
          | inr g ↦ elim (cases_lt k s.last) [
            | inl l ↦ subst (IsFound o table es channels z (suc k) s)
                (sym (untouched b s n (λ m. is.has (suc k) (omega (arith, first)) (omega (arith, l))))) (record {
                  first = old.first;
                  resets = old.resets;
                  needs = old.needs;
                  channel = old.channel;
                  over = λ m. absurd (omega (arith, l, m));
                  going = λ m. old.going g;
                })
            | inr l ↦ over_now b s n (omega (arith, g, l))
          ]
        ]

    pub ends : GoesEnded o table es channels z k then (stay_all holds xs)
    ends = record {
      runs = record { long = end_long holds leaves k (resets_on es z k) xs rs ∙ was.goes.runs.long; each = ended_run };
      slots = λ i x e. (let both = stayed holds (slot_at xs i) x (sym (stays_at holds xs i) ∙ e) in
          let h = was.goes.slots i x both.0 in
          let there = slot_there k k x le h (omega arith) in
          let on : is_member is_same_pair (at (suc k)) x.pair ≡ true = sym (tells x.pair there) ∙ both.1 in
          let lasts = h.lasts in
          record {
            run = h.run;
            there = h.there;
            pair = h.pair;
            lasts = elim (cases_lt k h.run.last) [
              | inl l ↦ omega (arith, l)
              | inr l ↦ (let s : h.run.last ≡ k = omega (arith, l, lasts) in
                  let is = (all_runs at (length es) k le x.run h.run h.there).0 in
                  absurd (both_ways (is_member is_same_pair (at (suc k)) x.pair)
                  (ap (λ q. is_member is_same_pair (at (suc k)) q) (sym h.pair)
                  ∙ ap (λ j. is_member is_same_pair (at (suc j)) h.run.pair) (sym s) ∙ is.ends (omega (arith, s, lk))) on))
            ];
          });
      all = λ p there on. (let slot = was.goes.all p there in
          let h : holds slot.1.pair ≡ true = ap holds slot.3 ∙ tells p there ∙ on in
          (slot.0, slot.1, stays_at holds xs slot.0 ∙ ap (stay_if holds) slot.2 ∙ stays holds slot.1 h, slot.3));
    }

  -- ---- where no run begins, and where one does

  pub none_begins : (k : ℕ) (rs : List Seen) (xs : List (Option Slot)) → PairsAreTold → beginning_at at k ≡ []
      → GoesEnded o table es channels z k rs xs → Goes o table es channels z (suc k) rs xs
  none_begins k rs xs told none was =
      let same : runs_up o table es z (suc k) ≡ runs_up o table es z k =
      ap (λ ps. runs_up o table es z k ++ map (run_at at (length es) (suc k)) ps) none ∙ append-nil (runs_up o table es z k) in
      record {
        runs = record {
          long = was.runs.long ∙ ap length (sym same);
          each = λ b s n. was.runs.each b s (ap (nth b) (sym same) ∙ n);
        };
        slots = λ i x e. (let h = was.slots i x e in record {
          run = h.run;
          there = ap (nth x.run) same ∙ h.there;
          pair = h.pair;
          lasts = h.lasts;
        });
        all = λ p on. elim (cases_Bool (is_member is_same_pair (at k) p)) [
          | inl there ↦ was.all p there on
          | inr gone ↦ (let begun = begun_of at k p on gone in
              let m = member_passes (λ q. begins is_same_pair at k q) (at (suc k)) p told on begun in
              absurd (both_ways false refl (ap (λ ps. is_member is_same_pair ps p) (sym none) ∙ m)))
        ];
      }

  pub one_begins : (k : ℕ) (rs : List Seen) (xs ys : List (Option Slot)) (p : Pair) (r : Seen) → k < length es → PairsAreTold
      → beginning_at at k ≡ p ∷ []
      → begins is_same_pair at k p ≡ true → IsPut xs ys (record { pair = p; run = length rs })
      → (r.first ≡ suc k) × (r.last ≡ 4294967295) × (r.resets_first ≡ resets_on es z (suc k))
      × (r.needs ≡ wanted o table (music_at (of_port z es) (suc k)) p) × (r.channel ≡ channels (suc k))
      → GoesEnded o table es channels z k rs xs → Goes o table es channels z (suc k) (rs ++ r ∷ []) ys
  one_begins k rs xs ys p r lk told one begun put kept was =
      let s : Run = run_at at (length es) (suc k) p in
      let old : List Run = runs_up o table es z k in
      let new : runs_up o table es z (suc k) ≡ old ++ s ∷ [] = ap (λ ps. old ++ map (run_at at (length es) (suc k)) ps) one in
      let is = new_run at (length es) k p lk begun in
      let long = was.runs.long in
      let order = is.order in
      let mine : IsFound o table es channels z (suc k) s r = record {
        first = kept.0;
        resets = kept.2;
        needs = kept.3;
        channel = kept.4;
        over = λ l. absurd (omega (arith, l, order));
        going = λ l. kept.1;
      } in
      record {
        runs = record {
          long = length-append rs (r ∷ []) ∙ (let e = length-append old (s ∷ []) in let f = ap length new in omega (arith, long, e, f));
          each = λ b t n. elim (nth_split old (s ∷ []) b t (ap (nth b) (sym new) ∙ n)) [
            | inl g ↦ (let l = nth_below old b t g in
                subst (IsFound o table es channels z (suc k) t) (sym (get_or_append_left rs (r ∷ []) no_run b (omega (arith, l, long))))
                (was.runs.each b t g))
            | inr g ↦ (let l = nth_below (s ∷ []) g.0 t g.2 in
                let e = g.1 in
                let i : g.0 ≡ 0 = omega (arith, l) in
                let same : s ≡ t = (let x : Some s ≡ Some t = sym (ap (λ j. nth j (s ∷ [])) i) ∙ g.2 in cc) in
                subst (λ (u : Run). IsFound o table es channels z (suc k) u (seen_at (rs ++ r ∷ []) b)) same
                (subst (IsFound o table es channels z (suc k) s) (sym (get_or_push rs r no_run b (omega (arith, e, i, long)))) mine))
          ];
        };
        slots = λ i x e. elim (put.only i x e) [
          | inl there ↦ (let h = was.slots i x there in record {
            run = h.run;
            there = ap (nth x.run) new ∙ nth_left old (s ∷ []) x.run h.run h.there;
            pair = h.pair;
            lasts = h.lasts;
          })
          | inr same ↦ record {
            run = s;
            there = ap (nth x.run) new ∙ ap (λ (y : Slot). nth y.run (old ++ s ∷ [])) same ∙ ap (λ n. nth n (old ++ s ∷ [])) long ∙ nth_last old s;
            pair = ap (λ (y : Slot). y.pair) (sym same);
            lasts = order;
          }
        ];
        all = λ q on. elim (cases_Bool (is_member is_same_pair (at k) q)) [
          | inl there ↦ (let slot = was.all q there on in (slot.0, slot.1, put.others slot.0 slot.1 slot.2, slot.3))
          | inr gone ↦ (let begun' = begun_of at k q on gone in
              let m = member_passes (λ u. begins is_same_pair at k u) (at (suc k)) q told on begun' in
              let m' : (is_same_pair q p || false) ≡ true = ap (λ ps. is_member is_same_pair ps q) (sym one) ∙ m in
              let same : q ≡ p = elim (or_cases (is_same_pair q p) false m') [ inl t ↦ (told q p).0 t | inr t ↦ absurd (both_ways false refl t) ] in
              (put.here.0, record { pair = p; run = length rs }, put.here.1, sym same))
        ];
      }

  -- ---- whether a run of a pair goes on

  slot_found : (p : Pair) (xs : List (Option Slot)) → PairsAreTold → goes_on xs p ≡ true → HasSlot xs p
  slot_found p [] told h = absurd (both_ways false refl h)
  slot_found p (None ∷ xs) told h = (let more = slot_found p xs told h in (suc more.0, more.1, more.2, more.3))
  slot_found p (Some x ∷ xs) told h = elim (or_cases (is_same_pair x.pair p) (goes_on xs p) h) [
    | inl e ↦ (0, x, refl, (told x.pair p).0 e)
    | inr g ↦ (let more = slot_found p xs told g in (suc more.0, more.1, more.2, more.3))
  ]

  found_slot : (p : Pair) (xs : List (Option Slot)) (i : ℕ) (x : Slot) → PairsAreTold → slot_at xs i ≡ Some x → x.pair ≡ p → goes_on xs p ≡ true
  found_slot p [] i x told h e = absurd (none_at i x h)
  found_slot p (y ∷ xs) zero x told h e =
      or_left (is_slot_of p y) (goes_on xs p) (ap (is_slot_of p) h ∙ (told x.pair p).1 e)
  found_slot p (y ∷ xs) (suc i) x told h e = or_right (is_slot_of p y) (goes_on xs p) (found_slot p xs i x told h e)

  -- it was there already
  pub goes_there : (k : ℕ) (rs : List Seen) (xs : List (Option Slot)) (p : Pair) → k ≤ length es → PairsAreTold
      → GoesEnded o table es channels z k rs xs → goes_on xs p ≡ true → IsThere o table es z k p
  goes_there k rs xs p le told was h =
      let slot = slot_found p xs told h in
      let is = was.slots slot.0 slot.1 slot.2 in
      let lasts = is.lasts in
      subst (IsThere o table es z k) slot.3 (slot_there k k slot.1 le (record {
        run = is.run;
        there = is.there;
        pair = is.pair;
        lasts = omega (arith, lasts);
      }) (omega arith))

  pub goes_not : (k : ℕ) (rs : List Seen) (xs : List (Option Slot)) (p : Pair) → PairsAreTold → GoesEnded o table es channels z k rs xs
      → goes_on xs p ≡ false → IsThere o table es z (suc k) p → is_member is_same_pair (at k) p ≡ false
  goes_not k rs xs p told was h on = elim (cases_Bool (is_member is_same_pair (at k) p)) [
    | inl there ↦ (let slot = was.all p there on in absurd (both_ways (goes_on xs p) h (found_slot p xs slot.0 slot.1 told slot.2 slot.3)))
    | inr gone ↦ gone
  ]

-- before any event
pub first : (o : Options) (table : Targets) (es : List MidiEvent) (channels : ℕ → ℕ) (z : ℕ) → pairs_on o (is_part o) table es z 0 ≡ []
    → Goes o table es channels z 0 [] []
first o table es channels z none = record {
  runs = record { long = refl; each = λ b s n. absurd (let none : None ≡ Some s = n in cc) };
  slots = λ i x e. absurd (none_at i x e);
  all = λ p there. absurd (both_ways false refl (ap (λ ps. is_member is_same_pair ps p) (sym none) ∙ there));
}
