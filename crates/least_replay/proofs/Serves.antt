-- The channels that a plan gives to the runs of a port.
use Rattle.std.proofs.Common.{◌≡◌, ◌≢◌, ◌≤◌, ◌<◌, ◌⊎◌, ◌||◌, ◌&&◌, ℕ, zero, suc, List, [], ◌∷◌, Bool, true, false, cond, Option, Some, None, length, get_or, refl, sym, ap, ◌∙◌, subst, arith, inl, inr, nat_eq}
use Rattle.std.specs.Prelude.{unwrap_or}
use Rattle.std.specs.Set.{is_member}
use Rattle.std.proofs.lemmas.Bool.{cases_Bool, both_ways, or_cases, or_left, or_right, eq-eqb, cond-true}
use Rattle.std.proofs.lemmas.List.{length-take-le}
use Rattle.mt_base.specs.declared.event.Msg.TheVariants.{NoteOn, NoteOff, KeyPressure, Control, Program, Pressure, Bend}
use Rattle.mt_base.specs.Midi.{MidiWhat, Says, SysexOf, MetaOf, MidiEvent}
use Rattle.retune_model.specs.Table.{BendTarget}
use Rattle.retune_model.specs.Options.{Options, Route, ByBend, bends_notes}
use Rattle.retune_model.specs.Ports.{port_at, event_at}
use Rattle.retune_model.specs.PlaysTheSame.{bend_target_if}
use Rattle.retune_model.specs.Faults.{Targets, is_part, is_bend}
use Rattle.retune_model.specs.FaultLaws.{SoundPortsAreAimed}
use Rattle.retune_model.specs.Pairs.{Pair, is_same_pair, pair_if}
use Rattle.retune_model.specs.Places.{nth}
use Rattle.retune_model.specs.Dump.{from_up}
use Rattle.retune_model.specs.Rests.{begun_pair, begun_pairs, begun_at}
use Rattle.retune_model.specs.RestLaws.{OneRunBegins, HeldOrBegun, HeldWasThere}
use Rattle.retune_model.specs.Runs.{since, OneBegins, TakesFree}
use Rattle.retune_model.specs.RunLaws.{PairsAreTold}
use Rattle.retune_model.specs.PortNeed.{pairs_on, need_of}
use Rattle.retune_model.specs.SourceFaults.{IsSound}
use Rattle.retune_model.proofs.Lists.{filter_le}
use Rattle.channel_model.specs.Choice.{beginning_at}
use Rattle.channel_model.specs.Laws.{ShortestIsFree}
use Rattle.channel_model.specs.Rows.{allowed_row}
use Rattle.plan_laws.proofs.RunCounting.{unbegun}
use Rattle.channel_plan.specs.Planned.{Begins, GivesChannels, GivesByBend, IsPlan, row_of, unbent, need_told, bend_row, place_among}
use Rattle.channel_plan.specs.declared.plan.Plan.{Plan}
use Rattle.least_replay.specs.Measure.{Run, runs_of}
use Rattle.least_replay.specs.Serving.{ServesPort, channel_at, channel_given}
use Rattle.least_replay.proofs.RunLists.{IsRun, all_runs, unique, since_first, begun_of}
use Rattle.least_replay.proofs.Costing.{first_is}

-- ---- the note with which a run begins

at_most_one : (z c : ℕ) (x : Option BendTarget) → (pair_if z c x [] ≡ []) ⊎ ((q : Pair) × (pair_if z c x [] ≡ q ∷ []))
at_most_one z c None = inl refl
at_most_one z c (Some t) = inr (record { part = record { port = z; channel = c }; steps = t.steps }, refl)

begun_one : (z : ℕ) (o : Options) (part : ℕ → Bool) (table : Targets) (t : ℕ) (w : MidiWhat)
    → (begun_pair z o part table t w ≡ []) ⊎ ((q : Pair) × (begun_pair z o part table t w ≡ q ∷ []))
begun_one z o part table t (Says (NoteOn c k (suc v))) = pick (part c) (at_most_one z c (bend_target_if o.range (table k t)))
  where
    pick : (b : Bool)
        → (pair_if z c (bend_target_if o.range (table k t)) [] ≡ []) ⊎ ((q : Pair) × (pair_if z c (bend_target_if o.range (table k t)) [] ≡ q ∷ []))
        → (cond b (pair_if z c (bend_target_if o.range (table k t)) []) [] ≡ [])
        ⊎ ((q : Pair) × (cond b (pair_if z c (bend_target_if o.range (table k t)) []) [] ≡ q ∷ []))
    pick true h = h
    pick false h = inl refl
begun_one z o part table t (Says (NoteOn c k zero)) = inl refl
begun_one z o part table t (Says (NoteOff c k v)) = inl refl
begun_one z o part table t (Says (KeyPressure c k v)) = inl refl
begun_one z o part table t (Says (Control c k v)) = inl refl
begun_one z o part table t (Says (Program c v)) = inl refl
begun_one z o part table t (Says (Pressure c v)) = inl refl
begun_one z o part table t (Says (Bend c v)) = inl refl
begun_one z o part table t (SysexOf lead bytes) = inl refl
begun_one z o part table t (MetaOf kind bytes) = inl refl

begun_only : (z : ℕ) (o : Options) (part : ℕ → Bool) (table : Targets) (es : List MidiEvent) (p : Pair) → PairsAreTold
    → is_member is_same_pair (begun_pairs z o part table es) p ≡ true → begun_pairs z o part table es ≡ p ∷ []
begun_only z o part table [] p told m = absurd (both_ways false refl m)
begun_only z o part table (e ∷ es) p told m = elim (begun_one z o part table e.tick e.what) [
  | inl none ↦ absurd (both_ways false refl (ap (λ ps. is_member is_same_pair ps p) (sym none) ∙ m))
  | inr one ↦ (let h : (is_same_pair p one.0 || false) ≡ true = ap (λ ps. is_member is_same_pair ps p) (sym one.1) ∙ m in
      let s : p ≡ one.0 = elim (or_cases (is_same_pair p one.0) false h) [ inl t ↦ (told p one.0).0 t | inr t ↦ absurd (both_ways false refl t) ] in
      one.1 ∙ ap (λ q. q ∷ []) (sym s))
]

-- ---- places

member_at : (xs : List ℕ) (i : ℕ) → i < length xs → is_member nat_eq xs (get_or xs i 0) ≡ true
member_at [] i l = absurd (omega (arith, l))
member_at (x ∷ xs) zero l = or_left (nat_eq x x) (is_member nat_eq xs x) (eq-eqb x x refl)
member_at (x ∷ xs) (suc i) l = or_right (nat_eq (get_or xs i 0) x) (is_member nat_eq xs (get_or xs i 0)) (member_at xs i (omega (arith, l)))

-- pairs of a position have places of their own
places_apart : (at : ℕ → List Pair) (last n : ℕ) (row : ℕ → ℕ) → OneBegins is_same_pair at last → TakesFree is_same_pair at last n row → (k : ℕ)
    → k ≤ last → (p q : Pair) → is_member is_same_pair (at k) p ≡ true → is_member is_same_pair (at k) q ≡ true
    → row (since is_same_pair at p k) ≡ row (since is_same_pair at q k) → p ≡ q
places_apart at last n row one free zero le p q hp hq e =
    absurd (both_ways false refl (ap (λ ps. is_member is_same_pair ps p) (sym one.none) ∙ hp))
places_apart at last n row one free (suc k) le p q hp hq e =
    let lk : k < last = omega (arith, le) in
    let was : (r : Pair) → is_member is_same_pair (at k) r ≡ true → since is_same_pair at r (suc k) ≡ since is_same_pair at r k =
    λ r h. ap (λ b. cond b (since is_same_pair at r k) (suc k)) h in
    let new : (r : Pair) → is_member is_same_pair (at k) r ≡ false → since is_same_pair at r (suc k) ≡ suc k =
    λ r h. ap (λ b. cond b (since is_same_pair at r k) (suc k)) h in
    elim (cases_Bool (is_member is_same_pair (at k) p)) [
      | inl tp ↦ elim (cases_Bool (is_member is_same_pair (at k) q)) [
        | inl tq ↦ places_apart at last n row one free k (omega (arith, lk)) p q tp tq
            (ap row (sym (was p tp)) ∙ e ∙ ap row (was q tq))
        | inr nq ↦ absurd (free.free k q lk (begun_of at k q hq nq) p hp tp (ap row (sym (was p tp)) ∙ e ∙ ap row (new q nq)))
      ]
      | inr np ↦ elim (cases_Bool (is_member is_same_pair (at k) q)) [
        | inl tq ↦ absurd (free.free k p lk (begun_of at k p hp np) q hq tq (ap row (sym (was q tq)) ∙ sym e ∙ ap row (new p np)))
        | inr nq ↦ one.one k p q lk (begun_of at k p hp np) (begun_of at k q hq nq)
      ]
    ]

-- the laws that are used
pub record Kit : Type 0 where
  pub told : PairsAreTold
  pub runs : OneRunBegins
  pub aimed : SoundPortsAreAimed
  pub next : HeldOrBegun
  pub was : HeldWasThere

module _ (kit : Kit) (o : Options) (table : Targets) (es : List MidiEvent) (plan : Plan) (z : ℕ) (sound : IsSound o table es)
    (few : (k : ℕ) → k < length es → length (beginning_at (pairs_on o (is_part o) table es z) k) ≤ 1) (serves : ServesPort o table es plan z) where
  abbrev at : ℕ → List Pair
  at = pairs_on o (is_part o) table es z

  abbrev all : List Run
  all = runs_of o table es z

  abbrev row : ℕ → ℕ
  row b = row_of o es plan serves.used b

  is_run : (b : ℕ) (s : Run) → nth b all ≡ Some s → IsRun at (length es) s × (s.first ≤ length es)
  is_run b s n = all_runs at (length es) (length es) (omega arith) b s n

  begins_at : (s : Run) → IsRun at (length es) s → Begins o table es z s.first s.pair
  begins_at s is =
      let m = unbegun kit.aimed kit.next kit.was o (is_part o) table es z is.before s.pair (λ c t. t) sound is.begun in
      let one = begun_only z o (is_part o) table (event_at (port_at es z).events (suc is.before)) s.pair kit.told m in
      ap (λ t. begun_at o (is_part o) t (port_at es z) s.first) (cond-true (bends_notes o.route) table unbent sound.bends)
      ∙ ap (begun_at o (is_part o) table (port_at es z)) is.first ∙ one

  place_there : (b : ℕ) (s : Run) → nth b all ≡ Some s → row s.first < length serves.used
  place_there b s n =
      let is = (is_run b s n).0 in
      let end = (is_run b s n).1 in
      let f = is.first in
      subst (λ i. row i < length serves.used) (sym is.first) (serves.free.within is.before s.pair (omega (arith, end, f)) is.begun)

  channel_is : (b : ℕ) (s : Run) → nth b all ≡ Some s → channel_given o es plan all b ≡ get_or serves.used (row s.first) 0
  channel_is b s n =
      let is = (is_run b s n).0 in
      ap (channel_at o es plan) (first_is all b s n)
      ∙ ap (λ x. unwrap_or x 0) (serves.given s.first s.pair (begins_at s is))
      ∙ ap (λ i. get_or serves.used (row i) 0) (since_first at (length es) s is s.first (omega arith) is.order)

  pub own : (b : ℕ) (s : Run) → nth b all ≡ Some s → is_member nat_eq serves.used (channel_given o es plan all b) ≡ true
  own b s n = ap (is_member nat_eq serves.used) (channel_is b s n) ∙ member_at serves.used (row s.first) (place_there b s n)

  pub apart : (a b : ℕ) (q s : Run) (j : ℕ) → nth a all ≡ Some q → nth b all ≡ Some s → a ≢ b → q.first ≤ j → j ≤ q.last → s.first ≤ j
      → j ≤ s.last → channel_given o es plan all a ≢ channel_given o es plan all b
  apart a b q s j na nb d fa la fb lb same =
      let x = (is_run a q na).0 in
      let y = (is_run b s nb).0 in
      let within = x.within in
      let one = kit.runs o (is_part o) table (port_at es z) (length es) (kit.aimed o (is_part o) table es z (λ c t. t) sound) in
      let place : row q.first ≡ row s.first =
      ap (λ i. place_among serves.used (channel_at o es plan i)) (sym (first_is all a q na))
      ∙ ap (place_among serves.used) same
      ∙ ap (λ i. place_among serves.used (channel_at o es plan i)) (first_is all b s nb) in
      let pair : q.pair ≡ s.pair = places_apart at (length es) (length serves.used) row one serves.free j (omega (arith, la, within)) q.pair s.pair
      (x.has j fa la) (y.has j fb lb)
      (ap row (since_first at (length es) q x j fa la) ∙ place ∙ ap row (sym (since_first at (length es) s y j fb lb))) in
      d (unique at (length es) few (length es) (omega arith) a b q s na nb pair j fa la fb lb)

-- ---- a plan serves each port

pub serves : ShortestIsFree → (o : Options) (allowed : ℕ → Bool) (table : Targets) (es : List MidiEvent) (plan : Plan) (z : ℕ) → o.route ≡ ByBend
    → IsPlan o allowed table es plan → ServesPort o table es plan z
serves law o allowed table es plan z route is =
    let n : ℕ = (need_of o (is_part o) table es z).0 in
    let bend : is_bend o.route ≡ true = ap is_bend route in
    let told : need_told o table es z ≡ n = cond-true (is_bend o.route) n 0 bend in
    let gives : GivesByBend o allowed table es plan z = subst (λ (r : Route). GivesChannels r o allowed table es plan) route is.channels z in
    let fits : n ≤ length (allowed_row o allowed) = (let l = gives.chosen.within in omega (arith, l, told)) in
    let long : length (bend_row o allowed table es z) ≡ n = length-take-le n (allowed_row o allowed) fits in
    record {
      used = bend_row o allowed table es z;
      need = is.need z ∙ told;
      long = long;
      few = (let most = filter_le (λ c. allowed c && is_part o c) (from_up 0 16) in omega (arith, long, fits, most));
      free = subst (λ m. TakesFree is_same_pair (pairs_on o (is_part o) table es z) (length es) m (row_of o es plan (bend_row o allowed table es z)))
          (told ∙ sym long) (law o table es z (need_told o table es z) (row_of o es plan (bend_row o allowed table es z)) gives.chosen.takes);
      given = gives.given;
      run_count = is.run_count z;
    }
