-- The plans of a source that fits: its zones are allowed, each part that has a pair has a zone, and each zone its plan.
use Rattle.std.proofs.Common.{◌≡◌, ◌≢◌, ◌<◌, ◌≤◌, ◌+◌, ◌&&◌, ◌||◌, ◌⊎◌, arith, ℕ, zero, suc, Bool, true, false, cond, List, [], ◌∷◌, Option, Some, None, is_some, refl, ap, sym, ◌∙◌, subst, filter, length, nat_eq, nat_lt, inl, inr}
use Rattle.std.specs.List.{AllByRecursion}
use Rattle.std.specs.Set.{is_member}
use Rattle.std.proofs.lemmas.Bool.{cases_Bool, cases_eq, cases_lt, both_ways, cond_both, or_cases, or_left, or_right, and_from, and_parts, eq-eqb, eqb-true, ne_eqb}
use Rattle.mt_base.specs.declared.event.Msg.TheVariants.{NoteOn, NoteOff, KeyPressure, Control, Program, Pressure, Bend}
use Rattle.mt_base.specs.Valid.{IsValidWhat, IsValidEvent}
use Rattle.mt_base.specs.Midi.{MidiWhat, Says, SysexOf, MetaOf, MidiEvent}
use Rattle.retune_model.specs.Table.{BendTarget}
use Rattle.retune_model.specs.Options.{Options, keeps_drums}
use Rattle.retune_model.specs.PlaysTheSame.{begins_note, bend_target_if}
use Rattle.retune_model.specs.Ports.{Numbered, PortEvents, of_port, port_at, events_on, unnumbered, Ascend}
use Rattle.retune_model.specs.Places.{nth}
use Rattle.retune_model.specs.Faults.{Targets, is_part}
use Rattle.retune_model.specs.FaultLaws.{SoundPortsAreAimed}
use Rattle.retune_model.specs.Pairs.{Pair, is_same_pair, pair_if}
use Rattle.retune_model.specs.PortLaws.{PortsAreTimed}
use Rattle.retune_model.specs.PortNeed.{pairs_on, need_of, most, greater}
use Rattle.retune_model.specs.Rests.{begun_pair, begun_pairs, begun_at, is_aimed, IsAimedPort}
use Rattle.retune_model.specs.RestLaws.{OneRunBegins, HeldWasThere, HeldOrBegun, BegunIsThere}
use Rattle.retune_model.specs.Dump.{has_note_on, from_up, parts_with_notes}
use Rattle.channel_model.specs.BendOutput.{pair_with}
use Rattle.channel_model.specs.MpeOutput.{Zone, zone_with, zones_for, zone_of}
use Rattle.channel_model.specs.Rows.{only, needs_of, zones_on}
use Rattle.channel_model.specs.Refusals.{ZoneFits, with_allowed}
use Rattle.bend_laws.specs.Follows.{Has, Begins}
use Rattle.bend_laws.specs.Positions.{port_event}
use Rattle.bend_laws.proofs.Equal.{pair_itself}
use Rattle.bend_laws.proofs.Outputs.{events_if}
use Rattle.bend_laws.proofs.Placing.{event_is, StandsAt, at_place, port_within}
use Rattle.bend_laws.proofs.Planning.{BeginsIf}
use Rattle.mpe_laws.specs.Sources.{AreAllowed, HasZonePlan, in_its_zone, IsPlannedMpe}
use Rattle.mpe_laws.specs.FileLaws.{PlansServe}
use Rattle.mpe_laws.proofs.Allowed.{its_part}
use Rattle.bend_laws.proofs.Sounding.{begins_one, valid_port}

-- what is cited of pairs and faults
pub record Cited : Type 0 where
  pub within : HeldWasThere
  pub next : HeldOrBegun
  pub begun : BegunIsThere
  pub one : OneRunBegins
  pub aimed : SoundPortsAreAimed
  pub timed : PortsAreTimed

-- ---- the channels of which a test holds, ascending

abbrev Rising : (ℕ → Bool) → ℕ → List ℕ → Type 0
Rising f a [] = Unit {0}
Rising f a (c ∷ cs) = ((a ≤ c) × ((c < 16) × (f c ≡ true))) × Rising f (suc c) cs

lower : (f : ℕ → Bool) (a b : ℕ) (cs : List ℕ) → b ≤ a → Rising f a cs → Rising f b cs
lower f a b [] l h = tt
lower f a b (c ∷ cs) l h = ((omega (arith, l, h.0.0), h.0.1), h.1)

rising : (f : ℕ → Bool) (a n : ℕ) → a + n ≤ 16 → Rising f a (filter f (from_up a n))
rising f a zero l = tt
rising f a (suc n) l = pick (f a) refl (rising f (a + 1) n (omega (arith, l)))
  where
    rest : List ℕ
    rest = filter f (from_up (a + 1) n)

    pick : (b : Bool) → f a ≡ b → Rising f (a + 1) rest → Rising f a (cond b (a ∷ rest) rest)
    pick true e r = ((omega arith, (omega (arith, l), e)), lower f (a + 1) (suc a) rest (omega arith) r)
    pick false e r = lower f (a + 1) a rest (omega arith) r

beyond : (a c : ℕ) → a ≤ c → c ≢ a → a + 1 ≤ c
beyond a c l g = elim (cases_lt a c) [
  | inl i ↦ omega (arith, i)
  | inr i ↦ absurd (g (omega (arith, i, l)))
]

has_passed : (f : ℕ → Bool) (a n c : ℕ) → a ≤ c → c < a + n → f c ≡ true → is_member nat_eq (filter f (from_up a n)) c ≡ true
has_passed f a zero c l h t = absurd (omega (arith, l, h))
has_passed f a (suc n) c l h t =
    let rest : List ℕ = filter f (from_up (a + 1) n) in
    elim (cases_eq c a) [
      | inl e ↦ subst (λ b. is_member nat_eq (cond b (a ∷ rest) rest) c ≡ true) (sym (ap f (sym e) ∙ t))
          (or_left (nat_eq c a) (is_member nat_eq rest c) (eq-eqb c a e))
      | inr e ↦ (let later : is_member nat_eq rest c ≡ true = has_passed f (a + 1) n c (beyond a c l e) (omega (arith, h)) t in
          cond_both (f a) (a ∷ rest) rest (λ xs. is_member nat_eq xs c ≡ true) (λ b. or_right (nat_eq c a) (is_member nat_eq rest c) later)
          (λ b. later))
    ]

-- ---- the zones of at most two parts

two_found : (c : ℕ) (z w : Zone) → ((z.part ≡ c) ⊎ (w.part ≡ c)) → (x : Zone) × (zone_of c (z ∷ w ∷ []) ≡ Some x)
two_found c z w h = elim (cases_eq z.part c) [
  | inl e ↦ (z, ap (λ b. cond b (Some z) (zone_of c (w ∷ []))) (eq-eqb z.part c e))
  | inr e ↦ elim h [
    | inl g ↦ absurd (e g)
    | inr g ↦ (w, ap (λ b. cond b (Some z) (zone_of c (w ∷ []))) (ne_eqb z.part c e) ∙ ap (λ b. cond b (Some w) None) (eq-eqb w.part c g))
  ]
]

found_in : (need : ℕ → ℕ) (ps : List ℕ) (c : ℕ) → length ps ≤ 2 → is_member nat_eq ps c ≡ true →
    (x : Zone) × (zone_of c (zones_for (needs_of need ps)) ≡ Some x)
found_in need [] c l h = absurd (both_ways false refl h)
found_in need (a ∷ []) c l h = elim (or_cases (nat_eq c a) false h) [
  | inl e ↦ (zone_with false (a, need a), ap (λ b. cond b (Some (zone_with false (a, need a))) None) (eq-eqb a c (sym (eqb-true c a e))))
  | inr e ↦ absurd (both_ways false refl e)
]
found_in need (a ∷ b ∷ []) c l h =
    let either : (a ≡ c) ⊎ (b ≡ c) = elim (or_cases (nat_eq c a) (nat_eq c b || false) h) [
      | inl e ↦ inl (sym (eqb-true c a e))
      | inr e ↦ elim (or_cases (nat_eq c b) false e) [
        | inl g ↦ inr (sym (eqb-true c b g))
        | inr g ↦ absurd (both_ways false refl g)
      ]
    ] in
    cond_both (nat_lt (need a) (need b)) (zone_with false (b, need b) ∷ zone_with true (a, need a) ∷ [])
    (zone_with false (a, need a) ∷ zone_with true (b, need b) ∷ []) (λ zs. (x : Zone) × (zone_of c zs ≡ Some x))
    (λ e. two_found c (zone_with false (b, need b)) (zone_with true (a, need a)) (swapped either))
    (λ e. two_found c (zone_with false (a, need a)) (zone_with true (b, need b)) either)
  where
    swapped : (a ≡ c) ⊎ (b ≡ c) → (b ≡ c) ⊎ (a ≡ c)
    swapped (inl e) = inr e
    swapped (inr e) = inl e
found_in need (a ∷ b ∷ d ∷ ps) c l h = absurd (omega (arith, l))

abbrev AreFew : List (Zone × ℕ) → Type 0
AreFew xs = AllByRecursion (λ (x : Zone × ℕ). x.0.members ≤ x.1) xs

allowed_for : (o : Options) (drums : Bool) (f : ℕ → Bool) (need : ℕ → ℕ) (ps : List ℕ) → length ps ≤ 2 → Rising f 0 ps →
    ((c : ℕ) → c < 16 → f c ≡ true → (0 < need c) × (is_part o c ≡ true)) → AreFew (with_allowed drums (zones_for (needs_of need ps))) →
    AreAllowed o drums (zones_for (needs_of need ps))
allowed_for o drums f need [] l r g few = tt
allowed_for o drums f need (a ∷ []) l r g few =
    let q = g a r.0.1.0 r.0.1.1 in
    record { channel = r.0.1.0; retuned = q.1; side = refl; some = q.0; few = few.0 }
allowed_for o drums f need (a ∷ b ∷ []) l r g few =
    let q = g a r.0.1.0 r.0.1.1 in
    let s = g b r.1.0.1.0 r.1.0.1.1 in
    let apart : a ≢ b = λ e. (let h : suc a ≤ b = r.1.0.0 in omega (arith, h, e)) in
    cond_both (nat_lt (need a) (need b)) (zone_with false (b, need b) ∷ zone_with true (a, need a) ∷ [])
    (zone_with false (a, need a) ∷ zone_with true (b, need b) ∷ []) (λ zs. AreFew (with_allowed drums zs) → AreAllowed o drums zs)
    (λ e h. (
      record { channel = r.1.0.1.0; retuned = s.1; side = refl; some = s.0; few = h.0 },
      (record { channel = r.0.1.0; retuned = q.1; side = refl; some = q.0; few = h.1.0 }, λ i. apart (sym i)),
    ))
    (λ e h. (
      record { channel = r.0.1.0; retuned = q.1; side = refl; some = q.0; few = h.0 },
      (record { channel = r.1.0.1.0; retuned = s.1; side = refl; some = s.0; few = h.1.0 }, apart),
    )) few
allowed_for o drums f need (a ∷ b ∷ d ∷ ps) l r g few = absurd (omega (arith, l))

-- a zone that has a plan has as many members as its part needs, so not more than it may have
few_members : (o : Options) (table : Targets) (es : List MidiEvent) (z : ℕ) (drums : Bool) (channel : Zone → ℕ → Pair → ℕ) (zones : List Zone) →
    ((i : ℕ) (zone : Zone) → nth i zones ≡ Some zone → HasZonePlan o table es z zone (channel zone)) →
    AllByRecursion (ZoneFits o table es z) (with_allowed drums zones) → AreFew (with_allowed drums zones)
few_members o table es z drums channel [] plans fits = tt
few_members o table es z drums channel (l ∷ []) plans fits =
    (fits.0 l.members (plans 0 l refl).instant (plans 0 l refl).plan.need, tt)
few_members o table es z drums channel (l ∷ u ∷ zs) plans fits = (
  fits.0 l.members (plans 0 l refl).instant (plans 0 l refl).plan.need,
  (fits.1.0 u.members (plans 1 u refl).instant (plans 1 u refl).plan.need, tt),
)

-- a zone that is found stands somewhere
stands : (c : ℕ) (zones : List Zone) (w : Zone) → zone_of c zones ≡ Some w → (i : ℕ) × (nth i zones ≡ Some w)
stands c [] w h = absurd cc
stands c (z ∷ zs) w h = pick (nat_eq z.part c) h (stands c zs w)
  where
    pick : (b : Bool) → cond b (Some z) (zone_of c zs) ≡ Some w → (zone_of c zs ≡ Some w → (i : ℕ) × (nth i zs ≡ Some w)) →
        (i : ℕ) × (nth i (z ∷ zs) ≡ Some w)
    pick true g later = (0, g)
    pick false g later = let r = later g in (suc r.0, r.1)

-- ---- a part that has a note on needs a member

record BeginsAt (f : ℕ → Bool) (ns : List Numbered) (m : ℕ) : Type 0 where
  position : ℕ
  event : MidiEvent
  is : port_event ns position ≡ Some event
  begins : begins_note f event.what ≡ true
  later : m < position

noted : (f : ℕ → Bool) (m : ℕ) (ns : List Numbered) → Ascend m ns → has_note_on f (unnumbered ns) ≡ true → BeginsAt f ns m
noted f m [] r h = absurd (both_ways false refl h)
noted f m (n ∷ ns) r h = elim (cases_Bool (begins_note f n.event.what)) [
  | inl e ↦ record {
    position = n.position;
    event = n.event;
    is = ap (λ b. cond b (Some n.event) (port_event ns n.position)) (eq-eqb n.position n.position refl);
    begins = e;
    later = r.0;
  }
  | inr e ↦ (let g : has_note_on f (unnumbered ns) ≡ true = ap (λ b. b || has_note_on f (unnumbered ns)) (sym e) ∙ h in
      let x : BeginsAt f ns n.position = noted f n.position ns r.1 g in
      let l : n.position < x.position = x.later in
      let first : m < n.position = r.0 in
      record {
        position = x.position;
        event = x.event;
        is = ap (λ b. cond b (Some n.event) (port_event ns x.position)) (ne_eqb n.position x.position (λ i. omega (arith, i, l))) ∙ x.is;
        begins = x.begins;
        later = omega (arith, first, l);
      })
]

note_on : (f : ℕ → Bool) (ns : List Numbered) (k : ℕ) (e : MidiEvent) → port_event ns k ≡ Some e → begins_note f e.what ≡ true →
    has_note_on f (unnumbered ns) ≡ true
note_on f [] k e is h = absurd cc
note_on f (n ∷ ns) k e is h = pick (nat_eq n.position k) is (λ g. note_on f ns k e g h)
  where
    pick : (b : Bool) → cond b (Some n.event) (port_event ns k) ≡ Some e → (port_event ns k ≡ Some e → has_note_on f (unnumbered ns) ≡ true) →
        has_note_on f (unnumbered (n ∷ ns)) ≡ true
    pick true g later = or_left (begins_note f n.event.what) (has_note_on f (unnumbered ns))
        (let same : n.event ≡ e = cc in ap (λ (x : MidiEvent). begins_note f x.what) same ∙ h)
    pick false g later = or_right (begins_note f n.event.what) (has_note_on f (unnumbered ns)) (later g)

some_there : (ps : List Pair) (p : Pair) → Has ps p → 0 < length ps
some_there [] p h = absurd (both_ways false refl h)
some_there (q ∷ qs) p h = omega arith

more_than : (best : ℕ × ℕ) (n k : ℕ) → (best.0 ≤ (greater best n k).0) × (n ≤ (greater best n k).0)
more_than best n k = pick (nat_lt best.0 n) refl
  where
    pick : (b : Bool) → nat_lt best.0 n ≡ b → (best.0 ≤ (cond b (n, k) best).0) × (n ≤ (cond b (n, k) best).0)
    pick true e = (grind (arith, e), omega arith)
    pick false e = (omega arith, grind (arith, e))

most_of : (at : ℕ → List Pair) (n k : ℕ) → k ≤ n → length (at k) ≤ (most at n).0
most_of at zero zero l = omega arith
most_of at zero (suc k) l = absurd (omega (arith, l))
most_of at (suc n) k l = elim (cases_eq k (suc n)) [
  | inl e ↦ subst (λ j. length (at j) ≤ (most at (suc n)).0) (sym e) (more_than (most at n) (length (at (suc n))) (suc n)).1
  | inr e ↦ (let before : length (at k) ≤ (most at n).0 = most_of at n k (omega (arith, l, e)) in
      let grows : (most at n).0 ≤ (most at (suc n)).0 = (more_than (most at n) (length (at (suc n))) (suc n)).0 in omega (arith, before, grows))
]

-- the pair of a note on
begun_some : (z : ℕ) (o : Options) (c t : ℕ) (table : Targets) (w : MidiWhat) → begins_note (λ d. nat_eq d c) w ≡ true →
    is_aimed o (only c) table t w ≡ true → (p : Pair) × Has (begun_pair z o (only c) table t w) p
begun_some z o c t table (Says (NoteOn d k zero)) h a = absurd (both_ways false refl h)
begun_some z o c t table (Says (NoteOn d k (suc v))) h a = pick (bend_target_if o.range (table k t)) refl
  where
    pick : (x : Option BendTarget) → bend_target_if o.range (table k t) ≡ x → (p : Pair) ×
        Has (cond (nat_eq d c) (pair_if z d (bend_target_if o.range (table k t)) []) []) p
    pick None e = absurd (both_ways false refl (sym (ap is_some e)
        ∙ ap (λ b. cond b (is_some (bend_target_if o.range (table k t))) true) (sym h) ∙ a))
    pick (Some x) e = (
      pair_with z d x,
      subst (λ b. Has (cond b (pair_if z d (bend_target_if o.range (table k t)) []) []) (pair_with z d x)) (sym h)
          (subst (λ y. Has (pair_if z d y []) (pair_with z d x)) (sym e) (or_left (is_same_pair (pair_with z d x) (pair_with z d x)) false
          (pair_itself (pair_with z d x)))),
    )
begun_some z o c t table (Says (NoteOff d k v)) h a = absurd (both_ways false refl h)
begun_some z o c t table (Says (KeyPressure d k v)) h a = absurd (both_ways false refl h)
begun_some z o c t table (Says (Control d n v)) h a = absurd (both_ways false refl h)
begun_some z o c t table (Says (Program d x)) h a = absurd (both_ways false refl h)
begun_some z o c t table (Says (Pressure d v)) h a = absurd (both_ways false refl h)
begun_some z o c t table (Says (Bend d v)) h a = absurd (both_ways false refl h)
begun_some z o c t table (SysexOf lead bytes) h a = absurd (both_ways false refl h)
begun_some z o c t table (MetaOf kind bytes) h a = absurd (both_ways false refl h)

only_part : (o : Options) (c : ℕ) → is_part o c ≡ true → (d : ℕ) → only c d ≡ true → is_part o d ≡ true
only_part o c part d h = ap (is_part o) (eqb-true d c h) ∙ part

needs_some : Cited → (o : Options) (table : Targets) (es : List MidiEvent) (channel : ℕ → Zone → ℕ → Pair → ℕ) → IsPlannedMpe o table es channel →
    (z c : ℕ) → is_part o c ≡ true → has_note_on (λ d. nat_eq d c) (events_on z es) ≡ true → 0 < (need_of o (only c) table es z).0
needs_some f o table es channel b z c part h =
    let ns : List Numbered = of_port z es in
    let port : PortEvents = port_at es z in
    let rises : Ascend 0 ns = (f.timed z es b.sound.in_order).ascend in
    let x : BeginsAt (λ d. nat_eq d c) ns 0 = noted (λ d. nat_eq d c) 0 ns rises h in
    at_position x x.position refl rises
  where
    aimed : IsAimedPort o (only c) table (port_at es z)
    aimed = f.aimed o (only c) table es z (only_part o c part) b.sound

    at_position : (x : BeginsAt (λ d. nat_eq d c) (of_port z es) 0) → (k : ℕ) → x.position ≡ k → Ascend 0 (of_port z es) →
        0 < (need_of o (only c) table es z).0
    at_position x zero is rises = absurd (let l : 0 < x.position = x.later in omega (arith, l, is))
    at_position x (suc k) is rises =
        let ns : List Numbered = of_port z es in
        let e : MidiEvent = x.event in
        let here : port_event ns (suc k) ≡ Some e = ap (port_event ns) (sym is) ∙ x.is in
        let aim : StandsAt (λ n. is_aimed o (only c) table n.event.tick n.event.what ≡ true) (suc k) e =
        at_place (λ n. is_aimed o (only c) table n.event.tick n.event.what ≡ true) ns aimed.aimed (suc k) e here in
        let place : StandsAt (λ n. n.position ≤ length es) (suc k) e =
        at_place (λ n. n.position ≤ length es) ns (port_within z es) (suc k) e here in
        let in_time : suc k ≤ length es = subst (λ j. j ≤ length es) place.position place.holds in
        let some = begun_some z o c e.tick table e.what x.begins
        (ap (λ (y : MidiEvent). is_aimed o (only c) table y.tick y.what) (sym aim.event) ∙ aim.holds) in
        let begun : Has (begun_at o (only c) table (port_at es z) (suc k)) some.0 =
        subst (λ xs. Has (begun_pairs z o (only c) table xs) some.0) (sym (event_is 0 ns rises (suc k) ∙ ap events_if here)) some.1 in
        let there : Has (pairs_on o (only c) table es z (suc k)) some.0 = f.begun o (only c) table (port_at es z) aimed k some.0 begun in
        let one : 0 < length (pairs_on o (only c) table es z (suc k)) = some_there (pairs_on o (only c) table es z (suc k)) some.0 there in
        let most : length (pairs_on o (only c) table es z (suc k)) ≤ (need_of o (only c) table es z).0 =
        most_of (pairs_on o (only c) table es z) (length es) (suc k) in_time in
        omega (arith, one, most)

-- ---- the part of a pair has a note on

begins_here : (z : ℕ) (o : Options) (table : Targets) (t : ℕ) (w : MidiWhat) (p : Pair) → IsValidWhat w → Begins z o table t w p →
    (p.part.channel < 16) × ((is_part o p.part.channel ≡ true) × (begins_note (λ d. nat_eq d p.part.channel) w ≡ true))
begins_here z o table t (Says (NoteOn c k zero)) p v b = absurd b
begins_here z o table t (Says (NoteOn c k (suc n))) p v b =
    let is : p.part.channel ≡ c = ap (λ (q : Pair). q.part.channel) b.1.2 in
    let low : c ≤ 15 = v.0 in
    (omega (arith, is, low), (ap (is_part o) is ∙ b.0, eq-eqb c p.part.channel (sym is)))
begins_here z o table t (Says (NoteOff c k n)) p v b = absurd b
begins_here z o table t (Says (KeyPressure c k n)) p v b = absurd b
begins_here z o table t (Says (Control c k n)) p v b = absurd b
begins_here z o table t (Says (Program c x)) p v b = absurd b
begins_here z o table t (Says (Pressure c n)) p v b = absurd b
begins_here z o table t (Says (Bend c n)) p v b = absurd b
begins_here z o table t (SysexOf lead bytes) p v b = absurd b
begins_here z o table t (MetaOf kind bytes) p v b = absurd b

-- as a part with notes has
record HasNotes (o : Options) (es : List MidiEvent) (z c : ℕ) : Type 0 where
  low : c < 16
  part : is_part o c ≡ true
  noted : has_note_on (λ d. nat_eq d c) (events_on z es) ≡ true

begun_notes : (o : Options) (table : Targets) (es : List MidiEvent) → AllByRecursion IsValidEvent es → (z k : ℕ) → k < length es → (p : Pair) →
    (x : Option MidiEvent) → port_event (of_port z es) (suc k) ≡ x → BeginsIf z o table x p → HasNotes o es z p.part.channel
begun_notes o table es valid z k l p None is b = absurd b
begun_notes o table es valid z k l p (Some e) is b =
    let q = begins_here z o table e.tick e.what p (valid_port es valid z (length es) k e l is).what b in
    record { low = q.0; part = q.1.0; noted = note_on (λ d. nat_eq d p.part.channel) (of_port z es) (suc k) e is q.1.1 }

has_notes : Cited → (o : Options) (table : Targets) (es : List MidiEvent) (channel : ℕ → Zone → ℕ → Pair → ℕ) → IsPlannedMpe o table es channel →
    (z k : ℕ) (p : Pair) → Has (pairs_on o (is_part o) table es z k) p → HasNotes o es z p.part.channel
has_notes f o table es channel b z zero p h =
    let one = f.one o (is_part o) table (port_at es z) (length es) (f.aimed o (is_part o) table es z (λ c g. g) b.sound) in
    absurd (both_ways false refl (ap (λ ps. is_member is_same_pair ps p) (sym one.none) ∙ h))
has_notes f o table es channel b z (suc k) p h =
    let ns : List Numbered = of_port z es in
    let rises : Ascend 0 ns = (f.timed z es b.sound.in_order).ascend in
    let aimed : IsAimedPort o (is_part o) table (port_at es z) = f.aimed o (is_part o) table es z (λ c g. g) b.sound in
    elim (f.next o (is_part o) table (port_at es z) aimed k p h) [
      | inl held ↦ has_notes f o table es channel b z k p (f.within o (is_part o) table (port_at es z) aimed k p held)
      | inr begun ↦ (let begins : BeginsIf z o table (port_event ns (suc k)) p = begins_one z o table (port_event ns (suc k)) p
          (subst (λ xs. Has (begun_pairs z o (is_part o) table xs) p) (event_is 0 ns rises (suc k)) begun) in
          by_event (port_event ns (suc k)) refl begins)
    ]
  where
    by_event : (x : Option MidiEvent) → port_event (of_port z es) (suc k) ≡ x → BeginsIf z o table x p → HasNotes o es z p.part.channel
    by_event None is begins = absurd begins
    by_event (Some e) is begins =
        let place : StandsAt (λ n. n.position ≤ length es) (suc k) e =
        at_place (λ n. n.position ≤ length es) (of_port z es) (port_within z es) (suc k) e is in
        let in_time : suc k ≤ length es = subst (λ j. j ≤ length es) place.position place.holds in
        begun_notes o table es b.valid z k (omega (arith, in_time)) p (Some e) is begins

-- ---- together

pub plans_serve : Cited → PlansServe
plans_serve f o table es channel b = record {
  route = b.route;
  range = b.range;
  valid = b.valid;
  sound = b.sound;
  ports = λ z. (
      let zones : List Zone = zones_on o table es z in
      let ps : List ℕ = parts_with_notes o (events_on z es) in
      let need : ℕ → ℕ = λ c. (need_of o (only c) table es z).0 in
      let drums : Bool = keeps_drums o (events_on z es) in
      let f_test : ℕ → Bool = λ c. is_part o c && has_note_on (λ d. nat_eq d c) (events_on z es) in
      record {
        allowed = allowed_for o drums f_test need ps (b.fits z).0 (rising f_test 0 16 (omega arith))
            (λ c low t. (let q = and_parts (is_part o c) (has_note_on (λ d. nat_eq d c) (events_on z es)) t in
            (needs_some f o table es channel b z c q.0 q.1, q.0)))
            (few_members o table es z drums (channel z) zones (b.plans z) (b.fits z).1);
        zoned = λ k p h. (
            let x : HasNotes o es z p.part.channel = has_notes f o table es channel b z k p h in
            found_in need ps p.part.channel (b.fits z).0 (has_passed f_test 0 16 p.part.channel (omega arith) (let l : p.part.channel < 16 =
            x.low in omega (arith, l))
            (and_from (is_part o p.part.channel) (has_note_on (λ d. nat_eq d p.part.channel) (events_on z es)) x.part x.noted)));
        plans = λ c zone of. (
            let at = stands c zones zone of in
            let have : HasZonePlan o table es z zone (channel z zone) = b.plans z at.0 zone at.1 in
            record {
              instant = have.instant;
              row = have.row;
              plan = record {
                need = have.plan.need;
                takes = have.plan.takes;
                given = λ k p is. ap (in_its_zone (channel z) k p)
                    (ap (λ d. zone_of d zones) (is ∙ its_part c zones zone of) ∙ of) ∙ have.plan.given k p is;
              };
            });
      });
}
