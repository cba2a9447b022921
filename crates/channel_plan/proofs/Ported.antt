-- What is planned for the ports of a source, one after the other.
use Rattle.std.proofs.Common.{◌≡◌, ◌≢◌, ◌≤◌, ◌<◌, ◌+◌, ◌-◌, ℕ, zero, suc, Bool, true, false, cond, ◌&&◌, nat_eq, List, [], ◌∷◌, ◌++◌, length, filter, map, get_or, refl, ap, sym, subst, ◌∙◌, arith, inl, inr}
use Rattle.std.specs.Prelude.{Option, Some, None, IfSome, IfNone, Result, Ok, Err, IfOk, IfErr}
use Rattle.std.specs.Result.{IsErrAnd}
use Rattle.std.specs.List.{AllByRecursion}
use Rattle.std.proofs.lemmas.Bool.{both_ways, and_parts, cases_lt}
use Rattle.std.proofs.lemmas.Bool.Decides.{eqb_tells}
use Rattle.std.proofs.lemmas.List.{append-nil, map-append}
use Rattle.std.proofs.Math.Seq.{take-length}
use Rattle.mt_base.specs.Midi.{MidiEvent}
use Rattle.retune_model.specs.Options.{Options, Route, ByDump, ByLive, ByBend, ByMpe, keeps_drums, bends_notes}
use Rattle.retune_model.specs.Ports.{tick_to, events_on}
use Rattle.retune_model.specs.Faults.{Targets, is_part, is_bend}
use Rattle.retune_model.specs.Dump.{from_up, has_note_on, parts_with_notes}
use Rattle.retune_model.specs.PortNeed.{need_of, pairs_on}
use Rattle.channel_model.specs.MpeOutput.{Zone as ZoneOf, zones_for}
use Rattle.retune_model.specs.SourceFaults.{IsFaultless, IsSound}
use Rattle.channel_model.specs.Refusals.{TooMany, NeedsMore, FirstNeedsMore, ZoneFits, ZonesFit, with_allowed, zones_allowed, HasFewParts, RefusesOn, FitsOn}
use Rattle.channel_model.specs.Refusals.{TooManyChannels as ManyChannels}
use Rattle.channel_model.specs.Rows.{allowed_row, needs_of, only, zones_on}
use Rattle.lifetimes.specs.Views.{pair_of}
use Rattle.channel_plan.specs.declared.fault.Instant.{Instant}
use Rattle.channel_plan.specs.declared.layout.Layout.{Layout}
use Rattle.channel_plan.specs.declared.layout.Layout.TheVariants.{Own, Bend, Mpe}
use Rattle.channel_plan.specs.declared.plan.PortPlan.{PortPlan}
use Rattle.channel_plan.specs.declared.plan.ZonePlan.{ZonePlan}
use Rattle.channel_plan.specs.declared.fault.PlanFault.{PlanFault}
use Rattle.channel_plan.specs.declared.fault.PlanFault.TheVariants.{Source, TooManyParts, TooManyChannels, Memory}
use Rattle.channel_plan.specs.declared.planning.Needs.{Needs}
use Rattle.channel_plan.specs.declared.survey.Survey.{Survey}
use Rattle.channel_plan.specs.Layouts.{IsLayoutOf, allows}
use Rattle.channel_plan.specs.Passing.{AreAsked}
use Rattle.channel_plan.specs.Refused.{too_many_of, IsRefused}
use Rattle.channel_plan.specs.Told.{port_in}
use Rattle.channel_plan.specs.Planned.{is_noted, noted_ports, instant_of, position_told, zones_told, zone_told, zone_pairs_told}
use Rattle.channel_plan.specs.Finding.{IsBendPort, IsPortPlan, AreZones}
use Rattle.channel_plan.specs.Surveys.{Surveys, counts_on, IsCounted}
use Rattle.channel_plan.specs.Surveyed.{FitsAt, IsFaultAt, IsPlannedAt, IsSurveyed, ArePlannedTo, AreNeeds}
use Rattle.channel_plan.proofs.Putting.{channel_put, channel_passed}
use Rattle.channel_plan.proofs.Noting.{PairLaws, no_parts, with_parts, needs_none}

-- ---- layouts

pub own_unbent : (r : Route) → IsLayoutOf r Own → is_bend r ≡ false
own_unbent ByDump h = refl
own_unbent ByLive h = refl
own_unbent ByBend h = absurd h
own_unbent ByMpe h = absurd h

pub own_told : (r : Route) (o : Options) (table : Targets) (es : List MidiEvent) (z : ℕ) → IsLayoutOf r Own → zones_told r o table es z ≡ []
own_told ByDump o table es z h = refl
own_told ByLive o table es z h = refl
own_told ByBend o table es z h = absurd h
own_told ByMpe o table es z h = absurd h

pub own_fits : (r : Route) (o : Options) (allowed : ℕ → Bool) (table : Targets) (es : List MidiEvent) (z : ℕ) → IsLayoutOf r Own
    → FitsAt r o allowed table es z
own_fits ByDump o allowed table es z h = tt
own_fits ByLive o allowed table es z h = tt
own_fits ByBend o allowed table es z h = absurd h
own_fits ByMpe o allowed table es z h = absurd h

pub bend_of : (r : Route) (mask : ℕ) → IsLayoutOf r (Bend mask) → r ≡ ByBend
bend_of ByDump mask h = absurd h
bend_of ByLive mask h = absurd h
bend_of ByBend mask h = refl
bend_of ByMpe mask h = absurd h

pub mpe_of : (r : Route) → IsLayoutOf r Mpe → r ≡ ByMpe
mpe_of ByDump h = absurd h
mpe_of ByLive h = absurd h
mpe_of ByBend h = absurd h
mpe_of ByMpe h = refl

-- ---- a port

tick_first : (es : List MidiEvent) → tick_to es 0 ≡ 0
tick_first [] = refl
tick_first (e ∷ es) = refl

abbrev pub start : Instant
start = record { position = 0; tick = 0 }

pub at_start : (es : List MidiEvent) → start ≡ instant_of es 0
at_start es = ap (λ t. let i : Instant = record { position = 0; tick = t } in i) (sym (tick_first es))

pub unbent_plan : (o : Options) (allowed : ℕ → Bool) (table : Targets) (es : List MidiEvent) (z : ℕ) (p : PortPlan) → is_bend o.route ≡ false
    → p.number ≡ z → p.need ≡ 0 → p.instant ≡ start → p.pairs.items ≡ []
    → map (λ q. q.zone) p.zones.items ≡ map (zone_told o table es z) (zones_told o.route o table es z)
    → map (λ q. map pair_of q.pairs.items) p.zones.items ≡ map (zone_pairs_told o table es z) (zones_told o.route o table es z)
    → IsPortPlan o allowed table es z p
unbent_plan o allowed table es z p unbent number need instant pairs zones zone_pairs = record {
  number = number;
  need = need ∙ sym (ap (λ b. cond b (need_of o (is_part o) table es z).0 0) unbent);
  instant = instant ∙ at_start es ∙ ap (instant_of es) (sym (ap (λ b. cond b (need_of o (is_part o) table es z).1 0) unbent));
  pairs = ap (map pair_of) pairs ∙ sym (ap (λ b. cond b (pairs_on o (is_part o) table es z (position_told o table es z)) []) unbent);
  zones = zones;
  zone_pairs = zone_pairs;
  used = λ bend. absurd (both_ways (is_bend o.route) unbent (ap is_bend bend));
}

-- a port on bend
bend_plan : (o : Options) (allowed : ℕ → Bool) (table : Targets) (es : List MidiEvent) (z : ℕ) (p : PortPlan) → o.route ≡ ByBend
    → IsBendPort o allowed table es z p → p.zones.items ≡ [] → p.runs ≡ 0 → IsPlannedAt o allowed table es z p
bend_plan o allowed table es z p bend is none begun =
    let bent : is_bend o.route ≡ true = ap is_bend bend in
    let need = need_of o (is_part o) table es z in
    let at : position_told o table es z ≡ need.1 = ap (λ b. cond b need.1 0) bent in
    let told : zones_told o.route o table es z ≡ [] = ap (λ r. zones_told r o table es z) bend in
    record {
      plan = record {
        number = is.number;
        need = is.found.number ∙ sym (ap (λ b. cond b need.0 0) bent);
        instant = is.found.first ∙ ap (instant_of es) (sym at);
        pairs = is.found.most ∙ ap (pairs_on o (is_part o) table es z) (sym at)
            ∙ sym (ap (λ b. cond b (pairs_on o (is_part o) table es z (position_told o table es z)) []) bent);
        zones = ap (map (λ q. q.zone)) none ∙ sym (ap (map (zone_told o table es z)) told);
        zone_pairs = ap (map (λ q. map pair_of q.pairs.items)) none ∙ sym (ap (map (zone_pairs_told o table es z)) told);
        used = λ b. is.used;
      };
      begun = begun;
      fits = subst (λ r. FitsAt r o allowed table es z) (sym bend) is.fits;
    }

pub bend_planned : (o : Options) (allowed : ℕ → Bool) (table : Targets) (es : List MidiEvent) (z : ℕ) (r : Result PortPlan PlanFault)
    → o.route ≡ ByBend → IfOk r (IsBendPort o allowed table es z) → IfOk r (λ p. p.zones.items ≡ []) → IfOk r (λ p. p.runs ≡ 0)
    → IfOk r (IsPlannedAt o allowed table es z)
bend_planned o allowed table es z (Ok p) bend is none begun = bend_plan o allowed table es z p bend is none begun
bend_planned o allowed table es z (Err f) bend is none begun = tt

-- ---- the zones of a port

filter_all : (f : ℕ → Bool) (xs : List ℕ) → AllByRecursion (λ x. f x ≡ true) (filter f xs)
filter_all f [] = tt
filter_all f (x ∷ xs) = pick (f x) refl (filter_all f xs)
  where
    pick : (b : Bool) → f x ≡ b → AllByRecursion (λ y. f y ≡ true) (filter f xs)
        → AllByRecursion (λ y. f y ≡ true) (cond b (x ∷ filter f xs) (filter f xs))
    pick true e more = (e, more)
    pick false e more = more

all_marked : (o : Options) (es : List MidiEvent) (z : ℕ) (cs : List ℕ) → cs ≡ parts_with_notes o (events_on z es)
    → AllByRecursion (λ c. (is_part o c && has_note_on (λ d. nat_eq d c) (events_on z es)) ≡ true) cs
all_marked o es z cs h =
    let f : ℕ → Bool = λ c. is_part o c && has_note_on (λ d. nat_eq d c) (events_on z es) in
    subst (AllByRecursion (λ c. f c ≡ true)) (sym h) (filter_all f (from_up 0 16))

counted_part : (o : Options) (c : ℕ) (b : Bool) → o.route ≡ ByMpe → (is_part o c && b) ≡ true → IsCounted o (Some c)
counted_part o c b mpe h = subst (λ r. counts_on o r (Some c)) (sym mpe) (and_parts (is_part o c) b h).0

pub first_counts : (o : Options) (es : List MidiEvent) (z c : ℕ) (cs : List ℕ) → o.route ≡ ByMpe → c ∷ cs ≡ parts_with_notes o (events_on z es)
    → IsCounted o (Some c)
first_counts o es z c cs mpe h = counted_part o c (has_note_on (λ d. nat_eq d c) (events_on z es)) mpe (all_marked o es z (c ∷ cs) h).0

pub second_counts : (o : Options) (es : List MidiEvent) (z c d : ℕ) (cs : List ℕ) → o.route ≡ ByMpe
    → c ∷ d ∷ cs ≡ parts_with_notes o (events_on z es) → IsCounted o (Some d)
second_counts o es z c d cs mpe h = counted_part o d (has_note_on (λ x. nat_eq x d) (events_on z es)) mpe (all_marked o es z (c ∷ d ∷ cs) h).1.0

-- without a part there is no zone
pub no_zones : (o : Options) (table : Targets) (es : List MidiEvent) (z : ℕ) → parts_with_notes o (events_on z es) ≡ [] → zones_on o table es z ≡ []
no_zones o table es z none = ap (λ ps. zones_for (needs_of (λ c. (need_of o (only c) table es z).0) ps)) none

pub none_refused : (o : Options) (table : Targets) (es : List MidiEvent) (z : ℕ) → parts_with_notes o (events_on z es) ≡ [] → ZonesFit o table es z
none_refused o table es z none = subst (λ zs. AllByRecursion (ZoneFits o table es z) (with_allowed (keeps_drums o (events_on z es)) zs))
    (sym (no_zones o table es z none)) tt

pub none_fit : (o : Options) (table : Targets) (es : List MidiEvent) (z : ℕ) (plans : List ZonePlan) → parts_with_notes o (events_on z es) ≡ []
    → plans ≡ [] → AreZones o table es z plans
none_fit o table es z plans none is = record {
  zones = ap (map (λ p. p.zone)) is ∙ sym (ap (map (zone_told o table es z)) (no_zones o table es z none));
  pairs = ap (map (λ p. map pair_of p.pairs.items)) is ∙ sym (ap (map (zone_pairs_told o table es z)) (no_zones o table es z none));
  fit = none_refused o table es z none;
}

-- two at most are two
pub only_two : (c d : ℕ) (cs all : List ℕ) → c ∷ d ∷ cs ≡ all → length (c ∷ d ∷ cs) ≤ 2 → all ≡ c ∷ d ∷ []
only_two c d [] all h few = sym h
only_two c d (e ∷ cs) all h few = absurd (omega (arith, few))

-- ---- one port after the other

pub below_next : (P : ℕ → Type 0) (n : ℕ) → ((z : ℕ) → z < n → P z) → P n → (z : ℕ) → z < n + 1 → P z
below_next P n below at z low = elim (eqb_tells z n) [
  | inl t ↦ subst P (sym t.1) at
  | inr t ↦ (let other = t.1 in below z (omega (arith, low, other)))
]

pub in_some : {A : Type 0} {P Q : A → Type 0} (r : Option A) → ((x : A) → P x → Q x) → IfSome r P → IfSome r Q
in_some (Some x) f h = f x h
in_some None f h = tt

pub in_none : {A P Q : Type 0} (r : Option A) → (P → Q) → IfNone r P → IfNone r Q
in_none (Some x) f h = tt
in_none None f h = f h

-- ---- patterns of lists

pub one_item : (xs : List ℕ) (a : ℕ) → 1 ≤ length xs → length xs < 2 → a ≡ get_or xs 0 a → xs ≡ a ∷ []
one_item [] a low high is = absurd (omega (arith, low))
one_item (x ∷ []) a low high is = ap (λ y. y ∷ []) (sym is)
one_item (x ∷ y ∷ xs) a low high is = absurd (omega (arith, high))

pub two_items : (xs : List ℕ) (a b : ℕ) → 2 ≤ length xs → length xs ≤ 2 → a ≡ get_or xs 0 a → b ≡ get_or xs 1 b → xs ≡ a ∷ b ∷ []
two_items [] a b low high first second = absurd (omega (arith, low))
two_items (x ∷ []) a b low high first second = absurd (omega (arith, low))
two_items (x ∷ y ∷ []) a b low high first second = ap (λ z. z ∷ y ∷ []) (sym first) ∙ ap (λ z. a ∷ z ∷ []) (sym second)
two_items (x ∷ y ∷ z ∷ xs) a b low high first second = absurd (omega (arith, high))

-- ---- errors that are handed on

pub handed_on : {A E : Type 0} (r : Result A E) (x : E) (P : E → Type 0) → IsErrAnd r (λ y. y ≡ x) → P x → IfErr r P
handed_on (Ok a) x P h p = tt
handed_on (Err y) x P h p = subst P (sym h) p

-- ---- ports without a note

and_false : (b : Bool) → (b && false) ≡ false
and_false true = refl
and_false false = refl

nothing_passes : (f : ℕ → Bool) (xs : List ℕ) → filter (λ c. f c && false) xs ≡ []
nothing_passes f [] = refl
nothing_passes f (x ∷ xs) = ap (λ b. cond b (x ∷ filter (λ c. f c && false) xs) (filter (λ c. f c && false) xs)) (and_false (f x))
    ∙ nothing_passes f xs

-- a number that no port has
pub none_high : (o : Options) (table : Targets) (es : List MidiEvent) (s : Survey) (z : ℕ) → Surveys o table es s → 256 ≤ z
    → events_on z es ≡ []
none_high o table es s z is high = sym (ap (events_on z) (take-length es)) ∙ is.high z high

pub high_parts : (o : Options) (table : Targets) (es : List MidiEvent) (s : Survey) (z : ℕ) → Surveys o table es s → 256 ≤ z
    → parts_with_notes o (events_on z es) ≡ []
high_parts o table es s z is high = ap (parts_with_notes o) (none_high o table es s z is high) ∙ nothing_passes (is_part o) (from_up 0 16)

pub silent_fits : PairLaws → (o : Options) (allowed : ℕ → Bool) (table : Targets) (es : List MidiEvent) (z : ℕ) → AreAsked es
    → IsFaultless o table es → parts_with_notes o (events_on z es) ≡ [] → FitsAt o.route o allowed table es z
silent_fits laws o allowed table es z asked faultless none = pick o.route refl
  where
    pick : (r : Route) → o.route ≡ r → FitsAt r o allowed table es z
    pick ByDump e = tt
    pick ByLive e = tt
    pick ByBend e = λ n instant need. (let bends : bends_notes o.route ≡ true = ap bends_notes e in
        let sound : IsSound o table es = record { bends = bends; in_order = asked.order; faultless = faultless } in
        let zero_need = needs_none laws o (is_part o) table es z (λ c h. h) sound (no_parts o es z asked.valid none) n instant need in
        subst (λ m. m ≤ length (allowed_row o allowed)) (sym zero_need) (omega arith))
    pick ByMpe e = none_refused o table es z none

-- ---- the next port

all_more : {X : Type 0} (P : X → Type 0) (xs : List X) (x : X) → AllByRecursion P xs → P x → AllByRecursion P (xs ++ x ∷ [])
all_more P [] x h p = (p, tt)
all_more P (y ∷ ys) x h p = (h.0, all_more P ys x h.1 p)

pub port_put : (o : Options) (allowed : ℕ → Bool) (table : Targets) (es : List MidiEvent) (n : ℕ) (zs ys : List ℕ) (plans qs : List PortPlan)
    (p : PortPlan) → ArePlannedTo o allowed table es n zs plans → n < 256 → is_noted o es n ≡ true → IsPlannedAt o allowed table es n p
    → ys ≡ zs ++ n ∷ [] → qs ≡ plans ++ p ∷ [] → ArePlannedTo o allowed table es (n + 1) ys qs
port_put o allowed table es n zs ys plans qs p to low noted planned of_ys of_qs = record {
  numbers = ap (λ l. l ++ filter (is_noted o es) (from_up (n + 1) (256 - (n + 1)))) of_ys
      ∙ channel_put (is_noted o es) n 256 zs (noted_ports o es) low noted to.numbers;
  same = ap (map (λ q. q.number)) of_qs ∙ map-append (λ q. q.number) plans (p ∷ []) ∙ ap (λ l. l ++ p.number ∷ []) to.same
      ∙ ap (λ m. zs ++ m ∷ []) planned.plan.number ∙ sym of_ys;
  each = subst (AllByRecursion (λ q. IsPortPlan o allowed table es q.number q)) (sym of_qs)
      (all_more (λ q. IsPortPlan o allowed table es q.number q) plans p to.each
      (subst (λ m. IsPortPlan o allowed table es m p) (sym planned.plan.number) planned.plan));
  begun = subst (AllByRecursion (λ q. q.runs ≡ 0)) (sym of_qs) (all_more (λ q. q.runs ≡ 0) plans p to.begun planned.begun);
  fits = below_next (FitsAt o.route o allowed table es) n to.fits planned.fits;
}

pub port_passed : (o : Options) (allowed : ℕ → Bool) (table : Targets) (es : List MidiEvent) (n : ℕ) (zs : List ℕ) (plans : List PortPlan)
    → ArePlannedTo o allowed table es n zs plans → n < 256 → is_noted o es n ≡ false → FitsAt o.route o allowed table es n
    → ArePlannedTo o allowed table es (n + 1) zs plans
port_passed o allowed table es n zs plans to low silent fits = record {
  numbers = channel_passed (is_noted o es) n 256 zs (noted_ports o es) low silent to.numbers;
  same = to.same;
  each = to.each;
  begun = to.begun;
  fits = below_next (FitsAt o.route o allowed table es) n to.fits fits;
}

-- ---- the first port that is refused

first_port : (o : Options) (table : Targets) (es : List MidiEvent) (z : ℕ) (xs : List (ZoneOf × ℕ)) (t : TooMany) → FirstNeedsMore o table es z xs t
    → t.port ≡ z
first_port o table es z [] t h = absurd h
first_port o table es z (x ∷ xs) t (inl h) = h.port
first_port o table es z (x ∷ xs) t (inr h) = first_port o table es z xs t h.1

module _ (o : Options) (allowed : ℕ → Bool) (table : Targets) (es : List MidiEvent) (faultless : IsFaultless o table es) (few : o.route ≡ ByMpe
    → (z : ℕ) → HasFewParts o es z) (z : ℕ) where
  refused_by : (r : Route) (f : PlanFault) → o.route ≡ r → IsFaultAt r o allowed table es z f → ((y : ℕ) → y < z → FitsAt r o allowed table es y)
      → IsRefused o allowed table es f
  refused_by ByDump f e is least = subst (IsRefused o allowed table es) (sym is) tt
  refused_by ByLive f e is least = subst (IsRefused o allowed table es) (sym is) tt
  refused_by ByBend (Source f) e is least = absurd is
  refused_by ByBend (TooManyParts p n) e is least = absurd is
  refused_by ByBend (TooManyChannels t) e is least = (
    faultless,
    subst (λ r. RefusesOn r o allowed table es (ManyChannels (too_many_of t))) (sym e) (record {
      here = subst (λ y. NeedsMore o (is_part o) table es y (length (allowed_row o allowed)) (too_many_of t)) (sym is.port) is;
      least = λ y low. least y (subst (λ x. y < x) is.port low);
    }),
  )
  refused_by ByBend Memory e is least = tt
  refused_by ByMpe (Source f) e is least = absurd is
  refused_by ByMpe (TooManyParts p n) e is least = absurd is
  refused_by ByMpe (TooManyChannels t) e is least =
      let port = first_port o table es z (zones_allowed o table es z) (too_many_of t) is in (
        faultless,
        subst (λ r. RefusesOn r o allowed table es (ManyChannels (too_many_of t))) (sym e) (record {
          few = few e;
          here = subst (λ y. FirstNeedsMore o table es y (zones_allowed o table es y) (too_many_of t)) (sym port) is;
          least = λ y low. least y (subst (λ x. y < x) port low);
        }),
      )
  refused_by ByMpe Memory e is least = tt

  pub refused_at : (f : PlanFault) → IsFaultAt o.route o allowed table es z f → ((y : ℕ) → y < z → FitsAt o.route o allowed table es y)
      → IsRefused o allowed table es f
  refused_at f is least = refused_by o.route f refl is least

-- ---- all ports

absent : (plans : List PortPlan) (z : ℕ) → port_in plans z ≡ None → AllByRecursion (λ n. nat_eq n z ≡ false) (map (λ p. p.number) plans)
absent [] z h = tt
absent (p ∷ ps) z h = pick (nat_eq p.number z) refl h (absent ps z)
  where
    pick : (b : Bool) → nat_eq p.number z ≡ b → cond b (Some p) (port_in ps z) ≡ None
        → (port_in ps z ≡ None → AllByRecursion (λ n. nat_eq n z ≡ false) (map (λ p. p.number) ps))
        → (nat_eq p.number z ≡ false) × AllByRecursion (λ n. nat_eq n z ≡ false) (map (λ p. p.number) ps)
    pick true e g more = absurd cc
    pick false e g more = (e, more g)

unlisted : (f : ℕ → Bool) (a n z : ℕ) → AllByRecursion (λ m. nat_eq m z ≡ false) (filter f (from_up a n)) → a ≤ z → z < a + n → f z ≡ false
unlisted f a zero z h low high = absurd (omega (arith, low, high))
unlisted f a (suc n) z h low high = pick (f a) refl h (λ g other. unlisted f (a + 1) n z g (omega (arith, low, other)) (omega (arith, high)))
  where
    pick : (b : Bool) → f a ≡ b → AllByRecursion (λ m. nat_eq m z ≡ false) (cond b (a ∷ filter f (from_up (a + 1) n)) (filter f (from_up (a + 1) n)))
        → (AllByRecursion (λ m. nat_eq m z ≡ false) (filter f (from_up (a + 1) n)) → a ≢ z → f z ≡ false) → f z ≡ false
    pick true e g more = elim (eqb_tells a z) [
      | inl t ↦ (let no : nat_eq a z ≡ false = g.0 in absurd (both_ways (nat_eq a z) no t.0))
      | inr t ↦ more g.1 t.1
    ]
    pick false e g more = elim (eqb_tells a z) [
      | inl t ↦ ap f (sym t.1) ∙ e
      | inr t ↦ more g t.1
    ]

pub all_planned : PairLaws → (o : Options) (table : Targets) (es : List MidiEvent) (s : Survey) (of : Layout) (channels : List ℕ) (needs : Needs)
    → IsSurveyed o table es s of channels → ArePlannedTo o (allows of) table es 256 needs.numbers.items needs.ports.items
    → AreNeeds o (allows of) table es needs
all_planned laws o table es s of channels needs is to =
    let zs = needs.numbers.items in
    let plans = needs.ports.items in
    let numbers : zs ≡ noted_ports o es = sym (append-nil zs) ∙ to.numbers in
    let fits_at : (z : ℕ) → FitsAt o.route o (allows of) table es z = (λ z. elim (cases_lt z 256) [
      | inl low ↦ to.fits z low
      | inr high ↦ silent_fits laws o (allows of) table es z is.asked is.faultless (high_parts o table es s z is.surveys high)
    ]) in
    record {
      numbers = numbers;
      planned = record {
        ports = record { numbers = to.same ∙ numbers; each = to.each };
        begun = to.begun;
        silent = λ z none. elim (cases_lt z 256) [
          | inl low ↦ unlisted (is_noted o es) 0 256 z (subst (AllByRecursion (λ n. nat_eq n z ≡ false)) (to.same ∙ numbers) (absent plans z none))
              (omega arith) (omega (arith, low))
          | inr high ↦ ap (has_note_on (is_part o)) (none_high o table es s z is.surveys high)
        ];
        fits = fits_on o (allows of) table es fits_at is.few o.route refl;
      };
    }
  where
    fits_on : (o : Options) (allowed : ℕ → Bool) (table : Targets) (es : List MidiEvent) → ((z : ℕ) → FitsAt o.route o allowed table es z)
        → (o.route ≡ ByMpe → (z : ℕ) → HasFewParts o es z) → (r : Route) → o.route ≡ r → FitsOn r o allowed table es
    fits_on o allowed table es fits few ByDump e = tt
    fits_on o allowed table es fits few ByLive e = tt
    fits_on o allowed table es fits few ByBend e = subst (λ r. (z : ℕ) → FitsAt r o allowed table es z) e fits
    fits_on o allowed table es fits few ByMpe e =
        let each = subst (λ r. (z : ℕ) → FitsAt r o allowed table es z) e fits in
        λ z. (few e z, each z)

-- ---- by the parts of a port

none_in : (cs : List ℕ) → length cs ≡ 0 → cs ≡ []
none_in [] h = refl
none_in (c ∷ cs) h = absurd cc

pub no_parts_there : (o : Options) (es : List MidiEvent) (z : ℕ) (cs : List ℕ) → cs ≡ parts_with_notes o (events_on z es) → length cs ≡ 0
    → parts_with_notes o (events_on z es) ≡ []
no_parts_there o es z cs parts none = sym parts ∙ none_in cs none

pub some_parts_there : (o : Options) (es : List MidiEvent) (z : ℕ) (cs : List ℕ) (b : Bool) → cs ≡ parts_with_notes o (events_on z es)
    → b ≡ nat_eq (length cs) 0 → b ≡ false → is_noted o es z ≡ true
some_parts_there o es z [] b parts empty some = absurd (both_ways b some empty)
some_parts_there o es z (c ∷ cs) b parts empty some = with_parts o es z c cs (sym parts)
