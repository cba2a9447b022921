-- Which rows there are: each is as long as is needed, has no channel twice, and serves notes that no other does.
use Rattle.std.proofs.Common.{◌≡◌, ◌≤◌, ◌<◌, ◌+◌, ◌-◌, ◌++◌, ◌⊎◌, ℕ, zero, suc, List, [], ◌∷◌, Bool, true, false, cond, ◌&&◌, ◌||◌, Some, None, length, map, take, filter, get_or, min, nat_eq, nat_lt, refl, sym, ap, ◌∙◌, subst, arith, inl, inr}
use Rattle.std.specs.List.{AllByRecursion}
use Rattle.std.proofs.lemmas.Bool.{eqb-true, eq-eqb, false_from_ne_true, and_parts, and_from, both_ways, cases_eq, cases_lt}
use Rattle.std.proofs.lemmas.List.{length-take-le}
use Rattle.mt_base.specs.Midi.{MidiEvent}
use Rattle.retune_model.specs.Options.{Options, Route, ByDump, ByLive, ByBend, ByMpe, bends_notes, keeps_drums}
use Rattle.retune_model.specs.Ports.{events_on}
use Rattle.retune_model.specs.Faults.{Targets, is_part, is_bend}
use Rattle.retune_model.specs.Places.{nth}
use Rattle.retune_model.specs.SourceFaults.{IsSound, IsFaultless}
use Rattle.retune_model.specs.PortNeed.{IsNeedOf, need_of}
use Rattle.retune_model.specs.NeedLaws.{CountingFindsNeed}
use Rattle.retune_model.specs.Dump.{from_up, has_note_on, parts_with_notes}
use Rattle.channel_model.specs.MpeOutput.{Zone as ZoneOf, member_at, members_from, zone_with, zones_for, lower_allowed, upper_allowed}
use Rattle.channel_model.specs.Refusals.{NeedsAtMost, ZoneFits, ZonesFit, HasFewParts, with_allowed, FitsOn}
use Rattle.channel_model.specs.Rows.{allowed_row, zone_row, only, needs_of, zones_on}
use Rattle.plan_laws.specs.EventLaws.{BegunFollowsEvent}
use Rattle.channel_plan.specs.Passing.{AreAsked, channels_in}
use Rattle.channel_plan.specs.Layouts.{IsLayoutOf, allows}
use Rattle.channel_plan.specs.Masks.{is_allowed}
use Rattle.channel_plan.specs.Told.{port_in}
use Rattle.channel_plan.proofs.Noting.{with_parts}
use Rattle.channel_plan.specs.Planned.{place_among, is_noted, zone_told, zones_told}
use Rattle.channel_plan.specs.Finding.{IsPortPlan, ArePlanned}
use Rattle.channel_plan.specs.Serving.{Head, head, heads, serves, serves_part, some_serves, IsApart, AreApart, IsReady, RowStands, number_on}
use Rattle.channel_plan.specs.Giving.{HasChannels, AreHeads, AreRows}
use Rattle.channel_plan.specs.Heads.{zone_head, heads_by, heads_of, IsFresh}
use Rattle.channel_plan.specs.declared.layout.Layout.{Layout}
use Rattle.channel_plan.specs.declared.layout.Layout.TheVariants.{Own, Bend, Mpe}
use Rattle.channel_plan.specs.declared.plan.Zone.{Zone}
use Rattle.channel_plan.specs.declared.plan.PortPlan.{PortPlan}
use Rattle.channel_plan.specs.declared.rowing.Used.{Used}

module _ {A : Type 0} where
  -- one more at the end
  pub each_and : (P : A → Type 0) (xs : List A) (x : A) → AllByRecursion P xs → P x → AllByRecursion P (xs ++ x ∷ [])
  each_and P [] x all p = (p, tt)
  each_and P (y ∷ ys) x all p = (all.0, each_and P ys x all.1 p)

  each_join : (P : A → Type 0) (xs ys : List A) → AllByRecursion P xs → AllByRecursion P ys → AllByRecursion P (xs ++ ys)
  each_join P [] ys all more = more
  each_join P (x ∷ xs) ys all more = (all.0, each_join P xs ys all.1 more)

  each_by : (P Q : A → Type 0) (xs : List A) → ((x : A) → P x → Q x) → AllByRecursion P xs → AllByRecursion Q xs
  each_by P Q [] f all = tt
  each_by P Q (x ∷ xs) f all = (f x all.0, each_by P Q xs f all.1)

-- what is so of all that a map gives
each_of : {A B : Type 0} (P : B → Type 0) (f : A → B) (xs : List A) → AllByRecursion (λ x. P (f x)) xs → AllByRecursion P (map f xs)
each_of P f [] all = tt
each_of P f (x ∷ xs) all = (all.0, each_of P f xs all.1)

-- ---- numbers that rise

abbrev Rising : ℕ → List ℕ → Type 0
Rising lo [] = Unit {0}
Rising lo (x ∷ xs) = (lo ≤ x) × Rising (suc x) xs

rising_from : (a b : ℕ) (xs : List ℕ) → a ≤ b → Rising b xs → Rising a xs
rising_from a b [] l r = tt
rising_from a b (x ∷ xs) l r = (let m = r.0 in omega (arith, l, m), r.1)

rising_cond : (lo : ℕ) (b : Bool) (xs : List ℕ) → Rising (suc lo) xs → Rising lo (cond b (lo ∷ xs) xs)
rising_cond lo true xs r = (omega (arith), r)
rising_cond lo false xs r = rising_from lo (suc lo) xs (omega (arith)) r

rising_filter : (f : ℕ → Bool) (n lo : ℕ) → Rising lo (filter f (from_up lo n))
rising_filter f zero lo = tt
rising_filter f (suc n) lo = (let e : lo + 1 ≡ suc lo = omega (arith) in
    rising_cond lo (f lo) (filter f (from_up (lo + 1) n)) (subst (λ x. Rising x (filter f (from_up (lo + 1) n))) e (rising_filter f n (lo + 1))))

rising_take : (n lo : ℕ) (xs : List ℕ) → Rising lo xs → Rising lo (take n xs)
rising_take zero lo [] r = tt
rising_take zero lo (x ∷ xs) r = tt
rising_take (suc n) lo [] r = tt
rising_take (suc n) lo (x ∷ xs) r = (r.0, rising_take n (suc x) xs r.1)

rising_at : (lo : ℕ) (xs : List ℕ) (i : ℕ) → Rising lo xs → i < length xs → lo ≤ get_or xs i 0
rising_at lo [] i r l = absurd (omega (arith, l))
rising_at lo (x ∷ xs) zero r l = r.0
rising_at lo (x ∷ xs) (suc i) r l = (let m = rising_at (suc x) xs i r.1 (omega (arith, l)) in let n = r.0 in omega (arith, m, n))

not_equal : (a b : ℕ) → (a ≡ b → ⊥) → nat_eq a b ≡ false
not_equal a b h = false_from_ne_true (nat_eq a b) (λ e. h (eqb-true a b e))

-- so each has its own place
own_rising : (lo : ℕ) (xs : List ℕ) (i : ℕ) → Rising lo xs → i < length xs → place_among xs (get_or xs i 0) ≡ i
own_rising lo [] i r l = absurd (omega (arith, l))
own_rising lo (x ∷ xs) zero r l = ap (λ b. cond b 0 (suc (place_among xs x))) (eq-eqb x x refl)
own_rising lo (x ∷ xs) (suc i) r l =
    let m = rising_at (suc x) xs i r.1 (omega (arith, l)) in
    ap (λ b. cond b 0 (suc (place_among xs (get_or xs i 0)))) (not_equal x (get_or xs i 0) (λ e. omega (arith, m, e)))
    ∙ ap suc (own_rising (suc x) xs i r.1 (omega (arith, l)))

-- ---- the members of a zone

pub length_members : (zone : ZoneOf) (i n : ℕ) → length (members_from zone i n) ≡ n
length_members zone i zero = refl
length_members zone i (suc n) = ap suc (length_members zone (i + 1) n)

other_member : (zone : ZoneOf) (i j : ℕ) → i < j → j ≤ 14 → member_at zone i ≡ member_at zone j → ⊥
other_member zone i j l m e = pick zone.upper e
  where
    pick : (b : Bool) → cond b (14 - i) (1 + i) ≡ cond b (14 - j) (1 + j) → ⊥
    pick true e = omega (arith, l, m, e)
    pick false e = omega (arith, l, m, e)

member_there : (zone : ZoneOf) (i n j : ℕ) → j < n → get_or (members_from zone i n) j 0 ≡ member_at zone (i + j)
member_there zone i zero j l = absurd (omega (arith, l))
member_there zone i (suc n) zero l = (let e : i ≡ i + 0 = omega (arith) in ap (member_at zone) e)
member_there zone i (suc n) (suc j) l = (let e : (i + 1) + j ≡ i + suc j = omega (arith) in member_there zone (i + 1) n j (omega (arith, l))
    ∙ ap (member_at zone) e)

own_member : (zone : ZoneOf) (i n j : ℕ) → j < n → i + n ≤ 15 → place_among (members_from zone i n) (get_or (members_from zone i n) j 0) ≡ j
own_member zone i zero j l m = absurd (omega (arith, l))
own_member zone i (suc n) zero l m = ap (λ b. cond b 0 (suc (place_among (members_from zone (i + 1) n) (member_at zone i)))) (eq-eqb (member_at zone
    i) (member_at zone i) refl)
own_member zone i (suc n) (suc j) l m =
    let there = get_or (members_from zone (i + 1) n) j 0 in
    let k : j < n = omega (arith, l) in
    ap (λ b. cond b 0 (suc (place_among (members_from zone (i + 1) n) there)))
    (not_equal (member_at zone i) there (λ e. other_member zone i ((i + 1) + j) (omega (arith)) (omega (arith, l, m)) (e
    ∙ member_there zone (i + 1) n j k)))
    ∙ ap suc (own_member zone (i + 1) n j k (omega (arith, m)))

-- ---- the channels of some that a filter leaves

abbrev In : ℕ → List ℕ → Type 0
In c [] = ⊥
In c (x ∷ xs) = (c ≡ x) ⊎ In c xs

in_cond : (f : ℕ → Bool) (c lo : ℕ) (b : Bool) (xs : List ℕ) → f lo ≡ b → f c ≡ true → (c ≡ lo) ⊎ In c xs → In c (cond b (lo ∷ xs) xs)
in_cond f c lo true xs e h i = i
in_cond f c lo false xs e h (inl same) = absurd (both_ways false refl (sym e ∙ ap f (sym same) ∙ h))
in_cond f c lo false xs e h (inr i) = i

in_filter : (f : ℕ → Bool) (c n lo : ℕ) → f c ≡ true → lo ≤ c → c < lo + n → In c (filter f (from_up lo n))
in_filter f c zero lo h l m = absurd (omega (arith, l, m))
in_filter f c (suc n) lo h l m = in_cond f c lo (f lo) (filter f (from_up (lo + 1) n)) refl h (elim (cases_eq c lo) [
  | inl same ↦ inl same
  | inr other ↦ inr (in_filter f c n (lo + 1) h (above l other) (omega (arith, m)))
])
  where
    above : lo ≤ c → (c ≡ lo → ⊥) → lo + 1 ≤ c
    above l o = elim (cases_lt lo c) [ inl m ↦ omega (arith, m) | inr m ↦ absurd (o (omega (arith, l, m))) ]

filter_each : (f : ℕ → Bool) (n lo top : ℕ) → lo + n ≤ top → AllByRecursion (λ c. (c < top) × (f c ≡ true)) (filter f (from_up lo n))
filter_each f zero lo top l = tt
filter_each f (suc n) lo top l = each_cond (f lo) refl (filter_each f n (lo + 1) top (omega (arith, l)))
  where
    each_cond : (b : Bool) → f lo ≡ b → AllByRecursion (λ c. (c < top) × (f c ≡ true)) (filter f (from_up (lo + 1) n))
        → AllByRecursion (λ c. (c < top) × (f c ≡ true)) (cond b (lo ∷ filter f (from_up (lo + 1) n)) (filter f (from_up (lo + 1) n)))
    each_cond true e rest = ((omega (arith, l), e), rest)
    each_cond false e rest = rest

-- ---- the zones of a port, by its parts that have a note on

abbrev zones_by : (ℕ → ℕ) → List ℕ → List ZoneOf
zones_by need ps = zones_for (needs_of need ps)

-- of two, in either order
abbrev two_zones : ℕ → ℕ → ℕ → ℕ → List ZoneOf
two_zones a m b n = zone_with false (a, m) ∷ zone_with true (b, n) ∷ []

zones_are : (P : List ZoneOf → Type 0) (need : ℕ → ℕ) (ps : List ℕ) → length ps ≤ 2 → (ps ≡ [] → P [])
    → ((a : ℕ) → ps ≡ a ∷ [] → P (zone_with false (a, need a) ∷ []))
    → ((a b : ℕ) → ps ≡ a ∷ b ∷ [] → P (two_zones a (need a) b (need b)) × P (two_zones b (need b) a (need a))) → P (zones_by need ps)
zones_are P need [] few none one two = none refl
zones_are P need (a ∷ []) few none one two = one a refl
zones_are P need (a ∷ b ∷ []) few none one two = pick (nat_lt (need a) (need b))
  where
    pick : (t : Bool) → P (cond t (two_zones b (need b) a (need a)) (two_zones a (need a) b (need b)))
    pick true = (two a b refl).1
    pick false = (two a b refl).0
zones_are P need (a ∷ b ∷ c ∷ ps) few none one two = absurd (omega (arith, few))

and_none : (b : Bool) → b && false ≡ false
and_none true = refl
and_none false = refl

-- heads of different parts of a port, or of different ports
parts_apart : (g h : Head) (a b : ℕ) → g.part ≡ Some a → h.part ≡ Some b → (a ≡ b → ⊥) → IsApart g h
parts_apart g h a b ga hb other y c s =
    let t : nat_eq a c ≡ true = ap (λ x. serves_part x c) (sym ga) ∙ (and_parts (nat_eq g.port y) (serves_part g.part c) s).1 in
    let e : nat_eq b c ≡ false = not_equal b c (λ k. other (eqb-true a c t ∙ sym k)) in
    ap (λ x. nat_eq h.port y && serves_part x c) hb ∙ ap (λ x. nat_eq h.port y && x) e ∙ and_none (nat_eq h.port y)

ports_apart : (g h : Head) → g.port < h.port → IsApart g h
ports_apart g h l y c s =
    let e = eqb-true g.port y (and_parts (nat_eq g.port y) (serves_part g.part c) s).0 in
    ap (λ x. x && serves_part h.part c) (not_equal h.port y (λ k. omega (arith, l, e, k)))

serves_own : (h : Head) (z c : ℕ) → h.port ≡ z → serves_part h.part c ≡ true → serves h z c ≡ true
serves_own h z c port part = and_from (nat_eq h.port z) (serves_part h.part c) (eq-eqb h.port z port) part

or_true : (a : Bool) → a || true ≡ true
or_true true = refl
or_true false = refl

lower_few : (drums : Bool) (zones : List ZoneOf) → lower_allowed drums zones ≤ 15
lower_few true zones = omega (arith)
lower_few false [] = omega (arith)
lower_few false (l ∷ []) = omega (arith)
lower_few false (l ∷ u ∷ zones) = omega (arith)

upper_few : (drums : Bool) → upper_allowed drums ≤ 15
upper_few true = omega (arith)
upper_few false = omega (arith)

-- a zone of a port, as it is asked of its row
pub record IsZoneOn (o : Options) (table : Targets) (es : List MidiEvent) (z : ℕ) (zone : ZoneOf) : Type 0 where
  pub low : zone.part < 16
  pub part : is_part o zone.part ≡ true
  pub noted : has_note_on (λ d. nat_eq d zone.part) (events_on z es) ≡ true
  pub need : zone.members ≡ (need_of o (only zone.part) table es z).0
  pub few : zone.members ≤ 15

module _ (o : Options) (table : Targets) (es : List MidiEvent) (z : ℕ) where
  abbrev is_on : ℕ → Bool
  is_on c = is_part o c && has_note_on (λ d. nat_eq d c) (events_on z es)

  abbrev parts : List ℕ
  parts = parts_with_notes o (events_on z es)

  abbrev need_by : ℕ → ℕ
  need_by c = (need_of o (only c) table es z).0

  abbrev heads_on : List ZoneOf → List Head
  heads_on zones = map (zone_head z) (map (zone_told o table es z) zones)

  pub parts_are : AllByRecursion (λ c. (c < 16) × (is_on c ≡ true)) parts
  parts_are = filter_each is_on 16 0 16 (omega (arith))

  parts_rise : Rising 0 parts
  parts_rise = rising_filter is_on 16 0

  two_parts : (a b : ℕ) → parts ≡ a ∷ b ∷ [] → a ≡ b → ⊥
  two_parts a b e same = (let r : Rising 0 (a ∷ b ∷ []) = subst (Rising 0) e parts_rise in let l = r.1.0 in omega (arith, l, same))

  abbrev IsPartOn : ℕ → Type 0
  IsPartOn c = (c < 16) × (is_on c ≡ true)

  part_of_one : (a : ℕ) → parts ≡ a ∷ [] → IsPartOn a
  part_of_one a e = (let all : AllByRecursion IsPartOn (a ∷ []) = subst (AllByRecursion IsPartOn) e parts_are in all.0)

  part_of_two : (a b : ℕ) → parts ≡ a ∷ b ∷ [] → IsPartOn a × IsPartOn b
  part_of_two a b e = (let all : AllByRecursion IsPartOn (a ∷ b ∷ []) = subst (AllByRecursion IsPartOn) e parts_are in (all.0, all.1.0))

  -- what is so of all zones of a port with few parts
  zones_told_as : (P : List ZoneOf → Type 0) → HasFewParts o es z → (parts ≡ [] → P [])
      → ((a : ℕ) → parts ≡ a ∷ [] → P (zone_with false (a, need_by a) ∷ []))
      → ((a b : ℕ) → parts ≡ a ∷ b ∷ [] → P (two_zones a (need_by a) b (need_by b)) × P (two_zones b (need_by b) a (need_by a)))
      → P (zones_on o table es z)
  zones_told_as P few none one two = zones_are P need_by parts few none one two

  fits_few : CountingFindsNeed → (a room : ℕ) → NeedsAtMost o (only a) table es z room → room ≤ 15 → need_by a ≤ 15
  fits_few counted a room fits small = (let l = fits (need_of o (only a) table es z).0 (need_of o (only a) table es z).1 (counted o (only a) table es
      z) in omega (arith, l, small))

  pub zones_fit : CountingFindsNeed → HasFewParts o es z → ZonesFit o table es z → AllByRecursion (IsZoneOn o table es z) (zones_on o table es z)
  zones_fit counted few fit = zones_told_as (λ zones. AllByRecursion (ZoneFits o table es z) (with_allowed drums zones)
      → AllByRecursion (IsZoneOn o table es z) zones) few
      (λ e f. tt) (λ a e f. (
        on a false (part_of_one a e) (fits_few counted a (lower_allowed drums (zone_with false (a, need_by a) ∷ [])) f.0
            (lower_few drums (zone_with false (a, need_by a) ∷ []))),
        tt,
      ))
      (λ a b e. (
        (λ f. both a b (part_of_two a b e).0 (part_of_two a b e).1 f),
        (λ f. both b a (part_of_two a b e).1 (part_of_two a b e).0 f),
      )) fit
    where
      drums : Bool
      drums = keeps_drums o (events_on z es)

      on : (a : ℕ) (upper : Bool) → IsPartOn a → need_by a ≤ 15 → IsZoneOn o table es z (zone_with upper (a, need_by a))
      on a upper is few = (let both = and_parts (is_part o a) (has_note_on (λ d. nat_eq d a) (events_on z es)) is.1 in
          record { low = is.0; part = both.0; noted = both.1; need = refl; few = few })

      both : (a b : ℕ) → IsPartOn a → IsPartOn b → AllByRecursion (ZoneFits o table es z) (with_allowed drums (two_zones a (need_by a) b (need_by b)))
          → AllByRecursion (IsZoneOn o table es z) (two_zones a (need_by a) b (need_by b))
      both a b pa pb f = (
        on a false pa (fits_few counted a (lower_allowed drums (two_zones a (need_by a) b (need_by b))) f.0 (lower_few drums (two_zones a (need_by a)
            b (need_by b)))),
        (on b true pb (fits_few counted b (upper_allowed drums) f.1.0 (upper_few drums)), tt),
      )

  zones_apart : HasFewParts o es z → AreApart (heads_on (zones_on o table es z))
  zones_apart few = zones_told_as (λ zones. AreApart (heads_on zones)) few (λ e. tt) (λ a e. (tt, tt)) (λ a b e. (
    ((parts_apart (head_with false a) (head_with true b) a b refl refl (two_parts a b e), tt), (tt, tt)),
    ((parts_apart (head_with false b) (head_with true a) b a refl refl (λ s. two_parts a b e (sym s)), tt), (tt, tt)),
  ))
    where
      head_with : Bool → ℕ → Head
      head_with upper a = zone_head z (zone_told o table es z (zone_with upper (a, need_by a)))

  zones_serve : (c : ℕ) → HasFewParts o es z → In c parts → some_serves (heads_on (zones_on o table es z)) z c ≡ true
  zones_serve c few there = zones_told_as (λ zones. some_serves (heads_on zones) z c ≡ true) few
      (λ e. absurd (subst (In c) e there))
      (λ a e. one a (subst (In c) e there))
      (λ a b e. (two a b (subst (In c) e there), two b a (swap a b (subst (In c) e there))))
    where
      own : (a : ℕ) → c ≡ a → nat_eq z z && nat_eq a c ≡ true
      own a e = and_from (nat_eq z z) (nat_eq a c) (eq-eqb z z refl) (eq-eqb a c (sym e))

      one : (a : ℕ) → In c (a ∷ []) → (nat_eq z z && nat_eq a c) || false ≡ true
      one a (inl e) = ap (λ x. x || false) (own a e)
      one a (inr i) = absurd i

      two : (a b : ℕ) → In c (a ∷ b ∷ []) → (nat_eq z z && nat_eq a c) || ((nat_eq z z && nat_eq b c) || false) ≡ true
      two a b (inl e) = ap (λ x. x || ((nat_eq z z && nat_eq b c) || false)) (own a e)
      two a b (inr i) = ap (λ x. (nat_eq z z && nat_eq a c) || x) (one b i) ∙ or_true (nat_eq z z && nat_eq a c)

      swap : (a b : ℕ) → In c (a ∷ b ∷ []) → In c (b ∷ a ∷ [])
      swap a b (inl e) = inr (inl e)
      swap a b (inr (inl e)) = inl e
      swap a b (inr (inr i)) = absurd i

  -- one zone a part
  abbrev IsOnly : List ZoneOf → ZoneOf → Type 0
  IsOnly zones x = (i : ℕ) (y : ZoneOf) → nth i zones ≡ Some y → x.part ≡ y.part → x ≡ y

  zones_once : HasFewParts o es z → AllByRecursion (IsOnly (zones_on o table es z)) (zones_on o table es z)
  zones_once few = zones_told_as (λ zones. AllByRecursion (IsOnly zones) zones) few (λ e. tt) (λ a e. (one (zone_with false (a, need_by a)), tt))
      (λ a b e. (
        (first a b (two_parts a b e), (second a b (two_parts a b e), tt)),
        (first b a (λ s. two_parts a b e (sym s)), (second b a (λ s. two_parts a b e (sym s)), tt)),
      ))
    where
      here : (x y : ZoneOf) → Some x ≡ Some y → x ≡ y
      here x y e = cc

      one : (x : ZoneOf) → IsOnly (x ∷ []) x
      one x zero y e p = here x y e
      one x (suc i) y e p = absurd cc

      first : (a b : ℕ) → (a ≡ b → ⊥) → IsOnly (two_zones a (need_by a) b (need_by b)) (zone_with false (a, need_by a))
      first a b other zero y e p = here (zone_with false (a, need_by a)) y e
      first a b other (suc zero) y e p = absurd (other (p ∙ sym (ap (λ x. x.part) (here (zone_with true (b, need_by b)) y e))))
      first a b other (suc (suc i)) y e p = absurd cc

      second : (a b : ℕ) → (a ≡ b → ⊥) → IsOnly (two_zones a (need_by a) b (need_by b)) (zone_with true (b, need_by b))
      second a b other zero y e p = absurd (other (ap (λ x. x.part) (here (zone_with false (a, need_by a)) y e) ∙ sym p))
      second a b other (suc zero) y e p = here (zone_with true (b, need_by b)) y e
      second a b other (suc (suc i)) y e p = absurd cc

-- ---- the rows of a port

abbrev IsReadyHead : Options → Targets → List MidiEvent → Head → Type 0
IsReadyHead o table es h = IsReady o table es h (length h.channels)

record PortHeads (o : Options) (allowed : ℕ → Bool) (table : Targets) (es : List MidiEvent) (z : ℕ) (hs : List Head) : Type 0 where
  ready : AllByRecursion (IsReadyHead o table es) hs
  channels : AllByRecursion (HasChannels o.route o allowed table es) hs
  own : AllByRecursion (λ h. h.port ≡ z) hs
  apart : AreApart hs
  serves : bends_notes o.route ≡ true → (c : ℕ) → c < 16 → is_part o c ≡ true → has_note_on (λ d. nat_eq d c) (events_on z es) ≡ true
      → some_serves hs z c ≡ true

own_heads : (o : Options) (allowed : ℕ → Bool) (table : Targets) (es : List MidiEvent) (z : ℕ) → bends_notes o.route ≡ false
    → PortHeads o allowed table es z []
own_heads o allowed table es z none = record {
  ready = tt;
  channels = tt;
  own = tt;
  apart = tt;
  serves = λ bends c l part on. absurd (both_ways false refl (sym none ∙ bends));
}

bend_heads : CountingFindsNeed → (o : Options) (allowed : ℕ → Bool) (table : Targets) (es : List MidiEvent) (z : ℕ) (p : PortPlan)
    → IsSound o table es
    → o.route ≡ ByBend → IsPortPlan o allowed table es z p → FitsOn ByBend o allowed table es
    → PortHeads o allowed table es z (record { port = z; part = None; channels = p.used.items } ∷ [])
bend_heads counted o allowed table es z p sound route is fits = record {
  ready = (
    record {
      of = record { sound = sound; parts = λ c e. e; all = λ e. refl };
      long = refl;
      instant = (need_of o (is_part o) table es z).1;
      need = subst (λ n. IsNeedOf o (is_part o) table es z n (need_of o (is_part o) table es z).1) (sym long) (counted o (is_part o) table es z);
      own = λ i l. own_rising 0 p.used.items i (subst (Rising 0) (sym used) (rising_take need 0 row (rising_filter (λ c. allowed c && is_part o c) 16
          0))) l;
    },
    tt,
  );
  channels = (subst (λ r. HasChannels r o allowed table es (record { port = z; part = None; channels = p.used.items })) (sym route) (refl, used), tt);
  own = (refl, tt);
  apart = (tt, tt);
  serves = λ bends c l part on. ap (λ b. (b && true) || false) (eq-eqb z z refl);
}
  where
    need : ℕ
    need = (need_of o (is_part o) table es z).0

    row : List ℕ
    row = allowed_row o allowed

    used : p.used.items ≡ take need row
    used = is.used route

    long : length p.used.items ≡ need
    long = ap length used ∙ length-take-le need row (fits z need (need_of o (is_part o) table es z).1 (counted o (is_part o) table es z))

each_both : {A : Type 0} (P Q : A → Type 0) (xs : List A) → AllByRecursion P xs → AllByRecursion Q xs → AllByRecursion (λ x. P x × Q x) xs
each_both P Q [] p q = tt
each_both P Q (x ∷ xs) p q = ((p.0, q.0), each_both P Q xs p.1 q.1)

each_true : {A : Type 0} (P : A → Type 0) (xs : List A) → ((x : A) → P x) → AllByRecursion P xs
each_true P [] f = tt
each_true P (x ∷ xs) f = (f x, each_true P xs f)

mpe_heads : CountingFindsNeed → (o : Options) (allowed : ℕ → Bool) (table : Targets) (es : List MidiEvent) (z : ℕ) → IsSound o table es
    → o.route ≡ ByMpe → FitsOn ByMpe o allowed table es → PortHeads o allowed table es z (heads_on o table es z (zones_on o table es z))
mpe_heads counted o allowed table es z sound route fits = record {
  ready = each_of (IsReadyHead o table es) (zone_head z) (map told zones) (each_of (λ x. IsReadyHead o table es (zone_head z x)) told zones
      (each_by (IsZoneOn o table es z) (λ x. IsReadyHead o table es (zone_head z (told x))) zones ready are));
  channels = each_of Channels (zone_head z) (map told zones) (each_of (λ x. Channels (zone_head z x)) told zones
      (each_by (λ x. IsZoneOn o table es z x × IsOnly o table es z zones x) (λ x. Channels (zone_head z (told x))) zones channels
      (each_both (IsZoneOn o table es z) (IsOnly o table es z zones) zones are (zones_once o table es z few))));
  own = each_of (λ h. h.port ≡ z) (zone_head z) (map told zones) (each_true (λ x. (zone_head z x).port ≡ z) (map told zones) (λ x. refl));
  apart = zones_apart o table es z few;
  serves = λ bends c l part on. zones_serve o table es z c few (in_filter (is_on o table es z) c 16 0 (and_from (is_part o c) (has_note_on (λ d.
      nat_eq d c) (events_on z es)) part on)
      (omega (arith)) (omega (arith, l)));
}
  where
    zones : List ZoneOf
    zones = zones_on o table es z

    told : ZoneOf → Zone
    told = zone_told o table es z

    few : HasFewParts o es z
    few = (fits z).0

    are : AllByRecursion (IsZoneOn o table es z) zones
    are = zones_fit o table es z counted few (fits z).1

    Channels : Head → Type 0
    Channels = HasChannels o.route o allowed table es

    whole : (x : ZoneOf) → x.members ≤ 15 → min x.members 15 ≡ x.members
    whole x l = omega (arith, l)

    long : (x : ZoneOf) → IsZoneOn o table es z x → length (zone_head z (told x)).channels ≡ (need_of o (only x.part) table es z).0
    long x is = length_members x 0 (min x.members 15) ∙ whole x is.few ∙ is.need

    ready : (x : ZoneOf) → IsZoneOn o table es z x → IsReadyHead o table es (zone_head z (told x))
    ready x is = record {
      of = record {
        sound = sound;
        parts = λ c e. subst (λ d. is_part o d ≡ true) (sym (eqb-true c x.part e)) is.part;
        all = λ e. absurd (both_ways false refl (ap is_bend (sym route) ∙ e));
      };
      long = refl;
      instant = (need_of o (only x.part) table es z).1;
      need = subst (λ n. IsNeedOf o (only x.part) table es z n (need_of o (only x.part) table es z).1) (sym (long x is)) (counted o (only x.part)
          table es z);
      own = λ i l. own_member x 0 (min x.members 15) i (let m = length_members x 0 (min x.members 15) in omega (arith, l, m)) (omega (arith));
    }

    channels : (x : ZoneOf) → IsZoneOn o table es z x × IsOnly o table es z zones x → Channels (zone_head z (told x))
    channels x is = subst (λ r. HasChannels r o allowed table es (zone_head z (told x))) (sym route) (
      refl,
      λ y i there same. ap (members_from x 0) (whole x is.0.few) ∙ ap zone_row (is.1 i y there (let part : x.part ≡ y.part = cc in part)),
    )

-- ---- the rows of all ports

heads_apart : (gs hs : List Head) → AreApart gs → AreApart hs → AllByRecursion (λ g. AllByRecursion (IsApart g) hs) gs → AreApart (gs ++ hs)
heads_apart [] hs a b all = b
heads_apart (g ∷ gs) hs a b all = (each_join (IsApart g) gs hs a.0 all.0, heads_apart gs hs a.1 b all.1)

serves_left : (gs hs : List Head) (z c : ℕ) → some_serves gs z c ≡ true → some_serves (gs ++ hs) z c ≡ true
serves_left [] hs z c s = absurd (both_ways false refl s)
serves_left (g ∷ gs) hs z c s = pick (serves g z c) s (λ t. serves_left gs hs z c t)
  where
    pick : (b : Bool) → b || some_serves gs z c ≡ true → (some_serves gs z c ≡ true → some_serves (gs ++ hs) z c ≡ true)
        → b || some_serves (gs ++ hs) z c ≡ true
    pick true s more = refl
    pick false s more = more s

serves_right : (gs hs : List Head) (z c : ℕ) → some_serves hs z c ≡ true → some_serves (gs ++ hs) z c ≡ true
serves_right [] hs z c s = s
serves_right (g ∷ gs) hs z c s = ap (λ x. serves g z c || x) (serves_right gs hs z c s) ∙ or_true (serves g z c)

module _ (o : Options) (allowed : ℕ → Bool) (table : Targets) (es : List MidiEvent) (layout : Layout) where
  -- of each port that is planned for
  abbrev Each : List PortPlan → Type 0
  Each ps = AllByRecursion (λ (p : PortPlan). PortHeads o allowed table es p.number (heads_by layout p)) ps

  all_of : (P : Head → Type 0) (ps : List PortPlan) → AllByRecursion (λ (p : PortPlan). AllByRecursion P (heads_by layout p)) ps
      → AllByRecursion P (heads_of layout ps)
  all_of P [] all = tt
  all_of P (p ∷ ps) all = each_join P (heads_by layout p) (heads_of layout ps) all.0 (all_of P ps all.1)

  all_later : (lo : ℕ) (ps : List PortPlan) → Rising lo (map (λ p. p.number) ps) → Each ps → AllByRecursion (λ h. lo ≤ h.port) (heads_of layout ps)
  all_later lo [] r each = tt
  all_later lo (p ∷ ps) r each = each_join (λ h. lo ≤ h.port) (heads_by layout p) (heads_of layout ps)
      (each_by (λ h. h.port ≡ p.number) (λ h. lo ≤ h.port) (heads_by layout p) (λ h e. (let l = r.0 in omega (arith, l, e))) each.0.own)
      (each_by (λ h. suc p.number ≤ h.port) (λ h. lo ≤ h.port) (heads_of layout ps) (λ h m. (let l = r.0 in omega (arith, l, m))) (all_later (suc
      p.number) ps r.1 each.1))

  all_apart : (lo : ℕ) (ps : List PortPlan) → Rising lo (map (λ p. p.number) ps) → Each ps → AreApart (heads_of layout ps)
  all_apart lo [] r each = tt
  all_apart lo (p ∷ ps) r each = heads_apart (heads_by layout p) (heads_of layout ps) each.0.apart (all_apart (suc p.number) ps r.1 each.1)
      (each_by (λ g. g.port ≡ p.number) (λ g. AllByRecursion (IsApart g) (heads_of layout ps)) (heads_by layout p)
      (λ g e. each_by (λ h. suc p.number ≤ h.port) (IsApart g) (heads_of layout ps) (λ h m. ports_apart g h (omega (arith, e, m))) later) each.0.own)
    where
      later : AllByRecursion (λ h. suc p.number ≤ h.port) (heads_of layout ps)
      later = all_later (suc p.number) ps r.1 each.1

  all_served : (ps : List PortPlan) (z c : ℕ) → (port_in ps z ≡ None → ⊥) → Each ps → bends_notes o.route ≡ true → c < 16 → is_part o c ≡ true
      → has_note_on (λ d. nat_eq d c) (events_on z es) ≡ true → some_serves (heads_of layout ps) z c ≡ true
  all_served [] z c there each bends l part on = absurd (there refl)
  all_served (p ∷ ps) z c there each bends l part on = pick (nat_eq p.number z) refl there (λ t. all_served ps z c t each.1 bends l part on)
    where
      pick : (b : Bool) → nat_eq p.number z ≡ b → (cond b (Some p) (port_in ps z) ≡ None → ⊥) → ((port_in ps z ≡ None → ⊥)
          → some_serves (heads_of layout ps) z c ≡ true)
          → some_serves (heads_by layout p ++ heads_of layout ps) z c ≡ true
      pick true e t more = serves_left (heads_by layout p) (heads_of layout ps) z c (subst (λ y. some_serves (heads_by layout p) y c ≡ true)
          (eqb-true p.number z e)
          (each.0.serves bends c l part (subst (λ y. has_note_on (λ d. nat_eq d c) (events_on y es) ≡ true) (sym (eqb-true p.number z e)) on)))
      pick false e t more = serves_right (heads_by layout p) (heads_of layout ps) z c (more t)

-- a port of which a part has a note on is planned for
planned_there : (o : Options) (allowed : ℕ → Bool) (table : Targets) (es : List MidiEvent) (ps : List PortPlan) (z c : ℕ)
    → ArePlanned o allowed table es ps
    → c < 16 → is_part o c ≡ true → has_note_on (λ d. nat_eq d c) (events_on z es) ≡ true → port_in ps z ≡ None → ⊥
planned_there o allowed table es ps z c planned l part on none = pick (parts_with_notes o (events_on z es)) refl
    (in_filter (is_on o table es z) c 16 0 (and_from (is_part o c) (has_note_on (λ d. nat_eq d c) (events_on z es)) part on) (omega (arith)) (omega
    (arith, l)))
  where
    pick : (cs : List ℕ) → parts_with_notes o (events_on z es) ≡ cs → In c cs → ⊥
    pick [] e i = i
    pick (d ∷ ds) e i = both_ways false refl (sym (planned.silent z none) ∙ with_parts o es z d ds e)

-- what is planned gives the rows of each port
port_heads : CountingFindsNeed → (o : Options) (table : Targets) (es : List MidiEvent) (layout : Layout) (p : PortPlan) → IsLayoutOf o.route layout
    → AreAsked es → IsFaultless o table es → FitsOn o.route o (allows layout) table es → IsPortPlan o (allows layout) table es p.number p
    → PortHeads o (allows layout) table es p.number (heads_by layout p)
port_heads counted o table es layout p is asked faultless fits plan = pick o.route layout refl is fits plan
  where
    sound : bends_notes o.route ≡ true → IsSound o table es
    sound bends = record { bends = bends; in_order = asked.order; faultless = faultless }

    pick : (r : Route) (by : Layout) → o.route ≡ r → IsLayoutOf r by → FitsOn r o (allows by) table es → IsPortPlan o (allows by) table es p.number p
        → PortHeads o (allows by) table es p.number (heads_by by p)
    pick ByDump Own e is fits plan = own_heads o (allows Own) table es p.number (ap bends_notes e)
    pick ByLive Own e is fits plan = own_heads o (allows Own) table es p.number (ap bends_notes e)
    pick ByBend (Bend a) e is fits plan = bend_heads counted o (is_allowed a) table es p.number p (sound (ap bends_notes e)) e plan fits
    pick ByMpe Mpe e is fits plan =
        subst (PortHeads o (allows Mpe) table es p.number) (sym (ap (map (zone_head p.number)) (plan.zones
        ∙ ap (λ r. map (zone_told o table es p.number) (zones_told r o table es p.number)) e)))
        (mpe_heads counted o (allows Mpe) table es p.number (sound (ap bends_notes e)) e fits)
    pick ByDump (Bend a) e is fits plan = absurd is
    pick ByDump Mpe e is fits plan = absurd is
    pick ByLive (Bend a) e is fits plan = absurd is
    pick ByLive Mpe e is fits plan = absurd is
    pick ByBend Own e is fits plan = absurd is
    pick ByBend Mpe e is fits plan = absurd is
    pick ByMpe Own e is fits plan = absurd is
    pick ByMpe (Bend a) e is fits plan = absurd is

-- a row that is ready stands before any event
first_stands : BegunFollowsEvent → (o : Options) (table : Targets) (es : List MidiEvent) (u : Used) → IsReadyHead o table es (head u) → IsFresh u
    → RowStands o table es [] 0 u
first_stands follows o table es u ready fresh = record {
  ready = record { of = ready.of; long = fresh.long; instant = ready.instant; need = ready.need; own = ready.own };
  given = λ row agrees j p l begun. (let e = (follows o (channels_in o u.part) table es u.port j p begun).is in absurd (omega (arith, l, e)));
  stands = λ row agrees. fresh.first o table es row (number_on o table es u.port) ready.of;
}

each_stands : BegunFollowsEvent → (o : Options) (table : Targets) (es : List MidiEvent) (rows : List Used)
    → AllByRecursion (IsReadyHead o table es) (heads rows)
    → AllByRecursion IsFresh rows → AllByRecursion (RowStands o table es [] 0) rows
each_stands follows o table es [] ready fresh = tt
each_stands follows o table es (u ∷ rows) ready fresh = (
  first_stands follows o table es u ready.0 fresh.0,
  each_stands follows o table es rows
      ready.1 fresh.1,
)

pub are_rows : CountingFindsNeed → BegunFollowsEvent → (o : Options) (table : Targets) (es : List MidiEvent) (layout : Layout) (ps : List PortPlan)
    (rows : List Used)
    → IsLayoutOf o.route layout → AreAsked es → IsFaultless o table es → ArePlanned o (allows layout) table es ps → heads rows ≡ heads_of layout ps
    → AllByRecursion IsFresh rows → AreRows o (allows layout) table es rows
are_rows counted follows o table es layout ps rows is asked faultless planned same fresh = record {
  heads = subst (AreHeads o (allows layout) table es) (sym same) (record {
    apart = all_apart o (allows layout) table es layout 0 ps numbers each;
    served = λ bends z c l part on. all_served o (allows layout) table es layout ps z c (planned_there o (allows layout) table es ps z c planned l
        part on) each bends l part on;
    channels = all_of o (allows layout) table es layout Channels ps (each_by Heads (λ (p : PortPlan). AllByRecursion Channels (heads_by layout p)) ps
        (λ p h. h.channels) each);
  });
  stand = each_stands follows o table es rows (subst (AllByRecursion (IsReadyHead o table es)) (sym same) (all_of o (allows layout) table es layout
      (IsReadyHead o table es) ps
      (each_by Heads (λ (p : PortPlan). AllByRecursion (IsReadyHead o table es) (heads_by layout p)) ps (λ p h. h.ready) each))) fresh;
}
  where
    Heads : PortPlan → Type 0
    Heads p = PortHeads o (allows layout) table es p.number (heads_by layout p)

    Channels : Head → Type 0
    Channels = HasChannels o.route o (allows layout) table es

    each : AllByRecursion Heads ps
    each = each_by (λ (p : PortPlan). IsPortPlan o (allows layout) table es p.number p) Heads ps
        (λ p plan. port_heads counted o table es layout p is asked faultless planned.fits plan) planned.ports.each

    numbers : Rising 0 (map (λ p. p.number) ps)
    numbers = subst (Rising 0) (sym planned.ports.numbers) (rising_filter (is_noted o es) 256 0)
