-- Allowed zones are as asked: their setup sets them up, and the places of their rows are their members.
use Rattle.std.proofs.Common.{◌≡◌, ◌≢◌, ◌<◌, ◌≤◌, ◌+◌, ◌-◌, ◌&&◌, arith, ℕ, zero, suc, Bool, true, false, cond, List, [], ◌∷◌, Option, Some, None, refl, ap, sym, ◌∙◌, subst, nat_eq, nat_le, nat_lt, get_or, length, inl, inr}
use Rattle.std.proofs.lemmas.Bool.{cases_Bool, eqb-true, eq-eqb, ne_eqb, and_from, and_right, le-leb, lt-leb}
use Rattle.std.specs.List.{AllByRecursion}
use Rattle.midi_model.specs.Zones.{Zones, no_zones, master, governor}
use Rattle.retune_model.specs.Options.{ByMpe, Options}
use Rattle.retune_model.specs.Faults.{is_part}
use Rattle.channel_model.specs.MpeOutput.{Zone, zone_with, master_of, member_at, members_from, zone_of, lower_allowed, upper_allowed}
use Rattle.bend_laws.proofs.Equal.{own_governor}
use Rattle.mpe_laws.specs.Zoned.{planned, AreZones, SetsUp}
use Rattle.mpe_laws.specs.Sources.{IsZone, AreAllowed}
use Rattle.mpe_laws.proofs.Standing.{Laws}
use Rattle.mpe_laws.proofs.Single.{one_sets_up, one_are_zones}
use Rattle.mpe_laws.proofs.Double.{two_sets_up, two_are_zones}

-- the members of a zone are channels of their own, which its master governs
pub record AreMembers (all : List Zone) (w : Zone) : Type 0 where
  pub is : (i : ℕ) → i < w.members → master (planned all) (member_at w i) ≡ Some (master_of w)
  pub low : (i : ℕ) → i < w.members → member_at w i < 16
  pub apart : (i j : ℕ) → i < w.members → j < w.members → member_at w i ≡ member_at w j → i ≡ j

pub record Asked (o : Options) (zones : List Zone) : Type 0 where
  pub row : AreZones o zones
  pub sets : SetsUp o zones
  pub members : (c : ℕ) (w : Zone) → zone_of c zones ≡ Some w → AreMembers zones w
  pub two : length zones ≤ 2
  pub few : AllByRecursion (λ z. z.members ≤ 15) zones
  pub each : AllByRecursion (λ z. zone_of z.part zones ≡ Some z) zones

-- a zone is found by its part
pub its_part : (c : ℕ) (zones : List Zone) (w : Zone) → zone_of c zones ≡ Some w → w.part ≡ c
its_part c [] w h = absurd cc
its_part c (z ∷ zs) w h = pick (its_part c zs w) (nat_eq z.part c) refl h
  where
    pick : (zone_of c zs ≡ Some w → w.part ≡ c) → (b : Bool) → nat_eq z.part c ≡ b → cond b (Some z) (zone_of c zs) ≡ Some w → w.part ≡ c
    pick later true e g = (let s : z ≡ w = cc in ap (λ (x : Zone). x.part) (sym s) ∙ eqb-true z.part c e)
    pick later false e g = later g

-- and is among them
each_of : (P : Zone → Type 0) (c : ℕ) (z : Zone) (zs : List Zone) → P z → ((w : Zone) → zone_of c zs ≡ Some w → P w) → (w : Zone) →
    zone_of c (z ∷ zs) ≡ Some w → P w
each_of P c z zs here later w h = pick (nat_eq z.part c) h
  where
    pick : (b : Bool) → cond b (Some z) (zone_of c zs) ≡ Some w → P w
    pick true g = (let s : z ≡ w = cc in subst P s here)
    pick false g = later w g

none_of : (P : Zone → Type 0) (c : ℕ) (w : Zone) → zone_of c [] ≡ Some w → P w
none_of P c w h = absurd cc

-- each is found by its part
first_found : (z : Zone) (zs : List Zone) → zone_of z.part (z ∷ zs) ≡ Some z
first_found z zs = ap (λ b. cond b (Some z) (zone_of z.part zs)) (eq-eqb z.part z.part refl)

second_found : (c d : ℕ) (z w : Zone) → c ≢ d → z.part ≡ c → zone_of d (w ∷ []) ≡ Some w → zone_of d (z ∷ w ∷ []) ≡ Some w
second_found c d z w differ is found = ap (λ b. cond b (Some z) (zone_of d (w ∷ []))) (ne_eqb z.part d (λ e. differ (sym is ∙ e))) ∙ found

-- ---- masters

lower_master : (z : Zones) (d : ℕ) → 1 ≤ d → d ≤ z.lower → master z d ≡ Some 0
lower_master z d h g = ap (λ b. cond b (Some 0) (cond (nat_le (15 - z.upper) d && nat_lt d 15) (Some 15) None))
    (and_from (nat_le 1 d) (nat_le d z.lower) (le-leb 1 d h) (le-leb d z.lower g))

upper_master : (z : Zones) (d : ℕ) → z.lower < d → 15 - z.upper ≤ d → d < 15 → master z d ≡ Some 15
upper_master z d h g l =
    ap (λ b. cond b (Some 0) (cond (nat_le (15 - z.upper) d && nat_lt d 15) (Some 15) None))
    (and_right (nat_le 1 d) (nat_le d z.lower) (lt-leb d z.lower h))
    ∙ ap (λ b. cond b (Some 15) None) (and_from (nat_le (15 - z.upper) d) (nat_lt d 15) (le-leb (15 - z.upper) d g)
    (let e : nat_lt d 15 ≡ true = grind arith in e))

no_master : (d : ℕ) → master no_zones d ≡ None
no_master d = pick (nat_le 1 d && nat_le d 0) refl (nat_le 15 d && nat_lt d 15) refl
  where
    pick : (b : Bool) → (nat_le 1 d && nat_le d 0) ≡ b → (u : Bool) → (nat_le 15 d && nat_lt d 15) ≡ u → master no_zones d ≡ None
    pick true e u f = absurd (grind arith)
    pick false e true f = absurd (grind arith)
    pick false e false f =
        ap (λ b. cond {A = Option ℕ} b (Some 0) (cond {A = Option ℕ} (nat_le 15 d && nat_lt d 15) (Some 15) None)) e
        ∙ ap (λ b. cond {A = Option ℕ} b (Some 15) None) f

-- ---- no zone

none_asked : (o : Options) → o.route ≡ ByMpe → Asked o []
none_asked o route = record {
  row = record {
    route = route;
    low = λ c z h. absurd cc;
    retuned_part = λ c z h. absurd cc;
    own = λ c d z w h g e. absurd cc;
    low_master = λ c z h. absurd cc;
    retuned_master = λ c z h. absurd cc;
    beside = λ c d g w h f e. absurd cc;
    retuned_member = λ d g h. absurd (let n : master no_zones d ≡ None = no_master d in let m : master no_zones d ≡ Some g = h in cc);
    retuned_governor = λ d h. ap (is_part o) (own_self d) ∙ h;
    far = λ d h. own_self d;
  };
  sets = λ e ns silent. record {
    zones_are = refl;
    masters = λ c z h. absurd cc;
    members = λ d g low h. absurd (let n : master no_zones d ≡ None = no_master d in let m : master no_zones d ≡ Some g = h in cc);
    notes = refl;
  };
  members = λ c w h. absurd cc;
  two = omega arith;
  few = tt;
  each = tt;
}
  where
    own_self : (d : ℕ) → governor no_zones d ≡ d
    own_self d = own_governor d

-- ---- one zone

one_members : (c a : ℕ) → suc a ≤ 15 → AreMembers (zone_with false (c, suc a) ∷ []) (zone_with false (c, suc a))
one_members c a few = record {
  is = λ i l. (let k : i < suc a = l in lower_master (record { lower = suc a; upper = 0 }) (1 + i) (omega arith)
      (let g : 1 + i ≤ suc a = omega (arith, k) in g));
  low = λ i l. (let k : i < suc a = l in let g : 1 + i < 16 = omega (arith, k, few) in g);
  apart = λ i j l m e. (let g : 1 + i ≡ 1 + j = e in omega (arith, g));
}

one_asked : Laws → (o : Options) → o.route ≡ ByMpe → (c a : ℕ) → c < 16 → is_part o c ≡ true → suc a ≤ 15 → (o.keep_drums ≡ true → suc a ≤ 8) →
    Asked o (zone_with false (c, suc a) ∷ [])
one_asked laws o route c a low part few drums = record {
  row = one_are_zones o c a route low part drums;
  sets = one_sets_up laws o c a few;
  members = λ d w h. each_of (AreMembers (zone_with false (c, suc a) ∷ [])) d (zone_with false (c, suc a)) [] (one_members c a few)
      (none_of (AreMembers (zone_with false (c, suc a) ∷ [])) d) w h;
  two = omega arith;
  few = (few, tt);
  each = (first_found (zone_with false (c, suc a)) [], tt);
}

-- ---- two

lower_ones : (c d a b : ℕ) → suc a + suc b ≤ 14 →
    AreMembers (zone_with false (c, suc a) ∷ zone_with true (d, suc b) ∷ []) (zone_with false (c, suc a))
lower_ones c d a b few = record {
  is = λ i l. (let k : i < suc a = l in lower_master (record { lower = suc a; upper = suc b }) (1 + i) (omega arith)
      (let g : 1 + i ≤ suc a = omega (arith, k) in g));
  low = λ i l. (let k : i < suc a = l in let g : 1 + i < 16 = omega (arith, k, few) in g);
  apart = λ i j l m e. (let g : 1 + i ≡ 1 + j = e in omega (arith, g));
}

upper_ones : (c d a b : ℕ) → suc a + suc b ≤ 14 →
    AreMembers (zone_with false (c, suc a) ∷ zone_with true (d, suc b) ∷ []) (zone_with true (d, suc b))
upper_ones c d a b few = record {
  is = λ i l. (let k : i < suc b = l in upper_master (record { lower = suc a; upper = suc b }) (14 - i)
      (let g : suc a < 14 - i = omega (arith, k, few) in g) (let g : 15 - suc b ≤ 14 - i = omega (arith, k, few) in g) (omega arith));
  low = λ i l. (let g : 14 - i < 16 = omega arith in g);
  apart = λ i j l m e. (let k : i < suc b = l in let q : j < suc b = m in let g : 14 - i ≡ 14 - j = e in omega (arith, g, k, q, few));
}

two_asked : Laws → (o : Options) → o.route ≡ ByMpe → (c d a b : ℕ) → c < 16 → d < 16 → c ≢ d → is_part o c ≡ true → is_part o d ≡ true →
    suc a + suc b ≤ 14 → (o.keep_drums ≡ true → (suc a ≤ 8) × (suc b ≤ 5)) →
    Asked o (zone_with false (c, suc a) ∷ zone_with true (d, suc b) ∷ [])
two_asked laws o route c d a b low_c low_d differ part_c part_d few drums =
    let l : Zone = zone_with false (c, suc a) in
    let u : Zone = zone_with true (d, suc b) in
    let P : Zone → Type 0 = AreMembers (l ∷ u ∷ []) in
    record {
      row = two_are_zones o c d a b route low_c low_d differ part_c part_d few drums;
      sets = two_sets_up laws o c d a b few;
      members = λ q w h. each_of P q l (u ∷ []) (lower_ones c d a b few)
          (each_of P q u [] (upper_ones c d a b few) (none_of P q)) w h;
      two = omega arith;
      few = (omega (arith, few), (omega (arith, few), tt));
      each = (first_found l (u ∷ []), (second_found c d l u differ refl (first_found u []), tt));
    }

-- ---- allowed zones

one_form : (w : Zone) → w.upper ≡ false → zone_with false (w.part, w.members) ≡ w
one_form w h = ap (λ b. let z : Zone = record { part = w.part; upper = b; members = w.members } in z) (sym h)

two_form : (w : Zone) → w.upper ≡ true → zone_with true (w.part, w.members) ≡ w
two_form w h = ap (λ b. let z : Zone = record { part = w.part; upper = b; members = w.members } in z) (sym h)

-- a number that isn't 0
one_less : (n : ℕ) → 0 < n → (a : ℕ) × (suc a ≡ n)
one_less zero h = absurd (omega (arith, h))
one_less (suc a) h = (a, refl)

under : (b : Bool) (x y n : ℕ) → x ≤ y → n ≤ cond b x y → n ≤ y
under true x y n l h = (let g : n ≤ x = h in omega (arith, l, g))
under false x y n l h = h

kept_under : (b : Bool) (x y n : ℕ) → n ≤ cond b x y → b ≡ true → n ≤ x
kept_under b x y n h e = subst (λ q. n ≤ cond q x y) e h

lone_form : (b : Bool) (l : Zone) → lower_allowed b (l ∷ []) ≡ cond b 8 15
lone_form true l = refl
lone_form false l = refl

pair_form : (b : Bool) (l u : Zone) → lower_allowed b (l ∷ u ∷ []) ≡ cond b 8 (14 - u.members)
pair_form true l u = refl
pair_form false l u = refl

pub allowed_zones : Laws → (o : Options) → o.route ≡ ByMpe → (zones : List Zone) → AreAllowed o o.keep_drums zones → Asked o zones
allowed_zones laws o route [] h = none_asked o route
allowed_zones laws o route (l ∷ []) h =
    let n : (a : ℕ) × (suc a ≡ l.members) = one_less l.members h.some in
    let few : l.members ≤ cond o.keep_drums 8 15 = subst (λ m. l.members ≤ m) (lone_form o.keep_drums l) h.few in
    let form : zone_with false (l.part, suc n.0) ≡ l = ap (λ m. zone_with false (l.part, m)) n.1 ∙ one_form l h.side in
    subst (λ w. Asked o (w ∷ [])) form
    (one_asked laws o route l.part n.0 h.channel h.retuned
    (subst (λ m. m ≤ 15) (sym n.1) (under o.keep_drums 8 15 l.members (omega arith) few))
    (λ k. subst (λ m. m ≤ 8) (sym n.1) (kept_under o.keep_drums 8 15 l.members few k)))
allowed_zones laws o route (l ∷ u ∷ []) h =
    let n : (a : ℕ) × (suc a ≡ l.members) = one_less l.members h.0.some in
    let m : (a : ℕ) × (suc a ≡ u.members) = one_less u.members h.1.0.some in
    let few : l.members ≤ cond o.keep_drums 8 (14 - u.members) = subst (λ x. l.members ≤ x) (pair_form o.keep_drums l u) h.0.few in
    let few_up : u.members ≤ cond o.keep_drums 5 14 = h.1.0.few in
    let eight : o.keep_drums ≡ true → suc n.0 ≤ 8 =
    λ k. subst (λ x. x ≤ 8) (sym n.1) (kept_under o.keep_drums 8 (14 - u.members) l.members few k) in
    let five : o.keep_drums ≡ true → suc m.0 ≤ 5 = λ k. subst (λ x. x ≤ 5) (sym m.1) (kept_under o.keep_drums 5 14 u.members few_up k) in
    let together : suc n.0 + suc m.0 ≤ 14 = elim (cases_Bool o.keep_drums) [
      | inl k ↦ (let x : suc n.0 ≤ 8 = eight k in let y : suc m.0 ≤ 5 = five k in omega (arith, x, y))
      | inr k ↦ (let x : suc n.0 ≤ 14 - suc m.0 = subst (λ r. suc n.0 ≤ 14 - r) (sym m.1) (subst (λ r. r ≤ 14 - u.members) (sym n.1)
          (subst (λ b. l.members ≤ cond b 8 (14 - u.members)) k few)) in omega (arith, x))
    ] in
    let form : zone_with false (l.part, suc n.0) ≡ l = ap (λ x. zone_with false (l.part, x)) n.1 ∙ one_form l h.0.side in
    let form_up : zone_with true (u.part, suc m.0) ≡ u = ap (λ x. zone_with true (u.part, x)) m.1 ∙ two_form u h.1.0.side in
    subst (λ w. Asked o (w ∷ u ∷ [])) form (subst (λ w. Asked o (zone_with false (l.part, suc n.0) ∷ w ∷ [])) form_up
    (two_asked laws o route l.part u.part n.0 m.0 h.0.channel h.1.0.channel h.1.1 h.0.retuned h.1.0.retuned together (λ k. (eight k, five k))))
allowed_zones laws o route (l ∷ u ∷ v ∷ zs) h = absurd h

-- ---- the parts of zones

-- they stay allowed where no part is lost
part_kept : (o q : Options) → ((c : ℕ) → is_part o c ≡ true → is_part q c ≡ true) → (upper : Bool) (most : ℕ) (w : Zone) → IsZone o upper most w →
    IsZone q upper most w
part_kept o q f upper most w h =
    record { channel = h.channel; retuned = f w.part h.retuned; side = h.side; some = h.some; few = h.few }

pub allowed_as : (o q : Options) (drums : Bool) → ((c : ℕ) → is_part o c ≡ true → is_part q c ≡ true) → (zones : List Zone) →
    AreAllowed o drums zones → AreAllowed q drums zones
allowed_as o q drums f [] h = tt
allowed_as o q drums f (l ∷ []) h = part_kept o q f false (lower_allowed drums (l ∷ [])) l h
allowed_as o q drums f (l ∷ u ∷ []) h = (
  part_kept o q f false (lower_allowed drums (l ∷ u ∷ [])) l h.0,
  (part_kept o q f true (upper_allowed drums) u h.1.0, h.1.1),
)
allowed_as o q drums f (l ∷ u ∷ v ∷ zs) h = absurd h

-- each has a part
pub allowed_parts : (o : Options) (drums : Bool) (zones : List Zone) → AreAllowed o drums zones → (c : ℕ) (w : Zone) → zone_of c zones ≡ Some w →
    is_part o w.part ≡ true
allowed_parts o drums [] h c w of = none_of (λ (x : Zone). is_part o x.part ≡ true) c w of
allowed_parts o drums (l ∷ []) h c w of =
    let P : Zone → Type 0 = λ x. is_part o x.part ≡ true in each_of P c l [] h.retuned (none_of P c) w of
allowed_parts o drums (l ∷ u ∷ []) h c w of =
    let P : Zone → Type 0 = λ x. is_part o x.part ≡ true in
    each_of P c l (u ∷ []) h.0.retuned (each_of P c u [] h.1.0.retuned (none_of P c)) w of
allowed_parts o drums (l ∷ u ∷ v ∷ zs) h c w of = absurd h

-- ---- the rows

pub row_at : (z : Zone) (k n i : ℕ) → i < n → get_or (members_from z k n) i 0 ≡ member_at z (k + i)
row_at z k zero i h = absurd (omega (arith, h))
row_at z k (suc n) zero h = ap (member_at z) (let e : k ≡ k + 0 = omega arith in e)
row_at z k (suc n) (suc i) h = row_at z (k + 1) n i (omega (arith, h)) ∙ ap (member_at z) (let e : k + 1 + i ≡ k + suc i = omega arith in e)
