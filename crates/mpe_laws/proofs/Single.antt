-- The setup of one zone, the lower; and what is known of it.
use Rattle.std.proofs.Common.{◌≡◌, ◌≢◌, ◌<◌, ◌≤◌, ◌+◌, ◌⊎◌, arith, ℕ, zero, suc, Bool, true, false, cond, not, ◌&&◌, List, [], ◌∷◌, ◌++◌, Some, None, refl, ap, sym, ◌∙◌, subst, nat_eq, nat_le, nat_lt, min, inl, inr}
use Rattle.std.specs.List.{AllByRecursion}
use Rattle.std.proofs.lemmas.Bool.{cases_Bool, cases_eq, cond_both, ne_eqb, eqb-true, not-false}
use Rattle.std.proofs.lemmas.List.{append-nil}
use Rattle.mt_base.specs.declared.event.Msg.{Msg}
use Rattle.mt_base.specs.Midi.{MidiEvent}
use Rattle.midi_model.specs.Channel.{default_channel}
use Rattle.midi_model.specs.Zones.{Zones, no_zones, master, governor, zones_with, bend_range, bend_range_at}
use Rattle.midi_model.specs.Notes.{Note}
use Rattle.midi_model.specs.Music.{Music, channel_at, play}
use Rattle.retune_model.specs.Options.{ByMpe, Options}
use Rattle.retune_model.specs.Faults.{is_part}
use Rattle.channel_model.specs.MpeOutput.{Zone, zone_with, master_of, member_at, members_from, zone_of, range_each, zones_setup}
use Rattle.midi_model.specs.Bring.{registered}
use Rattle.bend_laws.proofs.Lists.{all_weaker}
use Rattle.bend_laws.proofs.Playing.{saying, play_saying}
use Rattle.bend_laws.proofs.Altered.{all_default}
use Rattle.mpe_laws.specs.Zoned.{member_state, AreZones, IsSetUp, SetsUp, at_defaults}
use Rattle.mpe_laws.proofs.Standing.{Laws}
use Rattle.mpe_laws.proofs.Setting.{all_silent, Calm, Went, ranges, SetSize, sizes}

-- ---- the members, one after the other

pub record Ranged (ns : List Note) (range : ℕ) (cs : List ℕ) (x y : Music) : Type 0 where
  pub calm : Calm ns y
  pub zones_are : y.zones ≡ x.zones
  pub done : AllByRecursion (λ q. channel_at y q ≡ member_state range 8192) cs
  pub kept : (q : ℕ) → channel_at x q ≡ member_state range 8192 → channel_at y q ≡ member_state range 8192
  pub others : (q : ℕ) → AllByRecursion (λ d. q ≢ d) cs → channel_at y q ≡ channel_at x q

abbrev pub Waits : Music → ℕ → Type 0
Waits x q = (q < 16) × ((r : ℕ) × (channel_at x q ≡ member_state r 8192))

pub all_ranged : Laws → (ns : List Note) (e : MidiEvent) (range : ℕ) (cs : List ℕ) (x : Music) → Calm ns x → AllByRecursion (Waits x) cs →
    Ranged ns range cs x (play x (saying e (range_each range cs)))
all_ranged laws ns e range [] x calm h = record { calm = calm; zones_are = refl; done = tt; kept = λ q i. i; others = λ q i. refl }
all_ranged laws ns e range (c ∷ cs) x calm h =
    let y : Music = play x (saying e (registered c 0 range)) in
    let f : Went ns c x y (member_state range 8192) = ranges laws ns x calm e c range h.0.1.0 h.0.0 h.0.1.1 in
    let g : Ranged ns range cs y (play y (saying e (range_each range cs))) = all_ranged laws ns e range cs y f.calm
    (all_weaker (Waits x) (Waits y) (λ q i. (
      i.0,
      elim (cases_eq q c) [
        | inl j ↦ (range, ap (channel_at y) j ∙ f.here)
        | inr j ↦ (i.1.0, f.others q j ∙ i.1.1)
      ],
    )) cs h.1) in
    record {
      calm = g.calm;
      zones_are = g.zones_are ∙ f.zones_are;
      done = (g.kept c f.here, g.done);
      kept = λ q i. g.kept q (elim (cases_eq q c) [
        | inl j ↦ ap (channel_at y) j ∙ f.here
        | inr j ↦ f.others q j ∙ i
      ]);
      others = λ q i. g.others q i.1 ∙ f.others q i.0;
    }

pub to_members : (z : Zone) (P : ℕ → Type 0) (k n : ℕ) → ((i : ℕ) → k ≤ i → i < k + n → P (member_at z i)) → AllByRecursion P (members_from z k n)
to_members z P k zero h = tt
to_members z P k (suc n) h = (h k (omega arith) (omega arith), to_members z P (k + 1) n (λ i a b. h i (omega (arith, a)) (omega (arith, b))))

pub from_members : (z : Zone) (P : ℕ → Type 0) (k n : ℕ) → AllByRecursion P (members_from z k n) → (i : ℕ) → k ≤ i → i < k + n → P (member_at z i)
from_members z P k zero h i a b = absurd (omega (arith, a, b))
from_members z P k (suc n) h i a b = elim (cases_eq i k) [
  | inl e ↦ subst (λ j. P (member_at z j)) (sym e) h.0
  | inr e ↦ from_members z P (k + 1) n h.1 i (omega (arith, a, e)) (omega (arith, b))
]

-- ---- one zone

pub smaller : (n : ℕ) → n ≤ 15 → min n 15 ≡ n
smaller n h = grind arith

abbrev pub lower : ℕ → Zones
lower a = record { lower = suc a; upper = 0 }

abbrev pub one_zone : ℕ → ℕ → List Zone
one_zone c a = zone_with false (c, suc a) ∷ []

pub lower_governs : (a d : ℕ) → 1 ≤ d → d ≤ suc a → governor (lower a) d ≡ 0
lower_governs a d h g = grind arith

lower_has : (a d g : ℕ) → master (lower a) d ≡ Some g → (1 ≤ d) × (d ≤ suc a)
lower_has a d g h = pick (nat_le 1 d && nat_le d (suc a)) refl (nat_le 15 d && nat_lt d 15) refl
  where
    pick : (b : Bool) → (nat_le 1 d && nat_le d (suc a)) ≡ b → (u : Bool) → (nat_le 15 d && nat_lt d 15) ≡ u → (1 ≤ d) × (d ≤ suc a)
    pick true e u f = (grind arith, grind arith)
    pick false e true f = absurd (grind arith)
    pick false e false f = absurd (let k : cond false (Some 0) (cond false (Some 15) None) ≡ Some g = ap (λ b. cond b (Some 0) (cond false
        (Some 15) None)) (sym e) ∙ ap (λ u. cond (nat_le 1 d && nat_le d (suc a)) (Some 0) (cond u (Some 15) None)) (sym f) ∙ h in cc)

pub lower_zones : (a : ℕ) → zones_with (Some (0, suc a)) no_zones ≡ lower a
lower_zones a = ap (λ u. let z : Zones = record { lower = suc a; upper = u } in z) (cond_both (nat_lt (suc a + 0) 15) 0 0 (λ u. u ≡ 0) (λ e. refl)
    (λ e. refl))

pub one_sets_up : Laws → (o : Options) (c a : ℕ) → suc a ≤ 15 → SetsUp o (one_zone c a)
one_sets_up laws o c a small e ns silent =
    let z : Zone = zone_with false (c, suc a) in
    let cs : List ℕ = members_from z 0 (suc a) in
    let x : Music = at_defaults ns in
    let calm : Calm ns x = record {
      settled = record { notes = λ t. all_silent x.channels no_zones t ns silent; channels = refl };
      notes = refl;
      silent = silent;
    } in
    let y : Music = play x (saying e (registered 0 6 (suc a))) in
    let f : SetSize ns 0 a x y = sizes laws ns x calm e 0 a (omega arith) refl (smaller (suc a) small) (all_default 16 0) in
    let waits : AllByRecursion (λ q. (q < 16) × (channel_at y q ≡ member_state 48 8192)) cs = to_members z (λ q. (q < 16) ×
    (channel_at y q ≡ member_state 48 8192)) 0 (suc a)
    (λ i h g. (let d : ℕ = 1 + i in let low : d < 16 = omega (arith, g, small) in let nz : d ≢ 0 = (λ k. omega (arith, k)) in (
      low,
      f.others d low nz ∙ ap (λ w. bend_range_at w 0 d (channel_at x d)) (lower_zones a) ∙ ap (bend_range_at (lower a) 0 d) (all_default 16 d)
          ∙ ap (λ b. cond b (bend_range 2 default_channel) (cond (nat_eq (governor (lower a) d) 0)
          (bend_range 48 default_channel) default_channel)) (ne_eqb d 0 nz)
          ∙ ap (λ q. cond (nat_eq q 0) (bend_range 48 default_channel) default_channel) (lower_governs a d (omega arith) (omega (arith, g))),
    ))) in
    let apart : AllByRecursion (λ d. 0 ≢ d) cs = to_members z (λ d. 0 ≢ d) 0 (suc a) (λ i h g k. omega (arith, k)) in
    let rest : List Msg = cond (nat_eq o.range 48) [] (range_each o.range cs) in
    let v : Music = play y (saying e rest) in
    let same : play x (saying e (zones_setup o.range (one_zone c a))) ≡ v =
    ap (λ ms. play x (saying e ms)) (append-nil (registered 0 6 (suc a) ++ rest)) ∙ play_saying x e (registered 0 6 (suc a)) rest in
    let r : Ranged ns o.range cs y v = by_range y cs (nat_eq o.range 48) refl f.calm waits in
    let done : IsSetUp o (one_zone c a) ns v = record {
      zones_are = r.zones_are ∙ f.zones_are ∙ lower_zones a;
      masters = λ d w h. ap (λ q. channel_at v q) (of_one d w h) ∙ r.others 0 apart ∙ f.here;
      members = λ d g low h. (let in_zone = lower_has a d g h in at_member v r.done d in_zone.0 in_zone.1);
      notes = r.calm.notes;
    } in
    subst (IsSetUp o (one_zone c a) ns) (sym same) done
  where
    by_range : (y : Music) (cs : List ℕ) (b : Bool) → nat_eq o.range 48 ≡ b → Calm ns y → AllByRecursion (λ q. (q < 16) ×
        (channel_at y q ≡ member_state 48 8192)) cs → Ranged ns o.range cs y (play y (saying e (cond b [] (range_each o.range cs))))
    by_range y cs true h calm w = (let is : o.range ≡ 48 = eqb-true o.range 48 h in
        record {
          calm = calm;
          zones_are = refl;
          done = all_weaker (λ q. (q < 16) × (channel_at y q ≡ member_state 48 8192))
              (λ q. channel_at y q ≡ member_state o.range 8192) (λ q i. i.1 ∙ ap (λ k. member_state k 8192)
              (sym is)) cs w;
          kept = λ q i. i;
          others = λ q i. refl;
        })
    by_range y cs false h calm w = all_ranged laws ns e o.range cs y calm (all_weaker (λ q. (q < 16) × (channel_at y q ≡ member_state 48 8192))
        (Waits y) (λ q i. (i.0, (48, i.1))) cs w)

    of_one : (d : ℕ) (w : Zone) → zone_of d (one_zone c a) ≡ Some w → master_of w ≡ 0
    of_one d w h = pick (nat_eq c d) h
      where
        pick : (b : Bool) → cond b (Some (zone_with false (c, suc a))) None ≡ Some w → master_of w ≡ 0
        pick true g = (let s : zone_with false (c, suc a) ≡ w = cc in ap master_of (sym s))
        pick false g = absurd cc

    at_member : (v : Music) → AllByRecursion (λ q. channel_at v q ≡ member_state o.range 8192) (members_from (zone_with false (c, suc a)) 0
        (suc a)) → (d : ℕ) → 1 ≤ d → d ≤ suc a → channel_at v d ≡ member_state o.range 8192
    at_member v all zero h g = absurd (omega (arith, h))
    at_member v all (suc i) h g = subst (λ j. channel_at v j ≡ member_state o.range 8192) (let e : 1 + i ≡ suc i = omega arith in e) (from_members
        (zone_with false (c, suc a)) (λ q. channel_at v q ≡ member_state o.range 8192) 0 (suc a) all i (omega arith) (omega (arith, g)))

-- ---- what is known of it

pub part_zero : (o : Options) → is_part o 0 ≡ true
part_zero o = pick o.keep_drums
  where
    pick : (b : Bool) → not (b && nat_eq 0 9) ≡ true
    pick true = refl
    pick false = refl

pub part_but_nine : (o : Options) (d : ℕ) → (o.keep_drums ≡ true → d ≢ 9) → is_part o d ≡ true
part_but_nine o d h = pick o.keep_drums refl
  where
    pick : (b : Bool) → o.keep_drums ≡ b → not (b && nat_eq d 9) ≡ true
    pick true e = ap not (ne_eqb d 9 (h e))
    pick false e = refl

pub drums_nine : (o : Options) (d : ℕ) → is_part o d ≡ false → (o.keep_drums ≡ true) × (d ≡ 9)
drums_nine o d h = pick o.keep_drums refl h
  where
    pick : (b : Bool) → o.keep_drums ≡ b → not (b && nat_eq d 9) ≡ false → (o.keep_drums ≡ true) × (d ≡ 9)
    pick true e g = (e, eqb-true d 9 (not-false (nat_eq d 9) g))
    pick false e g = absurd cc

lower_governor : (a d : ℕ) → ((governor (lower a) d ≡ 0) × (d ≤ suc a)) ⊎ (governor (lower a) d ≡ d)
lower_governor a d = pick (nat_le 1 d && nat_le d (suc a)) refl
  where
    pick : (b : Bool) → (nat_le 1 d && nat_le d (suc a)) ≡ b → ((governor (lower a) d ≡ 0) × (d ≤ suc a)) ⊎ (governor (lower a) d ≡ d)
    pick true e = inl (grind arith, grind arith)
    pick false e = inr (grind arith)

pub lower_far : (a d : ℕ) → suc a < d → governor (lower a) d ≡ d
lower_far a d h = grind arith

pub one_are_zones : (o : Options) (c a : ℕ) → o.route ≡ ByMpe → c < 16 → is_part o c ≡ true → (o.keep_drums ≡ true → suc a ≤ 8) → AreZones o
    (one_zone c a)
one_are_zones o c a route low part drums = record {
  route = route;
  low = λ d z h. subst (λ q. q < 16) (its d z h) low;
  retuned_part = λ d z h. ap (is_part o) (sym (its d z h)) ∙ part;
  own = λ d e z w h g s. sym (its d z h) ∙ its e w g;
  low_master = λ d z h. subst (λ q. q < 16) (sym (of_it d z h)) (omega arith);
  retuned_master = λ d z h. ap (is_part o) (of_it d z h) ∙ part_zero o;
  beside = λ b d g w h f e. (let one : 1 ≤ d = (lower_has a d g h).0 in let z : d ≡ 0 = e ∙ of_it b w f in omega (arith, one, z));
  retuned_member = λ d g h. part_but_nine o d (λ k e. (let top : d ≤ suc a = (lower_has a d g h).1 in let eight : suc a ≤ 8 = drums k in omega
      (arith, top, eight, e)));
  retuned_governor = λ d p. elim (lower_governor a d) [
    | inl h ↦ ap (is_part o) h.0 ∙ part_zero o
    | inr h ↦ ap (is_part o) h ∙ p
  ];
  far = λ d h. (let n = drums_nine o d h in let eight : suc a ≤ 8 = drums n.0 in let nine : d ≡ 9 = n.1 in lower_far a d (omega
      (arith, eight, nine)));
}
  where
    its : (d : ℕ) (z : Zone) → zone_of d (one_zone c a) ≡ Some z → c ≡ d
    its d z h = elim (cases_Bool (nat_eq c d)) [
      | inl e ↦ eqb-true c d e
      | inr e ↦ absurd (let g : cond false (Some (zone_with false (c, suc a))) None ≡ Some z = ap (λ b. cond b (Some (zone_with false
          (c, suc a))) None) (sym e) ∙ h in cc)
    ]

    of_it : (d : ℕ) (z : Zone) → zone_of d (one_zone c a) ≡ Some z → master_of z ≡ 0
    of_it d z h = pick (nat_eq c d) h
      where
        pick : (b : Bool) → cond b (Some (zone_with false (c, suc a))) None ≡ Some z → master_of z ≡ 0
        pick true g = (let s : zone_with false (c, suc a) ≡ z = cc in ap master_of (sym s))
        pick false g = absurd cc
