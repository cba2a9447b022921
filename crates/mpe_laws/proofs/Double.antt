-- The setup of two zones.
use Rattle.std.proofs.Common.{◌≡◌, ◌≢◌, ◌<◌, ◌≤◌, ◌+◌, ◌-◌, ◌⊎◌, arith, ℕ, suc, Bool, true, false, cond, ◌&&◌, List, [], ◌∷◌, ◌++◌, Some, None, refl, ap, sym, ◌∙◌, subst, nat_eq, nat_le, nat_lt, inl, inr}
use Rattle.std.specs.List.{AllByRecursion}
use Rattle.std.proofs.lemmas.Bool.{ne_eqb, eqb-true}
use Rattle.std.proofs.lemmas.List.{append-nil}
use Rattle.mt_base.specs.declared.event.Msg.{Msg}
use Rattle.mt_base.specs.Midi.{MidiEvent}
use Rattle.midi_model.specs.Channel.{default_channel}
use Rattle.midi_model.specs.Zones.{Zones, master, governor, zones_with, no_zones, bend_range, bend_range_at}
use Rattle.retune_model.specs.Options.{ByMpe, Options}
use Rattle.retune_model.specs.Faults.{is_part}
use Rattle.channel_model.specs.MpeOutput.{Zone, zone_with, master_of, zone_of, members_from, range_each, zones_setup}
use Rattle.midi_model.specs.Notes.{Note}
use Rattle.midi_model.specs.Music.{Music, channel_at, play}
use Rattle.midi_model.specs.Bring.{registered}
use Rattle.bend_laws.proofs.Lists.{all_weaker}
use Rattle.bend_laws.proofs.Playing.{saying, play_saying}
use Rattle.bend_laws.proofs.Altered.{all_default}
use Rattle.mpe_laws.specs.Zoned.{member_state, AreZones, IsSetUp, SetsUp, at_defaults}
use Rattle.mpe_laws.proofs.Standing.{Laws}
use Rattle.mpe_laws.proofs.Setting.{all_silent, Calm, SetSize, sizes}
use Rattle.mpe_laws.proofs.Single.{Ranged, Waits, all_ranged, to_members, from_members, smaller, lower, lower_zones, lower_governs, lower_far, part_zero, part_but_nine, drums_nine}

abbrev both : ℕ → ℕ → Zones
both a b = record { lower = suc a; upper = suc b }

abbrev pub two_zones : (c d a b : ℕ) → List Zone
two_zones c d a b = zone_with false (c, suc a) ∷ zone_with true (d, suc b) ∷ []

both_has : (a b d g : ℕ) → suc a + suc b ≤ 14 → master (both a b) d ≡ Some g → ((1 ≤ d) × (d ≤ suc a)) ⊎ ((14 - b ≤ d) × (d < 15))
both_has a b d g few h = pick (nat_le 1 d && nat_le d (suc a)) refl (nat_le (15 - suc b) d && nat_lt d 15) refl
  where
    pick : (p : Bool) → (nat_le 1 d && nat_le d (suc a)) ≡ p → (u : Bool) → (nat_le (15 - suc b) d && nat_lt d 15) ≡ u → ((1 ≤ d) × (d ≤ suc a)) ⊎
        ((14 - b ≤ d) × (d < 15))
    pick true e u f = inl (grind arith, grind arith)
    pick false e true f = inr (grind arith, grind arith)
    pick false e false f = absurd (let k : cond false (Some 0) (cond false (Some 15) None) ≡ Some g = ap (λ q. cond q (Some 0) (cond false
        (Some 15) None)) (sym e) ∙ ap (λ u. cond (nat_le 1 d && nat_le d (suc a)) (Some 0) (cond u (Some 15) None)) (sym f) ∙ h in cc)

both_governor : (a b d : ℕ) → (governor (both a b) d ≡ 0) ⊎ ((governor (both a b) d ≡ 15) ⊎ (governor (both a b) d ≡ d))
both_governor a b d = pick (nat_le 1 d && nat_le d (suc a)) refl (nat_le (15 - suc b) d && nat_lt d 15) refl
  where
    pick : (p : Bool) → (nat_le 1 d && nat_le d (suc a)) ≡ p → (u : Bool) → (nat_le (15 - suc b) d && nat_lt d 15) ≡ u → (governor
        (both a b) d ≡ 0) ⊎ ((governor (both a b) d ≡ 15) ⊎ (governor (both a b) d ≡ d))
    pick true e u f = inl (grind arith)
    pick false e true f = inr (inl (grind arith))
    pick false e false f = inr (inr (grind arith))

both_far : (a b : ℕ) → suc a ≤ 8 → suc b ≤ 5 → governor (both a b) 9 ≡ 9
both_far a b h g = grind arith

its : (c d a b q : ℕ) (z : Zone) → zone_of q (zone_with false (c, suc a) ∷ zone_with true (d, suc b) ∷ []) ≡ Some z → ((c ≡ q) ×
    (master_of z ≡ 0)) ⊎ ((d ≡ q) × (master_of z ≡ 15))
its c d a b q z h = pick (nat_eq c q) refl (nat_eq d q) refl h
  where
    pick : (p : Bool) → nat_eq c q ≡ p → (u : Bool) → nat_eq d q ≡ u → cond p (Some (zone_with false (c, suc a))) (cond u (Some (zone_with true
        (d, suc b))) None) ≡ Some z → ((c ≡ q) × (master_of z ≡ 0)) ⊎ ((d ≡ q) × (master_of z ≡ 15))
    pick true e u f g = (let s : zone_with false (c, suc a) ≡ z = cc in inl (eqb-true c q e, ap master_of (sym s)))
    pick false e true f g = (let s : zone_with true (d, suc b) ≡ z = cc in inr (eqb-true d q f, ap master_of (sym s)))
    pick false e false f g = absurd cc

pub two_are_zones : (o : Options) (c d a b : ℕ) → o.route ≡ ByMpe → c < 16 → d < 16 → c ≢ d → is_part o c ≡ true → is_part o d ≡ true →
    suc a + suc b ≤ 14 → (o.keep_drums ≡ true → (suc a ≤ 8) × (suc b ≤ 5)) → AreZones o (two_zones c d a b)
two_are_zones o c d a b route low_c low_d differ part_c part_d few drums = record {
  route = route;
  low = λ q z h. elim (its c d a b q z h) [
    | inl i ↦ subst (λ k. k < 16) i.0 low_c
    | inr i ↦ subst (λ k. k < 16) i.0 low_d
  ];
  retuned_part = λ q z h. elim (its c d a b q z h) [
    | inl i ↦ ap (is_part o) (sym i.0) ∙ part_c
    | inr i ↦ ap (is_part o) (sym i.0) ∙ part_d
  ];
  own = λ p q z w h g s. elim (its c d a b p z h) [
    | inl i ↦ elim (its c d a b q w g) [
      | inl j ↦ sym i.0 ∙ j.0
      | inr j ↦ absurd (let k : 0 ≡ 15 = sym i.1 ∙ s ∙ j.1 in omega (arith, k))
    ]
    | inr i ↦ elim (its c d a b q w g) [
      | inl j ↦ absurd (let k : 15 ≡ 0 = sym i.1 ∙ s ∙ j.1 in omega (arith, k))
      | inr j ↦ sym i.0 ∙ j.0
    ]
  ];
  low_master = λ q z h. elim (its c d a b q z h) [
    | inl i ↦ subst (λ k. k < 16) (sym i.1) (omega arith)
    | inr i ↦ subst (λ k. k < 16) (sym i.1) (omega arith)
  ];
  retuned_master = λ q z h. elim (its c d a b q z h) [
    | inl i ↦ ap (is_part o) i.1 ∙ part_zero o
    | inr i ↦ ap (is_part o) i.1 ∙ part_fifteen
  ];
  beside = λ p q g w h f e. elim (its c d a b p w f) [
    | inl i ↦ (let k : q ≡ 0 = e ∙ i.1 in elim (both_has a b q g few h) [
      | inl j ↦ (let u : 1 ≤ q = j.0 in omega (arith, k, u))
      | inr j ↦ (let u : 14 - b ≤ q = j.0 in omega (arith, k, u, few))
    ])
    | inr i ↦ (let k : q ≡ 15 = e ∙ i.1 in elim (both_has a b q g few h) [
      | inl j ↦ (let u : q ≤ suc a = j.1 in omega (arith, k, u, few))
      | inr j ↦ (let u : q < 15 = j.1 in omega (arith, k, u))
    ])
  ];
  retuned_member = λ q g h. part_but_nine o q (λ k e. (let eight : suc a ≤ 8 = (drums k).0 in let five : suc b ≤ 5 = (drums k).1 in elim
      (both_has a b q g few h) [
        | inl j ↦ (let u : q ≤ suc a = j.1 in omega (arith, e, u, eight))
        | inr j ↦ (let u : 14 - b ≤ q = j.0 in omega (arith, e, u, five))
      ]));
  retuned_governor = λ q p. elim (both_governor a b q) [
    | inl h ↦ ap (is_part o) h ∙ part_zero o
    | inr k ↦ elim k [
      | inl h ↦ ap (is_part o) h ∙ part_fifteen
      | inr h ↦ ap (is_part o) h ∙ p
    ]
  ];
  far = λ q h. (let n = drums_nine o q h in ap (governor (both a b)) n.1 ∙ both_far a b (drums n.0).0 (drums n.0).1 ∙ sym n.1);
}
  where
    part_fifteen : is_part o 15 ≡ true
    part_fifteen = part_but_nine o 15 (λ k e. omega (arith, e))

-- ---- the setup

both_zones : (a b : ℕ) → suc a + suc b ≤ 14 → zones_with (Some (15, suc b)) (lower a) ≡ both a b
both_zones a b few = ap (λ u. let z : Zones = record { lower = u; upper = suc b } in z) (ap (λ q. cond q (suc a) 0) (let e : nat_lt
    (suc b + suc a) 15 ≡ true = grind arith in e))

upper_governs : (a b q : ℕ) → suc a + suc b ≤ 14 → 14 - b ≤ q → q < 15 → governor (both a b) q ≡ 15
upper_governs a b q few h g = grind arith

lower_spared : (a b q : ℕ) → suc a + suc b ≤ 14 → q ≤ suc a → nat_eq (governor (both a b) q) 15 ≡ false
lower_spared a b q few h = grind arith

-- a zone's members, where its size was set
pub by_range : Laws → (o : Options) (ns : List Note) (e : MidiEvent) (y : Music) (cs : List ℕ) (b : Bool) → nat_eq o.range 48 ≡ b → Calm ns y →
    AllByRecursion (λ q. (q < 16) × (channel_at y q ≡ member_state 48 8192)) cs → Ranged ns o.range cs y (play y (saying e (cond b []
    (range_each o.range cs))))
by_range laws o ns e y cs true h calm w = (let is : o.range ≡ 48 = eqb-true o.range 48 h in
    record {
      calm = calm;
      zones_are = refl;
      done = all_weaker (λ q. (q < 16) × (channel_at y q ≡ member_state 48 8192))
          (λ q. channel_at y q ≡ member_state o.range 8192) (λ q i. i.1 ∙ ap (λ k. member_state k 8192)
          (sym is)) cs w;
      kept = λ q i. i;
      others = λ q i. refl;
    })
by_range laws o ns e y cs false h calm w = all_ranged laws ns e o.range cs y calm (all_weaker (λ q. (q < 16) ×
    (channel_at y q ≡ member_state 48 8192)) (Waits y) (λ q i. (i.0, (48, i.1))) cs w)

pub two_sets_up : Laws → (o : Options) (c d a b : ℕ) → suc a + suc b ≤ 14 → SetsUp o (two_zones c d a b)
two_sets_up laws o c d a b few e ns silent =
    let l : Zone = zone_with false (c, suc a) in
    let u : Zone = zone_with true (d, suc b) in
    let cs : List ℕ = members_from l 0 (suc a) in
    let ds : List ℕ = members_from u 0 (suc b) in
    let x : Music = at_defaults ns in
    let calm : Calm ns x = record {
      settled = record { notes = λ t. all_silent x.channels no_zones t ns silent; channels = refl };
      notes = refl;
      silent = silent;
    } in
    let y : Music = play x (saying e (registered 0 6 (suc a))) in
    let f : SetSize ns 0 a x y = sizes laws ns x calm e 0 a (omega arith) refl (smaller (suc a) (omega (arith, few))) (all_default 16 0) in
    let waits : AllByRecursion (λ q. (q < 16) × (channel_at y q ≡ member_state 48 8192)) cs = to_members l (λ q. (q < 16) ×
    (channel_at y q ≡ member_state 48 8192)) 0 (suc a)
    (λ i h g. (let q : ℕ = 1 + i in let low : q < 16 = omega (arith, g, few) in let nz : q ≢ 0 = (λ k. omega (arith, k)) in (
      low,
      f.others q low nz ∙ ap (λ w. bend_range_at w 0 q (channel_at x q)) (lower_zones a) ∙ ap (bend_range_at (lower a) 0 q) (all_default 16 q)
          ∙ ap (λ p. cond p (bend_range 2 default_channel) (cond (nat_eq (governor (lower a) q) 0)
          (bend_range 48 default_channel) default_channel)) (ne_eqb q 0 nz)
          ∙ ap (λ p. cond (nat_eq p 0) (bend_range 48 default_channel) default_channel) (lower_governs a q (omega arith) (omega (arith, g))),
    ))) in
    let rest : List Msg = cond (nat_eq o.range 48) [] (range_each o.range cs) in
    let v : Music = play y (saying e rest) in
    let r : Ranged ns o.range cs y v = by_range laws o ns e y cs (nat_eq o.range 48) refl f.calm waits in
    let above : (q : ℕ) → q < 16 → suc a < q → channel_at v q ≡ default_channel = λ q low h.
    (let nz : q ≢ 0 = (λ k. omega (arith, k, h)) in
    r.others q (to_members l (λ p. q ≢ p) 0 (suc a) (λ i s g k. omega (arith, g, k, h))) ∙ f.others q low nz ∙ ap (λ w. bend_range_at w 0 q
    (channel_at x q)) (lower_zones a) ∙ ap (bend_range_at (lower a) 0 q) (all_default 16 q)
    ∙ ap (λ p. cond p (bend_range 2 default_channel) (cond (nat_eq (governor (lower a) q) 0) (bend_range 48 default_channel) default_channel))
    (ne_eqb q 0 nz)
    ∙ ap (λ p. cond p (bend_range 48 default_channel) default_channel) (ap (λ p. nat_eq p 0) (lower_far a q h) ∙ ne_eqb q 0 nz)) in
    let y2 : Music = play v (saying e (registered 15 6 (suc b))) in
    let f2 : SetSize ns 15 b v y2 = sizes laws ns v r.calm e 15 b (omega arith) refl (smaller (suc b) (omega (arith, few))) (above 15
    (omega arith) (omega (arith, few))) in
    let zones2 : zones_with (Some (15, suc b)) v.zones ≡ both a b = ap (zones_with (Some (15, suc b))) (r.zones_are ∙ f.zones_are
    ∙ lower_zones a) ∙ both_zones a b few in
    let spared : (q : ℕ) → q ≤ suc a → channel_at y2 q ≡ channel_at v q = λ q h.
    (let not15 : q ≢ 15 = (λ k. omega (arith, k, h, few)) in
    f2.others q (omega (arith, h, few)) not15 ∙ ap (λ w. bend_range_at w 15 q (channel_at v q)) zones2
    ∙ ap (λ p. cond p (bend_range 2 (channel_at v q)) (cond (nat_eq (governor (both a b) q) 15) (bend_range 48 (channel_at v q))
    (channel_at v q))) (ne_eqb q 15 not15)
    ∙ ap (λ p. cond p (bend_range 48 (channel_at v q)) (channel_at v q)) (lower_spared a b q few h)) in
    let waits2 : AllByRecursion (λ q. (q < 16) × (channel_at y2 q ≡ member_state 48 8192)) ds = to_members u (λ q. (q < 16) ×
    (channel_at y2 q ≡ member_state 48 8192)) 0 (suc b)
    (λ i h g. (let q : ℕ = 14 - i in let low : q < 16 = omega arith in let not15 : q ≢ 15 = (λ k. omega (arith, k)) in (
      low,
      f2.others q low not15 ∙ ap (λ w. bend_range_at w 15 q (channel_at v q)) zones2 ∙ ap (bend_range_at (both a b) 15 q) (above q low (omega
          (arith, g, few)))
          ∙ ap (λ p. cond p (bend_range 2 default_channel) (cond (nat_eq (governor (both a b) q) 15)
          (bend_range 48 default_channel) default_channel)) (ne_eqb q 15 not15)
          ∙ ap (λ p. cond (nat_eq p 15) (bend_range 48 default_channel) default_channel) (upper_governs a b q few (omega (arith, g)) (omega arith)),
    ))) in
    let rest2 : List Msg = cond (nat_eq o.range 48) [] (range_each o.range ds) in
    let w : Music = play y2 (saying e rest2) in
    let r2 : Ranged ns o.range ds y2 w = by_range laws o ns e y2 ds (nat_eq o.range 48) refl f2.calm waits2 in
    let low_kept : (q : ℕ) → q ≤ suc a → channel_at w q ≡ channel_at v q = λ q h. r2.others q (to_members u (λ p. q ≢ p) 0 (suc b)
    (λ i s g k. omega (arith, g, k, h, few))) ∙ spared q h in
    let L : List Msg = registered 0 6 (suc a) ++ rest in
    let U : List Msg = registered 15 6 (suc b) ++ rest2 in
    let same : play x (saying e (zones_setup o.range (two_zones c d a b))) ≡ w =
    ap (λ ms. play x (saying e (L ++ ms))) (append-nil U) ∙ play_saying x e L U ∙ ap (λ n. play n (saying e U)) (play_saying x e (registered 0 6
    (suc a)) rest) ∙ play_saying v e (registered 15 6 (suc b)) rest2 in
    let done : IsSetUp o (two_zones c d a b) ns w = record {
      zones_are = r2.zones_are ∙ f2.zones_are ∙ zones2;
      masters = λ q z h. elim (its c d a b q z h) [
        | inl i ↦ ap (λ k. channel_at w k) i.1 ∙ low_kept 0 (omega arith) ∙ r.others 0 (to_members l (λ p. 0 ≢ p) 0 (suc a) (λ i s g k. omega
            (arith, k))) ∙ f.here
        | inr i ↦ ap (λ k. channel_at w k) i.1 ∙ r2.others 15 (to_members u (λ p. 15 ≢ p) 0 (suc b) (λ i s g k. omega (arith, k))) ∙ f2.here
      ];
      members = λ q g low h. elim (both_has a b q g few h) [
        | inl j ↦ (let k : 1 + (q - 1) ≡ q = (let one : 1 ≤ q = j.0 in omega (arith, one)) in
            low_kept q j.1 ∙ subst (λ p. channel_at v p ≡ member_state o.range 8192) k (from_members l
            (λ p. channel_at v p ≡ member_state o.range 8192) 0 (suc a) r.done (q - 1) (omega arith) (let top : q ≤ suc a = j.1 in omega
            (arith, top))))
        | inr j ↦ (let k : 14 - (14 - q) ≡ q = (let top : q < 15 = j.1 in omega (arith, top)) in
            subst (λ p. channel_at w p ≡ member_state o.range 8192) k (from_members u (λ p. channel_at w p ≡ member_state o.range 8192) 0
            (suc b) r2.done (14 - q) (omega arith) (let bottom : 14 - b ≤ q = j.0 in omega (arith, bottom, few))))
      ];
      notes = r2.calm.notes;
    } in
    subst (IsSetUp o (two_zones c d a b) ns) (sym same) done
