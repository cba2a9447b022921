-- The zones that the program has of a port are those of the definitions, and few members.
use Rattle.std.proofs.Common.{◌≡◌, ◌≤◌, ◌-◌, ℕ, suc, Bool, true, false, cond, List, [], ◌∷◌, Some, refl, sym, ap, ◌∙◌, length, nat_eq, nat_lt, arith}
use Rattle.std.specs.Prelude.{option_map}
use Rattle.std.proofs.lemmas.Bool.{eqb-true}
use Rattle.mt_base.specs.Midi.{MidiEvent}
use Rattle.retune_model.specs.Options.{Options, Route, ByMpe}
use Rattle.retune_model.specs.Faults.{Targets}
use Rattle.retune_model.specs.Places.{nth}
use Rattle.retune_model.specs.PortNeed.{need_of}
use Rattle.retune_model.specs.Ports.{events_on}
use Rattle.retune_model.specs.Dump.{parts_with_notes}
use Rattle.channel_model.specs.MpeOutput.{Zone, zone_with, zones_for, zone_of}
use Rattle.channel_model.specs.Rows.{only, needs_of, zones_on}
use Rattle.mpe_laws.specs.Sources.{AreAllowed}
use Rattle.channel_plan.specs.Planned.{IsPlan, zone_told, zones_told}
use Rattle.channel_plan.specs.Told.{zone_in}
use Rattle.channel_plan.specs.declared.plan.Plan.{Plan}
use Rattle.mpe_route.specs.Zones.{zones_from, zones_in, AreSmall}

-- at most two
two_at_most : (ns : List (ℕ × ℕ)) → length (zones_for ns) ≤ 2
two_at_most [] = omega arith
two_at_most (p ∷ []) = omega arith
two_at_most (p ∷ q ∷ ns) = pick (nat_lt p.1 q.1)
  where
    pick : (b : Bool) → length (cond b (zone_with false q ∷ zone_with true p ∷ []) (zone_with false p ∷ zone_with true q ∷ [])) ≤ 2
    pick true = omega arith
    pick false = omega arith

-- they are told one by one
told_back : (o : Options) (table : Targets) (es : List MidiEvent) (z : ℕ) (zs : List Zone) → length zs ≤ 2
    → zones_from (option_map (zone_told o table es z) (nth 0 zs)) (option_map (zone_told o table es z) (nth 1 zs)) ≡ zs
told_back o table es z [] h = refl
told_back o table es z (l ∷ []) h = refl
told_back o table es z (l ∷ u ∷ []) h = refl
told_back o table es z (l ∷ u ∷ v ∷ zs) h = absurd (omega (arith, h))

pub zones_are : (o : Options) (allowed : ℕ → Bool) (table : Targets) (es : List MidiEvent) (plan : Plan) (z : ℕ) → o.route ≡ ByMpe
    → IsPlan o allowed table es plan → zones_in plan z ≡ zones_on o table es z
zones_are o allowed table es plan z route h =
    let zs : List Zone = zones_on o table es z in
    let told : (i : ℕ) → zone_in plan z i ≡ option_map (zone_told o table es z) (nth i zs) =
    λ i. h.zones z i ∙ ap (λ (r : Route). option_map (zone_told o table es z) (nth i (zones_told r o table es z))) route in
    ap (λ x. zones_from x (zone_in plan z 1)) (told 0)
    ∙ ap (λ x. zones_from (option_map (zone_told o table es z) (nth 0 zs)) x) (told 1)
    ∙ told_back o table es z zs
    (two_at_most (needs_of (λ c. (need_of o (only c) table es z).0) (parts_with_notes o (events_on z es))))

-- allowed zones are small
pub small : (o : Options) (drums : Bool) (zones : List Zone) → AreAllowed o drums zones → AreSmall zones
small o drums [] h = tt
small o true (l ∷ []) h = let few : l.members ≤ 8 = h.few in omega (arith, few)
small o false (l ∷ []) h = h.few
small o true (l ∷ u ∷ []) h =
    let few : l.members ≤ 8 = h.0.few in
    let few_up : u.members ≤ 5 = h.1.0.few in
    omega (arith, few, few_up)
small o false (l ∷ u ∷ []) h =
    let few : l.members ≤ 14 - u.members = h.0.few in
    let few_up : u.members ≤ 14 = h.1.0.few in
    omega (arith, few, few_up)
small o drums (l ∷ u ∷ v ∷ zs) h = absurd h

-- the zone of a part is one of them, at some place
pub record IsAt (zones : List Zone) (c : ℕ) (w : Zone) : Type 0 where
  pub place : ℕ
  pub is : nth place zones ≡ Some w
  pub part : w.part ≡ c

pub zone_at : (c : ℕ) (zones : List Zone) (w : Zone) → zone_of c zones ≡ Some w → IsAt zones c w
zone_at c [] w h = absurd cc
zone_at c (z ∷ zs) w h = pick (zone_at c zs w) (nat_eq z.part c) refl h
  where
    pick : (zone_of c zs ≡ Some w → IsAt zs c w) → (b : Bool) → nat_eq z.part c ≡ b → cond b (Some z) (zone_of c zs) ≡ Some w
        → IsAt (z ∷ zs) c w
    pick later true e g =
        let same : z ≡ w = cc in
        record { place = 0; is = g; part = ap (λ (x : Zone). x.part) (sym same) ∙ eqb-true z.part c e }
    pick later false e g = let x = later g in record { place = suc x.place; is = x.is; part = x.part }
