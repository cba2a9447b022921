-- What a plan tells of a source is what the definitions say of it, so it is printed alike.
use Rattle.std.proofs.Common.{◌≡◌, ◌≤◌, ◌+◌, ℕ, List, [], ◌∷◌, ◌++◌, length, map, Bool, true, false, cond, refl, ap, sym, ◌∙◌, arith, append-nil}
use Rattle.std.specs.Prelude.{option_map, unwrap_or, flat_map, sum_by, nat_lt}
use Rattle.std.proofs.Math.Path.{fun_ext}
use Rattle.mt_base.specs.Midi.{MidiEvent}
use Rattle.retune_model.specs.Options.{Options, Route, ByDump, ByLive, ByBend, ByMpe}
use Rattle.retune_model.specs.Faults.{Targets}
use Rattle.retune_model.specs.Pairs.{Pair}
use Rattle.retune_model.specs.Places.{nth}
use Rattle.retune_model.specs.Ports.{events_on}
use Rattle.retune_model.specs.PortNeed.{need_of}
use Rattle.retune_model.specs.Dump.{from_up, parts_with_notes}
use Rattle.channel_model.specs.Rows.{needs_of, only}
use Rattle.channel_model.specs.MpeOutput.{Zone as ZoneOf, zones_for, zone_with}
use Rattle.lifetimes.specs.Views.{pair_of}
use Rattle.channel_plan.specs.declared.plan.Plan.{Plan}
use Rattle.channel_plan.specs.declared.plan.Zone.{Zone}
use Rattle.channel_plan.specs.Told.{ports_in, instant_in, witness_in, zone_in, zone_pairs_in}
use Rattle.channel_plan.specs.Planned as planned
use Rattle.plan_report.specs.Texts.{need_line, pair_lines, zone_line, port_lines}
use Rattle.plan_report.specs.Told.{need_told, zone_lines_if, zone_told, zones_told, members_if, channels_of_port, channels_below, channels_told}
use Rattle.plan_report.specs.Reported.{port_need, port_zones, port_channels, channels_reported, PlansAreReported}

-- ---- a port has at most two zones

few_zones : (ps : List (ℕ × ℕ)) → length (zones_for ps) ≤ 2
few_zones [] = omega arith
few_zones (p ∷ []) = omega arith
few_zones (p ∷ q ∷ ps) = pick (nat_lt p.1 q.1)
  where
    pick : (b : Bool) → length (cond b (zone_with false q ∷ zone_with true p ∷ []) (zone_with false p ∷ zone_with true q ∷ [])) ≤ 2
    pick true = omega arith
    pick false = omega arith

few_told : (route : Route) (o : Options) (table : Targets) (es : List MidiEvent) (z : ℕ) → length (planned.zones_told route o table es z) ≤ 2
few_told ByMpe o table es z = few_zones (needs_of (λ c. (need_of o (only c) table es z).0) (parts_with_notes o (events_on z es)))
few_told ByDump o table es z = omega arith
few_told ByLive o table es z = omega arith
few_told ByBend o table es z = omega arith

two_pieces : (told : ZoneOf → Zone) (pairs : ZoneOf → List Pair) (zs : List ZoneOf) → length zs ≤ 2
    → zone_lines_if (option_map told (nth 0 zs)) (unwrap_or (option_map pairs (nth 0 zs)) [])
    ++ zone_lines_if (option_map told (nth 1 zs)) (unwrap_or (option_map pairs (nth 1 zs)) [])
    ≡ flat_map (λ x. zone_line (told x) ++ pair_lines (pairs x)) zs
two_pieces told pairs [] few = refl
two_pieces told pairs (x ∷ []) few = refl
two_pieces told pairs (x ∷ y ∷ []) few =
    ap (λ t. (zone_line (told x) ++ pair_lines (pairs x)) ++ t) (sym (append-nil (zone_line (told y) ++ pair_lines (pairs y))))
two_pieces told pairs (x ∷ y ∷ w ∷ zs) few = absurd (omega (arith, few))

two_counts : (told : ZoneOf → Zone) (zs : List ZoneOf) (need : ℕ) → ((x : ZoneOf) → (told x).need ≡ x.members) → length zs ≤ 2
    → need + members_if (option_map told (nth 0 zs)) + members_if (option_map told (nth 1 zs)) ≡ need + sum_by (λ x. x.members) zs
two_counts told [] need same few = omega arith
two_counts told (x ∷ []) need same few = omega (arith, same x)
two_counts told (x ∷ y ∷ []) need same few = omega (arith, same x, same y)
two_counts told (x ∷ y ∷ w ∷ zs) need same few = absurd (omega (arith, few))

-- ---- port by port

needs : (o : Options) (allowed : ℕ → Bool) (table : Targets) (es : List MidiEvent) (plan : Plan) → planned.IsPlan o allowed table es plan
    → (z : ℕ) → need_told plan z ≡ port_need o table es z
needs o allowed table es plan p z =
    ap (λ n. need_line n (instant_in plan z) ++ pair_lines (map pair_of (witness_in plan z))) (p.need z)
    ∙ ap (λ i. need_line (planned.need_told o table es z) i ++ pair_lines (map pair_of (witness_in plan z))) (p.instant z)
    ∙ ap (λ ps. need_line (planned.need_told o table es z) (planned.instant_of es (planned.position_told o table es z)) ++ pair_lines ps)
    (p.witness z)

zone_at : (o : Options) (allowed : ℕ → Bool) (table : Targets) (es : List MidiEvent) (plan : Plan) → planned.IsPlan o allowed table es plan
    → (z i : ℕ) → zone_told plan z i
    ≡ zone_lines_if (option_map (planned.zone_told o table es z) (nth i (planned.zones_told o.route o table es z)))
    (unwrap_or (option_map (planned.zone_pairs_told o table es z) (nth i (planned.zones_told o.route o table es z))) [])
zone_at o allowed table es plan p z i =
    ap (λ x. zone_lines_if x (map pair_of (zone_pairs_in plan z i))) (p.zones z i)
    ∙ ap (zone_lines_if (option_map (planned.zone_told o table es z) (nth i (planned.zones_told o.route o table es z)))) (p.zone_pairs z i)

zones : (o : Options) (allowed : ℕ → Bool) (table : Targets) (es : List MidiEvent) (plan : Plan) → planned.IsPlan o allowed table es plan
    → (z : ℕ) → zones_told plan z ≡ port_zones o table es z
zones o allowed table es plan p z =
    ap (λ t. t ++ zone_told plan z 1) (zone_at o allowed table es plan p z 0)
    ∙ ap (λ t. zone_lines_if (option_map (planned.zone_told o table es z) (nth 0 (planned.zones_told o.route o table es z)))
    (unwrap_or (option_map (planned.zone_pairs_told o table es z) (nth 0 (planned.zones_told o.route o table es z))) []) ++ t)
    (zone_at o allowed table es plan p z 1)
    ∙ two_pieces (planned.zone_told o table es z) (planned.zone_pairs_told o table es z) (planned.zones_told o.route o table es z)
    (few_told o.route o table es z)

channels : (o : Options) (allowed : ℕ → Bool) (table : Targets) (es : List MidiEvent) (plan : Plan) → planned.IsPlan o allowed table es plan
    → (z : ℕ) → channels_of_port plan z ≡ port_channels o table es z
channels o allowed table es plan p z =
    ap (λ n. n + members_if (zone_in plan z 0) + members_if (zone_in plan z 1)) (p.need z)
    ∙ ap (λ x. planned.need_told o table es z + members_if x + members_if (zone_in plan z 1)) (p.zones z 0)
    ∙ ap (λ x. planned.need_told o table es z
    + members_if (option_map (planned.zone_told o table es z) (nth 0 (planned.zones_told o.route o table es z))) + members_if x) (p.zones z 1)
    ∙ two_counts (planned.zone_told o table es z) (planned.zones_told o.route o table es z) (planned.need_told o table es z) (λ x. refl)
    (few_told o.route o table es z)

-- ---- on all ports

lines_alike : (f g : ℕ → List ℕ) (ports others : List ℕ) → ((z : ℕ) → f z ≡ g z) → ports ≡ others → port_lines f ports ≡ port_lines g others
lines_alike f g ports others same are = ap (λ h. port_lines h ports) (fun_ext same) ∙ ap (port_lines g) are

counts_alike : (o : Options) (table : Targets) (es : List MidiEvent) (plan : Plan) → ((z : ℕ) → channels_of_port plan z ≡ port_channels o table es z)
    → channels_told plan ≡ channels_reported o table es
unfolding channels_below channels_reported
counts_alike o table es plan same = ap (λ h. sum_by h (from_up 0 256)) (fun_ext same)

pub plans_are_reported : PlansAreReported
plans_are_reported o allowed table es plan p = record {
  needs = lines_alike (need_told plan) (port_need o table es) (ports_in plan) (planned.noted_ports o es) (needs o allowed table es plan p) p.ports;
  zones = lines_alike (zones_told plan) (port_zones o table es) (ports_in plan) (planned.noted_ports o es) (zones o allowed table es plan p) p.ports;
  channels = counts_alike o table es plan (channels o allowed table es plan p);
}
