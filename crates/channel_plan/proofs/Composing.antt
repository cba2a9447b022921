-- The plan of a source, from what is planned for its ports and what its notes are given.
use Rattle.std.proofs.Common.{◌≡◌, ℕ, zero, suc, Bool, true, false, cond, nat_eq, List, [], ◌∷◌, length, take, map, refl, ap, sym, subst, ◌∙◌}
use Rattle.std.specs.Prelude.{Option, Some, None, option_map, unwrap_or, slice_get}
use Rattle.std.specs.List.{AllByRecursion}
use Rattle.std.proofs.lemmas.Bool.{both_ways, eqb-true}
use Rattle.std.proofs.lemmas.List.{length-map}
use Rattle.mt_base.specs.Midi.{MidiEvent}
use Rattle.retune_model.specs.Options.{Options, Route, ByDump, ByLive, ByBend, ByMpe, bends_notes}
use Rattle.retune_model.specs.Ports.{events_on}
use Rattle.retune_model.specs.Faults.{Targets, is_part, is_bend}
use Rattle.retune_model.specs.Dump.{has_note_on, parts_with_notes}
use Rattle.retune_model.specs.Pairs.{Pair}
use Rattle.retune_model.specs.Places.{nth}
use Rattle.retune_model.specs.PortNeed.{pairs_on, need_of}
use Rattle.retune_model.specs.SourceFaults.{IsFaultless, IsSound}
use Rattle.channel_model.specs.MpeOutput.{Zone as ZoneOf}
use Rattle.channel_model.specs.Rows.{allowed_row}
use Rattle.lifetimes.specs.Views.{pair_of}
use Rattle.channel_plan.specs.declared.fault.PlanFault.{PlanFault}
use Rattle.channel_plan.specs.declared.fault.PlanFault.TheVariants.{Source, TooManyParts, TooManyChannels, Memory}
use Rattle.channel_plan.specs.declared.plan.Zone.{Zone}
use Rattle.channel_plan.specs.declared.plan.ZonePlan.{ZonePlan}
use Rattle.channel_plan.specs.declared.plan.PortPlan.{PortPlan}
use Rattle.channel_plan.specs.declared.plan.Plan.{Plan}
use Rattle.channel_plan.specs.Passing.{AreAsked}
use Rattle.channel_plan.specs.Told.{or_of, port_in, zones_in, used_in, need_in, instant_in, witness_in}
use Rattle.channel_plan.specs.Planned.{instant_of, need_told, position_told, pairs_told, zones_told, zone_told, zone_pairs_told, bend_row, noted_ports, IsPlan}
use Rattle.channel_plan.specs.Finding.{IsPortPlan, ArePlanned}
use Rattle.channel_plan.specs.Giving.{Gives, without_runs}
use Rattle.channel_plan.specs.Refused.{IsRefused}
use Rattle.channel_plan.specs.Surveys.{EndsPass}
use Rattle.channel_plan.proofs.Noting.{PairLaws, with_parts, no_pairs, no_need}
use Rattle.channel_plan.proofs.Ported.{start, at_start, no_zones}

-- ---- the plan of a port, however many runs it counts

told_without : {A : Type 0} (b : A) (f : PortPlan → A) → ((p : PortPlan) → f (without_runs p) ≡ f p) → (ps : List PortPlan) (z : ℕ)
    → or_of b f (port_in (map without_runs ps) z) ≡ or_of b f (port_in ps z)
told_without b f same [] z = refl
told_without b f same (p ∷ ps) z = pick (nat_eq p.number z) (told_without b f same ps z)
  where
    pick : (t : Bool) → or_of b f (port_in (map without_runs ps) z) ≡ or_of b f (port_in ps z)
        → or_of b f (cond t (Some (without_runs p)) (port_in (map without_runs ps) z)) ≡ or_of b f (cond t (Some p) (port_in ps z))
    pick true h = same p
    pick false h = h

told_same : {A : Type 0} (b : A) (f : PortPlan → A) → ((p : PortPlan) → f (without_runs p) ≡ f p) → (ps qs : List PortPlan) (z : ℕ)
    → map without_runs qs ≡ map without_runs ps → or_of b f (port_in qs z) ≡ or_of b f (port_in ps z)
told_same b f same ps qs z alike = sym (told_without b f same qs z) ∙ ap (λ xs. or_of b f (port_in xs z)) alike ∙ told_without b f same ps z

-- each port has a plan, or none
by_port : (P : Option PortPlan → Type 0) (o : Options) (allowed : ℕ → Bool) (table : Targets) (es : List MidiEvent) (ps : List PortPlan) (z : ℕ)
    → AllByRecursion (λ (p : PortPlan). IsPortPlan o allowed table es p.number p) ps → (port_in ps z ≡ None → P None)
    → ((p : PortPlan) → IsPortPlan o allowed table es z p → P (Some p)) → P (port_in ps z)
by_port P o allowed table es [] z each none some = none refl
by_port P o allowed table es (p ∷ ps) z each none some = pick (nat_eq p.number z) refl none (λ g. by_port P o allowed table es ps z each.1 g some)
  where
    pick : (t : Bool) → nat_eq p.number z ≡ t → (cond t (Some p) (port_in ps z) ≡ None → P None)
        → ((port_in ps z ≡ None → P None) → P (port_in ps z)) → P (cond t (Some p) (port_in ps z))
    pick true e g more = some p (subst (λ y. IsPortPlan o allowed table es y p) (eqb-true p.number z e) each.0)
    pick false e g more = more g

-- ---- zones

nth_zone : (f : ZoneOf → Zone) (ps : List ZonePlan) (zs : List ZoneOf) (i : ℕ) → map (λ p. p.zone) ps ≡ map f zs
    → or_of None (λ (x : ZonePlan). Some x.zone) (slice_get ps i) ≡ option_map f (nth i zs)
nth_zone f [] [] i h = refl
nth_zone f [] (z ∷ zs) i h = absurd cc
nth_zone f (p ∷ ps) [] i h = absurd cc
nth_zone f (p ∷ ps) (z ∷ zs) zero h = (let same : p.zone ≡ f z = cc in ap (λ x. Some x) same)
nth_zone f (p ∷ ps) (z ∷ zs) (suc i) h = nth_zone f ps zs i cc

nth_pairs : (f : ZoneOf → List Pair) (ps : List ZonePlan) (zs : List ZoneOf) (i : ℕ) → map (λ p. map pair_of p.pairs.items) ps ≡ map f zs
    → map pair_of (or_of [] (λ (x : ZonePlan). x.pairs.items) (slice_get ps i)) ≡ unwrap_or (option_map f (nth i zs)) []
nth_pairs f [] [] i h = refl
nth_pairs f [] (z ∷ zs) i h = absurd cc
nth_pairs f (p ∷ ps) [] i h = absurd cc
nth_pairs f (p ∷ ps) (z ∷ zs) zero h = cc
nth_pairs f (p ∷ ps) (z ∷ zs) (suc i) h = nth_pairs f ps zs i cc

-- ---- a port without a retuned note

module _ (laws : PairLaws) (o : Options) (table : Targets) (es : List MidiEvent) (asked : AreAsked es) (faultless : IsFaultless o table es) (z
    : ℕ) (silent : has_note_on (is_part o) (events_on z es) ≡ false) where
  sound : is_bend o.route ≡ true → IsSound o table es
  sound e = record { bends = bends o.route e; in_order = asked.order; faultless = faultless }
    where
      bends : (r : Route) → is_bend r ≡ true → bends_notes r ≡ true
      bends ByDump h = absurd cc
      bends ByLive h = absurd cc
      bends ByBend h = refl
      bends ByMpe h = refl

  none_needed : is_bend o.route ≡ true → need_of o (is_part o) table es z ≡ (0, 0)
  none_needed e = no_need laws o (is_part o) table es z (λ c h. h) (sound e) silent

  silent_need : 0 ≡ need_told o table es z
  silent_need = pick (is_bend o.route) refl
    where
      pick : (b : Bool) → is_bend o.route ≡ b → 0 ≡ cond b (need_of o (is_part o) table es z).0 0
      pick true e = sym (ap (λ (n : ℕ × ℕ). n.0) (none_needed e))
      pick false e = refl

  silent_position : 0 ≡ position_told o table es z
  silent_position = pick (is_bend o.route) refl
    where
      pick : (b : Bool) → is_bend o.route ≡ b → 0 ≡ cond b (need_of o (is_part o) table es z).1 0
      pick true e = sym (ap (λ (n : ℕ × ℕ). n.1) (none_needed e))
      pick false e = refl

  silent_pairs : [] ≡ pairs_told o table es z
  silent_pairs = pick (is_bend o.route) refl
    where
      pick : (b : Bool) → is_bend o.route ≡ b → [] ≡ cond b (pairs_on o (is_part o) table es z (position_told o table es z)) []
      pick true e = sym (no_pairs laws o (is_part o) table es z (λ c h. h) (sound e) silent (position_told o table es z))
      pick false e = refl

  without_parts : (cs : List ℕ) → parts_with_notes o (events_on z es) ≡ cs → cs ≡ []
  without_parts [] e = refl
  without_parts (c ∷ cs) e = absurd (both_ways (has_note_on (is_part o) (events_on z es)) silent (with_parts o es z c cs e))

  silent_zones : zones_told o.route o table es z ≡ []
  silent_zones = pick o.route
    where
      pick : (r : Route) → zones_told r o table es z ≡ []
      pick ByDump = refl
      pick ByLive = refl
      pick ByBend = refl
      pick ByMpe = no_zones o table es z (without_parts (parts_with_notes o (events_on z es)) refl)

  silent_row : (allowed : ℕ → Bool) → o.route ≡ ByBend → [] ≡ bend_row o allowed table es z
  silent_row allowed e = sym (ap (λ (n : ℕ × ℕ). take n.0 (allowed_row o allowed)) (none_needed (ap is_bend e)))

-- ---- the whole

module _ (laws : PairLaws) (o : Options) (allowed : ℕ → Bool) (table : Targets) (es : List MidiEvent) (asked : AreAsked es) (faultless : IsFaultless o
    table es) (ps : List PortPlan) (planned : ArePlanned o allowed table es ps) (plan : Plan) (alike : map without_runs plan.ports.items ≡ map
    without_runs ps) where
  each : AllByRecursion (λ (p : PortPlan). IsPortPlan o allowed table es p.number p) ps
  each = planned.ports.each

  of_need : (z : ℕ) → need_in plan z ≡ need_told o table es z
  of_need z = told_same 0 (λ p. p.need) (λ p. refl) ps plan.ports.items z alike
      ∙ by_port (λ x. or_of 0 (λ p. p.need) x ≡ need_told o table es z) o allowed table es ps z each
      (λ none. silent_need laws o table es asked faultless z (planned.silent z none)) (λ p is. is.need)

  of_instant : (z : ℕ) → instant_in plan z ≡ instant_of es (position_told o table es z)
  of_instant z = told_same start (λ p. p.instant) (λ p. refl) ps plan.ports.items z alike
      ∙ by_port (λ x. or_of start (λ p. p.instant) x ≡ instant_of es (position_told o table es z)) o allowed table es ps z each
      (λ none. at_start es ∙ ap (instant_of es) (silent_position laws o table es asked faultless z (planned.silent z none))) (λ p is. is.instant)

  of_witness : (z : ℕ) → map pair_of (witness_in plan z) ≡ pairs_told o table es z
  of_witness z = ap (map pair_of) (told_same [] (λ p. p.pairs.items) (λ p. refl) ps plan.ports.items z alike)
      ∙ by_port (λ x. map pair_of (or_of [] (λ p. p.pairs.items) x) ≡ pairs_told o table es z) o allowed table es ps z each
      (λ none. silent_pairs laws o table es asked faultless z (planned.silent z none)) (λ p is. is.pairs)

  same_zones : (z : ℕ) → zones_in plan z ≡ or_of [] (λ p. p.zones.items) (port_in ps z)
  same_zones z = told_same [] (λ p. p.zones.items) (λ p. refl) ps plan.ports.items z alike

  of_zones : (z : ℕ) → map (λ p. p.zone) (zones_in plan z) ≡ map (zone_told o table es z) (zones_told o.route o table es z)
  of_zones z = ap (map (λ p. p.zone)) (same_zones z)
      ∙ by_port (λ x. map (λ p. p.zone) (or_of [] (λ p. p.zones.items) x) ≡ map (zone_told o table es z) (zones_told o.route o table es z))
      o allowed table es ps z each
      (λ none. sym (ap (map (zone_told o table es z)) (silent_zones laws o table es asked faultless z (planned.silent z none)))) (λ p is. is.zones)

  of_zone_pairs : (z : ℕ) → map (λ p. map pair_of p.pairs.items) (zones_in plan z)
      ≡ map (zone_pairs_told o table es z) (zones_told o.route o table es z)
  of_zone_pairs z = ap (map (λ p. map pair_of p.pairs.items)) (same_zones z)
      ∙ by_port (λ x. map (λ p. map pair_of p.pairs.items) (or_of [] (λ p. p.zones.items) x)
      ≡ map (zone_pairs_told o table es z) (zones_told o.route o table es z)) o allowed table es ps z each
      (λ none. sym (ap (map (zone_pairs_told o table es z)) (silent_zones laws o table es asked faultless z (planned.silent z none))))
      (λ p is. is.zone_pairs)

  of_used : (z : ℕ) → o.route ≡ ByBend → used_in plan z ≡ bend_row o allowed table es z
  of_used z bend = told_same [] (λ p. p.used.items) (λ p. refl) ps plan.ports.items z alike
      ∙ by_port (λ x. or_of [] (λ p. p.used.items) x ≡ bend_row o allowed table es z) o allowed table es ps z each
      (λ none. silent_row laws o table es asked faultless z (planned.silent z none) allowed bend) (λ p is. is.used bend)

  pub is_plan : plan.numbers.items ≡ noted_ports o es → Gives o allowed table es plan → IsPlan o allowed table es plan
  is_plan numbers gives = record {
    ports = numbers;
    need = of_need;
    instant = of_instant;
    witness = of_witness;
    zones = λ z i. nth_zone (zone_told o table es z) (zones_in plan z) (zones_told o.route o table es z) i (of_zones z);
    zone_pairs = λ z i. nth_pairs (zone_pairs_told o table es z) (zones_in plan z) (zones_told o.route o table es z) i (of_zone_pairs z);
    used = of_used;
    channels = gives.channels;
    notes = gives.notes;
    runs = gives.runs;
    run_count = gives.run_count;
  }

-- ---- refusals

pub ends_refused : (o : Options) (allowed : ℕ → Bool) (table : Targets) (es : List MidiEvent) (f : PlanFault) → EndsPass o table es f
    → IsRefused o allowed table es f
ends_refused o allowed table es (Source f) h = h
ends_refused o allowed table es (TooManyParts z n) h = absurd h
ends_refused o allowed table es (TooManyChannels t) h = absurd h
ends_refused o allowed table es Memory h = tt

pub memory_refused : (o : Options) (allowed : ℕ → Bool) (table : Targets) (es : List MidiEvent) (f : PlanFault) → f ≡ Memory
    → IsRefused o allowed table es f
memory_refused o allowed table es f h = subst (IsRefused o allowed table es) (sym h) tt

-- ---- the same options, table and events

pub all_alike : (o p : Options) (table other : Targets) (es fs : List MidiEvent) → o ≡ p → table ≡ other → es ≡ fs
    → (P : Options → Targets → List MidiEvent → Type 0) → P o table es → P p other fs
all_alike o p table other es fs same_options same_table same_events P h =
    subst (P p other) same_events (subst (λ t. P p t es) same_table (subst (λ x. P x table es) same_options h))

pub as_many : (qs ps : List PortPlan) → map without_runs qs ≡ map without_runs ps → length qs ≡ length ps
as_many qs ps h = sym (length-map qs without_runs) ∙ ap length h ∙ length-map ps without_runs
