-- What is asked of the runs of a port holds of a source without a fault and a plan of its port.
use Rattle.std.proofs.Common.{◌≡◌, ◌<◌, ◌≤◌, ◌&&◌, ℕ, zero, suc, ℤ, pos, negsuc, nat_eq, nat_lt, Bool, true, false, cond, List, [], ◌∷◌, None, refl, ap, sym, ◌∙◌, subst, filter, length, get_or, arith, inl, inr}
use Rattle.std.specs.List.{AllByRecursion, IsDistinct}
use Rattle.std.specs.Set.{is_member}
use Rattle.std.proofs.lemmas.Bool.{both_ways, or_cases, and_left, and_right, and_parts, ne_eqb, ltb-true}
use Rattle.mt_base.specs.Midi.{MidiEvent}
use Rattle.midi_model.specs.WellFormed.{IsWellFormed}
use Rattle.midi_model.specs.Notes.{Note}
use Rattle.midi_model.specs.Music.{Music}
use Rattle.retune_model.specs.Options.{Options}
use Rattle.retune_model.specs.Ports.{Numbered, PortEvents, all_zero, of_port, port_at, music_at, event_at, resets}
use Rattle.retune_model.specs.Faults.{Targets, is_part, int_eq}
use Rattle.retune_model.specs.SourceFaults.{kind_in, kind_behind}
use Rattle.retune_model.specs.Pairs.{Part, Pair, is_same_part, is_same_pair, int_lt, is_earlier_part, is_before}
use Rattle.retune_model.specs.PairOrder.{AreOrdered}
use Rattle.retune_model.specs.Rests.{notes_at, nobody, pairs_at, held_at, begun_pairs, IsAimedPort}
use Rattle.retune_model.specs.RestLaws.{PairsAreOfNotes, OneRunBegins, HeldWasThere, SoundingIsHeld, HeldOrBegun, ResetsEndAll}
use Rattle.retune_model.specs.Runs.{since, OneBegins}
use Rattle.retune_model.specs.PortNeed.{pairs_on, held_on}
use Rattle.retune_model.specs.PortLaws.{PortsAreTimed}
use Rattle.retune_model.specs.FaultLaws.{SoundPortsAreAimed, FaultlessPorts}
use Rattle.channel_model.specs.Rows.{used_row, IsBendPlan}
use Rattle.channel_model.specs.Laws.{ShortestIsFree}
use Rattle.channel_model.specs.BendOutput.{runs_on}
use Rattle.state_laws.specs.StateLaws.{StaysWellFormedWith}
use Rattle.bend_laws.specs.Follows.{Has, SoundAmong}
use Rattle.bend_laws.specs.Positions.{port_event}
use Rattle.bend_laws.proofs.Planning.{source_at, IsPlanned}
use Rattle.bend_laws.proofs.Ticks.{AreTimely}
use Rattle.bend_laws.specs.Bent.{uses, IsBentPort, IsBent}
use Rattle.bend_laws.proofs.Lists.{all_weaker}
use Rattle.bend_laws.proofs.Outputs.{source_played}
use Rattle.bend_laws.proofs.Bridge.{OneSounds, ReceiversStay}
use Rattle.bend_laws.proofs.Wellness.{AreValidTo, wanted_at}
use Rattle.bend_laws.proofs.Rows.{lane_used, lane_apart}
use Rattle.bend_laws.proofs.Runs.{since_kept, HasPlaces, has_places}
use Rattle.bend_laws.proofs.Placing.{event_is, StandsAt, at_place, reset_here, port_within, port_order}
use Rattle.bend_laws.proofs.Sounding.{sound_held, sound_there, begins_one, valid_port}

-- nothing stands twice among the pairs that are held
abbrev pub HeldStandOnce : Type 0
HeldStandOnce = (o : Options) (part : ℕ → Bool) (table : Targets) (port : PortEvents) (k : ℕ) → IsDistinct is_same_pair (held_at o part table port k)

-- where they stand in order

int_apart : (a b : ℤ) → int_lt a b ≡ true → int_eq a b ≡ false
int_apart (pos a) (pos b) h = ne_eqb a b (λ e. let x = ltb-true a b h in omega (arith, x, e))
int_apart (pos a) (negsuc b) h = refl
int_apart (negsuc a) (pos b) h = refl
int_apart (negsuc a) (negsuc b) h = ne_eqb a b (λ e. let x = ltb-true b a h in omega (arith, x, e))

nat_apart : (a b : ℕ) → nat_lt a b ≡ true → nat_eq a b ≡ false
nat_apart a b h = ne_eqb a b (λ e. let x = ltb-true a b h in omega (arith, x, e))

part_apart : (p q : Part) → is_earlier_part p q ≡ true → is_same_part p q ≡ false
part_apart p q h = elim (or_cases (nat_lt p.port q.port) (nat_eq p.port q.port && nat_lt p.channel q.channel) h) [
  | inl l ↦ and_left (nat_eq p.port q.port) (nat_eq p.channel q.channel) (nat_apart p.port q.port l)
  | inr r ↦ and_right (nat_eq p.port q.port) (nat_eq p.channel q.channel)
      (nat_apart p.channel q.channel (and_parts (nat_eq p.port q.port) (nat_lt p.channel q.channel) r).1)
]

before_other : (p q : Pair) → is_before p q ≡ true → is_same_pair p q ≡ false
before_other p q h = elim (or_cases (is_earlier_part p.part q.part) (is_same_part p.part q.part && int_lt p.steps q.steps) h) [
  | inl l ↦ and_left (is_same_part p.part q.part) (int_eq p.steps q.steps) (part_apart p.part q.part l)
  | inr r ↦ and_right (is_same_part p.part q.part) (int_eq p.steps q.steps)
      (int_apart p.steps q.steps (and_parts (is_same_part p.part q.part) (int_lt p.steps q.steps) r).1)
]

pub stand_once : (ps : List Pair) → AreOrdered ps → IsDistinct is_same_pair ps
unfolding IsDistinct
stand_once [] h = tt
stand_once (p ∷ ps) h = (all_weaker (λ q. is_before p q ≡ true) (λ q. is_same_pair p q ≡ false) (before_other p) ps h.0, stand_once ps h.1)

-- what is cited of pairs, faults and channels
pub record PortFacts : Type 0 where
  pub within : HeldWasThere
  pub sounding : SoundingIsHeld
  pub next : HeldOrBegun
  pub once : HeldStandOnce
  pub pairs : PairsAreOfNotes
  pub one : OneRunBegins
  pub reset : ResetsEndAll
  pub aimed : SoundPortsAreAimed
  pub fine : FaultlessPorts
  pub timed : PortsAreTimed
  pub free : ShortestIsFree
  pub one_sounds : OneSounds
  pub stay : ReceiversStay
  pub given : StaysWellFormedWith

-- ---- notes by their numbers

at_number : (P : Note → Type 0) (xs : List Note) (i : ℕ) → AllByRecursion P xs → i < length xs → P (get_or xs i nobody)
at_number P [] i h l = absurd (omega (arith, l))
at_number P (x ∷ xs) zero h l = h.0
at_number P (x ∷ xs) (suc i) h l = at_number P xs i h.1 (omega (arith, l))

of_parts : (part : ℕ → Bool) (ns : List Note) → AllByRecursion (λ (n : Note). part n.channel ≡ true) (filter (λ (n : Note). part n.channel) ns)
of_parts part [] = tt
of_parts part (n ∷ ns) = pick (part n.channel) refl (of_parts part ns)
  where
    rest : List Note
    rest = filter (λ (x : Note). part x.channel) ns

    pick : (b : Bool) → part n.channel ≡ b → AllByRecursion (λ (x : Note). part x.channel ≡ true) rest →
        AllByRecursion (λ (x : Note). part x.channel ≡ true) (cond b (n ∷ rest) rest)
    pick true e g = (e, g)
    pick false e g = g

-- ---- what sounds holds its channel

-- ---- what an event begins

-- ---- the pairs of a port

record IsOfPort (o : Options) (z : ℕ) (p : Pair) : Type 0 where
  port : p.part.port ≡ z
  part : is_part o p.part.channel ≡ true

of_port_pair : PairsAreOfNotes → (o : Options) (table : Targets) (port : PortEvents) (last : ℕ) → IsAimedPort o (is_part o) table port → (k : ℕ)
    (p : Pair) → k ≤ last → Has (pairs_at o (is_part o) table port k) p → IsOfPort o port.number p
of_port_pair law o table port last aimed k p low h =
    let all : List Note = notes_at (is_part o) port.events last in
    let it = (law o (is_part o) table port last aimed).each k p low h in
    subst (IsOfPort o port.number) it.3 (record {
      port = refl;
      part = at_number (λ n. is_part o n.channel ≡ true) all it.0 (of_parts (is_part o) (music_at port.events last).notes) it.1;
    })

-- ---- a port of a source

pub timely_port : PortsAreTimed → (o : Options) (allowed : ℕ → Bool) (table : Targets) (es : List MidiEvent) (need : ℕ → ℕ)
    (channel : ℕ → ℕ → Pair → ℕ) → IsBent o allowed table es need channel → (z : ℕ) → AreTimely (of_port z es) (length es)
timely_port timed o allowed table es need channel b z =
    record { rising = (timed z es b.sound.in_order).ascend; within = port_within z es; in_order = port_order 0 z all_zero 0 es b.sound.in_order }

-- the places of the runs of a plan
pub placed_on : PortFacts → (o : Options) (allowed : ℕ → Bool) (table : Targets) (es : List MidiEvent) (need : ℕ → ℕ)
    (channel : ℕ → ℕ → Pair → ℕ) → IsBent o allowed table es need channel → (z instant : ℕ) (row : ℕ → ℕ) →
    IsBendPlan o allowed table es z (need z) instant row (channel z) → (k : ℕ) → k ≤ length es → HasPlaces (pairs_on o (is_part o) table es z)
    (need z) row k
placed_on f o allowed table es need channel b z instant row plan =
    has_places (pairs_on o (is_part o) table es z) (length es) (need z) row
    (f.one o (is_part o) table (port_at es z) (length es) (f.aimed o (is_part o) table es z (λ c h. h) b.sound))
    (f.free o table es z (need z) row plan.takes)

pub planned_port : PortFacts → (o : Options) (allowed : ℕ → Bool) (table : Targets) (es : List MidiEvent) (need : ℕ → ℕ)
    (channel : ℕ → ℕ → Pair → ℕ) → IsBent o allowed table es need channel → (z : ℕ) →
    IsPlanned IsWellFormed o table (uses o allowed (need z)) (runs_on o table es channel z) (of_port z es) (length es)
planned_port f o allowed table es need channel b z =
    let part : ℕ → Bool = is_part o in
    let port : PortEvents = port_at es z in
    let ns : List Numbered = of_port z es in
    let last : ℕ = length es in
    let n : ℕ = need z in
    let it : IsBentPort o allowed table es z n (channel z) = b.ports z in
    let at : ℕ → List Pair = pairs_on o part table es z in
    let used : List ℕ = used_row o allowed n in
    let aimed : IsAimedPort o part table port = f.aimed o part table es z (λ c h. h) b.sound in
    let rising = (f.timed z es b.sound.in_order).ascend in
    let src : (k : ℕ) → music_at ns k ≡ source_at ns k = λ k. sym (source_played ns rising k) in
    let valid : AreValidTo ns last = valid_port es b.valid z last in
    let one : OneBegins is_same_pair at last = f.one o part table port last aimed in
    let placed : (k : ℕ) → k ≤ last → HasPlaces at n it.row k = placed_on f o allowed table es need channel b z it.instant it.row it.plan in
    let of : (k : ℕ) (p : Pair) → k ≤ last → Has (at k) p → IsOfPort o z p = λ k p low h. of_port_pair f.pairs o table port last aimed k p low h in
    record {
      valid = valid;
      faultless = λ k e low is. (
          let P : Numbered → Type 0 = λ m. (j : ℕ) → m.position ≡ suc j → kind_behind o table false port j m.event ≡ None in
          let s : StandsAt P (suc k) e = at_place P ns (f.fine o table es z b.sound.faultless) (suc k) e is in
          let here : kind_behind o table false port k e ≡ None =
          subst (λ x. kind_behind o table false port k x ≡ None) s.event (s.holds k s.position) in
          subst (λ m. kind_in z o table e.tick m (source_at ns (suc k)) false (at (suc k)) e.what ≡ None) (src k)
          (subst (λ m. kind_in z o table e.tick (music_at ns k) m false (at (suc k)) e.what ≡ None) (src (suc k)) here));
      start = one.none;
      there = λ k low. subst (λ (m : Music). SoundAmong z o table (at k) m.notes) (src k) (sound_there f.within f.sounding o table port aimed k);
      held = λ k low. subst (λ (m : Music). SoundAmong z o table (held_on o part table es z (suc k)) m.notes) (src k)
          (sound_held f.sounding o table port aimed k);
      once = λ k low. f.once o part table port (suc k);
      was_there = λ k p low h. f.within o part table port aimed k p h;
      from = λ k p low h g. (
          let begins : Has (begun_pairs z o part table (event_at ns (suc k))) p = elim (f.next o part table port aimed k p h) [
            | inl held ↦ absurd (both_ways (is_member is_same_pair (held_on o part table es z (suc k)) p) g held)
            | inr begun ↦ begun
          ] in
          begins_one z o table (port_event ns (suc k)) p (subst (λ xs. Has (begun_pairs z o part table xs) p) (event_is 0 ns rising (suc k)) begins));
      kept = λ k p low h g. it.plan.given (suc k) p ∙ ap (λ j. get_or used (it.row j) 0) (since_kept at p k h) ∙ sym (it.plan.given k p);
      apart = λ k p q low h g e. (placed k low).apart p q h g
          (lane_apart o allowed n it.plan.within (it.row (since is_same_pair at p k)) (it.row (since is_same_pair at q k))
          ((placed k low).below p h) ((placed k low).below q g)
          (sym (it.plan.given k p) ∙ e ∙ it.plan.given k q));
      used_at = λ k p low h. subst (λ c. uses o allowed n c ≡ true) (sym (it.plan.given k p))
          (lane_used o allowed n it.plan.within (it.row (since is_same_pair at p k)) ((placed k low).below p h));
      parts = λ k p low h. (of k p low h).part;
      ports = λ k p low h. (of k p low h).port;
      good = λ k p low. wanted_at f.one_sounds f.stay f.given o table b.range ns last valid k low p;
      reset = λ k e low is r. f.reset o part table port k (reset_here ns (suc k) e is (ap resets r));
    }
